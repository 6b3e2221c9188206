pub mod Options
pub mod Help
pub mod Place
