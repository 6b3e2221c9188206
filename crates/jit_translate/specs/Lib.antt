pub mod Translated
pub mod Lent
pub mod Halves
pub mod HalvesLent
