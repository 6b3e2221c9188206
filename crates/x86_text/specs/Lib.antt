pub mod Intel
