pub mod SaysLaws
pub mod NumeralLaws
pub mod DigitsLaws
pub mod FormLaws
pub mod Wrong
