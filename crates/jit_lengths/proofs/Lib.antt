pub mod LengthsLaws
pub mod ByNumber
pub mod Useless
