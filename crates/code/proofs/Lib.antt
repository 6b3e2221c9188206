pub mod Lawful
pub mod CodeLaws
pub mod FillLaws
pub mod Placed
pub mod ReadsLaws
pub mod PageLaws
pub mod JumpsLaws
pub mod LandingLaws
