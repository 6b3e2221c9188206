pub mod RoundTrip
pub mod Lengths
pub mod Displacement
pub mod FillLaws
pub mod CodeLaws
pub mod ReadsLaws
pub mod WellFormed
pub mod JumpKinds
