pub mod PlaceLaws
pub mod LoadLaws
pub mod StoreLaws
pub mod AccessLaws
pub mod TurnLaws
pub mod Useless
