-- What holds the meaning: worked steps (Worked), an interpreter's steps (MeaningTests), what is true of every step (MeaningLaws), and wrong
-- meanings refuted (Useless).
pub mod Worked
pub mod MeaningTests
pub mod MeaningLaws
pub mod Useless
