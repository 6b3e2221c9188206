-- Laws on numbers that the functions' proofs cite, by topic; each over the width where there is one.
pub mod ShiftLaws
pub mod SwapLaws
