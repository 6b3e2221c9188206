-- What is computed (Values), and a slot's step on the registers (Step).
pub mod Values
pub mod Step
