-- Demand 3, what the code does when it is read and run: Demand3 has the four statements. They are about the processor of crate x86_machine,
-- the reader of crate x86, and the places of crate code. proofs/Lib.antt says how they are proved.
pub mod Demand3
