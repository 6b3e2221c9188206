-- The laws of the codes (CodesLaws), and which slots are not run (ModelledLaws).
pub mod CodesLaws
pub mod ModelledLaws
