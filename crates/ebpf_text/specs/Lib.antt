pub mod Assembler
