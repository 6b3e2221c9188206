-- Instructions and what a processor says of them (Instr), code of them (Code), the fields filled (Fill), the bytes read again (Reads), a page
-- with its tables (Page), what two further ones say of its jumps (Jumps), where these land (Landing), and whose each byte is (Lines).
pub mod Instr
pub mod Code
pub mod Fill
pub mod Reads
pub mod Page
pub mod Jumps
pub mod Landing
pub mod Lines
