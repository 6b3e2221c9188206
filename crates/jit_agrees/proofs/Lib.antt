-- From the ground up: runs (RunsLaws) and where they arrive (AgreesLaws); what a list of instructions does, computed on the list (Lists), and
-- that the page does so (Sound); that the processor's numbers are the RFC's (Arithmetic); the registers behind a list (Restoring),
-- multiplication, division and modulo (Dividing), and every kind of slot (Slots), on their lists; registers (Mapping), blocks (Gave) and
-- locations (Places); the page (OnPage), which slots begin nowhere on it (Halves), and the proof (Proved), slot after slot and along a path
-- (Paths).
-- What holds the statement: states to start from (Starts), how code is refuted by a run (Elsewhere), wrong code for each part of it (Useless),
-- that what it asks is needed (Premises), that off is looked at nowhere (Offsets), and the theorem at work (WorkedAgrees).
pub mod RunsLaws
pub mod AgreesLaws
pub mod Lists
pub mod Sound
pub mod Arithmetic
pub mod Restoring
pub mod Dividing
pub mod Slots
pub mod Mapping
pub mod Gave
pub mod Places
pub mod OnPage
pub mod Halves
pub mod Proved
pub mod Paths
pub mod Starts
pub mod Elsewhere
pub mod Useless
pub mod Premises
pub mod Offsets
pub mod WorkedAgrees
