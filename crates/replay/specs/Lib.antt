-- The memory (Memory), a slot's step and a packet's run (Run), what is reported of a capture (Report), and the refusals' numbers (Refusals).
pub mod Memory
pub mod Run
pub mod Report
pub mod Refusals
