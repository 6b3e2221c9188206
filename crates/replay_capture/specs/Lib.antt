-- What is answered and left for a packet (Packet), for a part of a capture (Windowed) and for a capture (Captured), of the parameters by their
-- names (Lent); and what only the passes speak of (Counted, Going, PassesLent).
pub mod Decided
pub mod Packet
pub mod Windowed
pub mod Captured
pub mod Lent
pub mod Counted
pub mod Going
pub mod PassesLent
