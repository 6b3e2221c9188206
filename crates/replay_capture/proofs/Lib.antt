-- The laws of a filter over a capture: whether it is run (DecidedLaws), what is copied (CopyLaws), the totals with a packet more
-- (CountedLaws), what is answered for a packet (PacketLaws), the records that are kept (KeptLaws), a window so far
-- (SoFarLaws), what is answered for a window and a capture (AnswerLaws); and wrong answers refuted (Useless).
pub mod DecidedLaws
pub mod CopyLaws
pub mod CountedLaws
pub mod PacketLaws
pub mod KeptLaws
pub mod SoFarLaws
pub mod AnswerLaws
pub mod Useless
