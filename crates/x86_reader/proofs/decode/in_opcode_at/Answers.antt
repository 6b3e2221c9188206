use Rattle.x86_reader.proofs.Unknown.{middle-unknown}
use Rattle.x86.specs.Decode.{opcode}
use Rattle.x86_reader.proofs.decode.in_opcode_at.Goals as goal

pub returns-in-10 : goal.returns-in-10
unfolding opcode
returns-in-10 c = rw (c.in-10.is, c.low_number.ensures)

pub returns-in-11 : goal.returns-in-11
unfolding opcode
returns-in-11 c = rw (c.in-11.is, c.low_number-in-11.ensures)

pub returns-in_default : goal.returns-in_default
returns-in_default c = middle-unknown _ _ _ c.requires c.in_default.in_default-own.rest
