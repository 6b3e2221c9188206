use Rattle.x86.specs.Decode.{opcode}
use Rattle.x86_reader.proofs.decode.ret_at.Goals as goal

pub returns-then-x : goal.returns-then-x
unfolding opcode
returns-then-x c = rw c.if-x.true

pub returns : goal.returns
unfolding opcode
returns c = rw c.if-x.false
