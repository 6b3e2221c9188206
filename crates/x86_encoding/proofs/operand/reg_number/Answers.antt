use native.Mathlib.Nat.{zero-add}
use Rattle.x86.specs.Decode.{reg_number}
use Rattle.x86_encoding.proofs.operand.reg_number.Goals as goal

pub returns-then-x : goal.returns-then-x
unfolding reg_number
returns-then-x c = rw c.if-x.true

pub returns : goal.returns
unfolding reg_number
returns c = rw (c.if-x.false, zero-add)
