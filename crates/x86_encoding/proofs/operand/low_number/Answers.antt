use native.Mathlib.Nat.{zero-add}
use Rattle.x86.specs.Decode.{low_number}
use Rattle.x86_encoding.proofs.operand.low_number.Goals as goal

pub returns-then-x : goal.returns-then-x
unfolding low_number
returns-then-x c = rw c.if-x.true

pub returns : goal.returns
unfolding low_number
returns c = rw (c.if-x.false, zero-add)
