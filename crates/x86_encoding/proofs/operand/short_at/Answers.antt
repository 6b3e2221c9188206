use native.Mathlib.Nat.{add-zero}
use Rattle.x86.specs.Decode.{number}
use Rattle.x86_encoding.proofs.operand.short_at.Goals as goal

pub returns-in_err-b : goal.returns-in_err-b
unfolding number
returns-in_err-b c = λ k. rw (c.byte_at.ensures, c.in_err-b.was, c.from_residual.ensures)

pub returns : goal.returns
unfolding number
returns c = λ k. rw (c.byte_at.ensures, c.in_ok-b.was, c.extended.ensures, add-zero)
