use native.Mathlib.Nat.{add-zero}
use Rattle.x86.specs.Decode.{number}
use Rattle.x86_forms.proofs.shift_imm_at.Goals as goal

pub returns-in_err-count : goal.returns-in_err-count
unfolding number
returns-in_err-count c = rw (c.byte_at.ensures, c.in_err-count.was, c.from_residual.ensures)

pub returns : goal.returns
unfolding number
returns c = rw (c.byte_at.ensures, c.in_ok-count.was, add-zero)
