use native.Mathlib.Nat.{add-zero}
use mathlib.Core.Path.{◌∙◌}
use Rattle.base.proofs.Tests.{eqb-true}
use Rattle.x86.specs.Decode.{number}
use Rattle.x86_reader.proofs.groups.store_byte_at.Goals as goal

pub returns-in_err-imm : goal.returns-in_err-imm
unfolding number
returns-in_err-imm c =
    let zero = eqb-true _ _ c.if-reg-eq0.true in
    λ k f m. c.memory_at.ensures k m
    ∙ rw c.in_ok-reg.was (f _ _ _ _ ∙ rw (zero, c.byte_at.ensures, c.in_err-imm.was, c.from_residual-in_err-imm.ensures))

pub returns-then-reg-eq0 : goal.returns-then-reg-eq0
unfolding number
returns-then-reg-eq0 c =
    let zero = eqb-true _ _ c.if-reg-eq0.true in
    λ k f m. c.memory_at.ensures k m
    ∙ rw c.in_ok-reg.was (f _ _ _ _ ∙ rw (zero, c.byte_at.ensures, c.in_ok-imm.was, c.from.ensures, add-zero))
