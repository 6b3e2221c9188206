use native.Mathlib.Nat.{add-zero}
use mathlib.Core.Path.{◌∙◌}
use Rattle.base.proofs.Tests.{eqb-true}
use Rattle.x86.specs.Decode.{number}
use Rattle.x86_reader.proofs.groups.rotate_at.Goals as goal

pub returns-in_err-count : goal.returns-in_err-count
unfolding number
returns-in_err-count c =
    let zero = eqb-true _ _ c.if-reg-eq0.true in
    λ k f m. c.registers_at.ensures k m
    ∙ rw c.in_ok-reg.was (f _ _ _ ∙ rw (zero, c.byte_at.ensures, c.in_err-count.was, c.from_residual-in_err-count.ensures))

pub returns-then-reg-eq0 : goal.returns-then-reg-eq0
unfolding number
returns-then-reg-eq0 c =
    let zero = eqb-true _ _ c.if-reg-eq0.true in
    λ k f m. c.registers_at.ensures k m
    ∙ rw c.in_ok-reg.was (f _ _ _ ∙ rw (zero, c.byte_at.ensures, c.in_ok-count.was, add-zero))
