use Rattle.x86.specs.Decode.{with_modrm}
use Rattle.base.proofs.Tests.{eqb-true, eqb-false}
use Rattle.x86_encoding.proofs.operand.modrm_at.Goals as goal

pub returns-in_err-m : goal.returns-in_err-m
unfolding with_modrm
returns-in_err-m c = λ k. rw (c.byte_at.ensures, c.in_err-m.was, c.from_residual.ensures)

pub returns-then-m-eq3 : goal.returns-then-m-eq3
unfolding with_modrm
returns-then-m-eq3 c =
    λ k. rw (
      c.byte_at.ensures,
      c.in_ok-m.was,
      eqb-true _ _ c.if-m-eq3.true,
      c.reg_number-reg.ensures,
      c.low_number-low.ensures,
    )

pub returns-then-m-eq4 : goal.returns-then-m-eq4
unfolding with_modrm
returns-then-m-eq4 c = λ k. rw (c.byte_at.ensures, c.in_ok-m.was, eqb-false _ _ c.if-m-eq3.false, eqb-true _ _ c.if-m-eq4.true)
