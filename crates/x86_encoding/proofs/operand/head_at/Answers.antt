use Rattle.x86.specs.Decode.{with_rex}
use Rattle.base.proofs.Tests.{eqb-true, eqb-false}
use Rattle.x86_encoding.proofs.operand.head_at.Goals as goal

pub returns-in_err-b : goal.returns-in_err-b
unfolding with_rex
returns-in_err-b c = λ k. rw (c.byte_at.ensures, c.in_err-b.was, c.from_residual.ensures)

pub returns-in_err-opcode : goal.returns-in_err-opcode
unfolding with_rex
returns-in_err-opcode c =
    λ k. rw (
      c.byte_at.ensures,
      c.in_ok-b.was,
      eqb-true _ _ c.if-b-eq4.true,
      c.byte_at-then-b-eq4.ensures,
      c.in_err-opcode.was,
      c.from_residual-in_err-opcode.ensures,
    )

pub returns-then-b-eq4 : goal.returns-then-b-eq4
unfolding with_rex
returns-then-b-eq4 c =
    λ k. rw (
      c.byte_at.ensures,
      c.in_ok-b.was,
      eqb-true _ _ c.if-b-eq4.true,
      c.byte_at-then-b-eq4.ensures,
      c.in_ok-opcode.was,
      c.rex_of.ensures,
    )

pub returns : goal.returns
unfolding with_rex
returns c = λ k. rw (c.byte_at.ensures, c.in_ok-b.was, eqb-false _ _ c.if-b-eq4.false, c.no_rex.ensures)
