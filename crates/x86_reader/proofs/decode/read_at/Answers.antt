use Rattle.base.proofs.Tests.{eqb-true, eqb-false}
use Rattle.x86.specs.Decode.{decode}
use Rattle.x86_reader.proofs.decode.read_at.Goals as goal

pub returns-in_err-b : goal.returns-in_err-b
unfolding decode
returns-in_err-b c = rw (c.byte_at.ensures, c.in_err-b.was, c.from_residual.ensures)

pub returns-then-b-eq102 : goal.returns-then-b-eq102
unfolding decode
returns-then-b-eq102 c = rw (c.byte_at.ensures, c.in_ok-b.was, eqb-true _ _ c.if-b-eq102.true) c.narrow_at.ensures

pub returns : goal.returns
unfolding decode
returns c =
    rw (c.byte_at.ensures, c.in_ok-b.was, eqb-false _ _ c.if-b-eq102.false)
    (rw (c.byte_at.ensures, c.in_ok-b.was) at c.usual_at.ensures)
