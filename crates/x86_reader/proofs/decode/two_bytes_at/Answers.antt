use Rattle.base.proofs.Tests.{eqb-true, eqb-false}
use Rattle.x86.specs.Decode.{opcode}
use Rattle.x86_reader.proofs.decode.two_bytes_at.Goals as goal

pub returns-in_err-o : goal.returns-in_err-o
unfolding opcode
returns-in_err-o c = rw (c.byte_at.ensures, c.in_err-o.was, c.from_residual.ensures)

pub returns-then-o-eq-BSWAP : goal.returns-then-o-eq-BSWAP
unfolding opcode
returns-then-o-eq-BSWAP c =
    rw (
      c.byte_at.ensures,
      c.in_ok-o.was,
      eqb-false _ _ c.if-o-eq8.false,
      eqb-true _ _ c.if-o-eq-BSWAP.true,
      c.low_number.ensures,
    )
