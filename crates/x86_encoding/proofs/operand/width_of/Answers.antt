use Rattle.x86.specs.Decode.{rex_of}
use Rattle.base.proofs.Tests.{leb-true, leb-false}
use Rattle.x86_encoding.proofs.operand.width_of.Goals as goal

pub returns-then-bits-ge8 : goal.returns-then-bits-ge8
unfolding rex_of
returns-then-bits-ge8 c = rw (leb-true _ _ c.if-bits-ge8.true)

pub returns : goal.returns
unfolding rex_of
returns c = rw (leb-false _ _ c.if-bits-ge8.false)
