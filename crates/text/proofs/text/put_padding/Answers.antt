use Rattle.text.proofs.SaysLaws.{turn, left-copies}
use Rattle.text.proofs.text.put_padding.Goals as goal

pub loop-preserved : goal.loop-preserved
loop-preserved c = turn c.loop.invariant c.put_byte-next.ensures (left-copies _ _ _ c.loop-test.true)
