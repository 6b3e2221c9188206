use Rattle.text.proofs.SaysLaws.{turn, left-text}
use Rattle.text.proofs.text.put_text.Goals as goal

pub loop-x-preserved : goal.loop-x-preserved
loop-x-preserved c = turn c.loop-x.invariant c.put_byte-next.ensures (left-text _ _ c.loop-x-test.true)
