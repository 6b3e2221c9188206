use Rattle.text.proofs.SaysLaws.{same}
use Rattle.std.proofs.Common.{eq-eqb, ne_eqb}
use Rattle.refusals_text.specs.Sentences.{no_room}
use Rattle.refusals_text.proofs.put_no_room.Goals as goal

pub returns-then-slot-end : goal.returns-then-slot-end
unfolding no_room
returns-then-slot-end c = same c.put_text.ensures (rw (eq-eqb _ _ c.if-slot-end.true))

pub returns : goal.returns
unfolding no_room
returns c = same c.put_text-2.ensures (rw (ne_eqb _ _ c.if-slot-end.false))
