use mathlib.Core.Path.{refl}
use native.Mathlib.Omega.{arith}
use lib.ListN.{length-set}
use borrow.Author.Count.{below_none}
use Rattle.replay.specs.Run.{is_second}
use Rattle.replay_slots.proofs.CodesLaws.{one_more, opens-next}
use Rattle.replay_slots.proofs.code_slots.Goals as goal

pub loop-slot-init : goal.loop-slot-init
unfolding is_second
loop-slot-init c = (omega arith, (refl, (below_none _, (refl, refl))))

pub loop-slot-preserved : goal.loop-slot-preserved
loop-slot-preserved c =
    let turn = c.loop-slot in
    let prog = c.args.prog in (
      omega arith,
      (
        rw (c.opens-second.ensures, turn.invariant.1.0) (opens-next prog.now turn.slot),
        (
          rw c.code_at.ensures (one_more prog.now turn.codes turn.slot (omega arith) turn.invariant.1.1.0),
          (simp length-set (omega arith), omega arith),
        ),
      ),
    )
