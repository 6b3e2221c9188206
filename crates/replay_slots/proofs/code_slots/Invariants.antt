use mathlib.Core.Path.{◌≡◌}
use Prim.Native.Nat.{◌≤◌, ◌-◌, ◌/◌}
use lib.ListN.{length}
use Rattle.replay.specs.Run.{is_second}
use Rattle.replay_slots.proofs.CodesLaws.{Below}
use Rattle.replay_slots.proofs.code_slots.Given as goal

abbrev pub invariant-loop-slot : goal.invariant-loop-slot
invariant-loop-slot l =
    (l.slot ≤ l.n) × ((l.second ≡ is_second l.prog l.slot) × (Below l.prog l.codes l.slot × ((length l.codes ≡ length l.initial.codes) × (l.n ≡ length l.prog / 8))))
