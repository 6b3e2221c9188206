use Rattle.cases_bytes.specs.Cases.{filled, id_at}
use lib.ListN.{length}
use mathlib.Core.Path.{◌≡◌}
use Prim.Native.Nat.{◌-◌, ◌≤◌}
use Rattle.cases_bytes.proofs.parts.read_ids.Given as goal

abbrev pub invariant-loop-k : goal.invariant-loop-k
invariant-loop-k l =
    (length l.ids ≡ length l.initial.ids) × (l.k ≤ length l.ids) × (l.ids ≡ filled (id_at l.body l.at) l.k l.initial.ids)
