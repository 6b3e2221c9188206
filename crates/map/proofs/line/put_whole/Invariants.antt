use Prim.Native.Nat.{◌+◌}
use mathlib.Core.Path.{◌≡◌}
use lib.ListN.{drop}
use Rattle.text.proofs.SaysLaws.{Leads}
use Rattle.map.proofs.line.put_whole.Given as goal

abbrev pub invariant-loop-x : goal.invariant-loop-x
invariant-loop-x l = (l.next ≡ l.at + l.x-index) × Leads l.initial.out l.at l.text l.out l.next (drop l.x-index l.text)
