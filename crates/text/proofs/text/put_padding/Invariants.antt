use Prim.Native.Nat.{◌-◌}
use lib.ListN.{replicate}
use Rattle.text.proofs.SaysLaws.{Leads}
use Rattle.text.proofs.text.put_padding.Given as goal

abbrev pub invariant-loop : goal.invariant-loop
invariant-loop l = Leads l.initial.out l.at (replicate (l.column - l.at) 32) l.out l.next (replicate (l.column - l.counter) 32)
