use lib.ListN.{drop}
use Rattle.text.proofs.SaysLaws.{Leads}
use Rattle.text.proofs.text.put_text.Given as goal

abbrev pub invariant-loop-x : goal.invariant-loop-x
invariant-loop-x l = Leads l.initial.out l.at l.text l.out l.next (drop l.x-index l.text)
