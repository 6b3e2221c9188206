use Rattle.text.proofs.DigitsLaws.{Counting}
use Rattle.text.proofs.digits.Numeral.count.Given as goal

abbrev pub invariant-loop-rest : goal.invariant-loop-rest
invariant-loop-rest l = Counting l.base l.fn.self.n l.rest l.count

abbrev pub decreases-loop-rest : goal.decreases-loop-rest
decreases-loop-rest l = l.rest
