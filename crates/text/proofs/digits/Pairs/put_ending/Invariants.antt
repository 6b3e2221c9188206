use Rattle.text.proofs.DigitsLaws.{Ending}
use Rattle.text.proofs.digits.Pairs.put_ending.Given as goal

abbrev pub invariant-loop-rest : goal.invariant-loop-rest
invariant-loop-rest l = Ending l.base l.initial.out l.end l.fn.number.n l.out l.rest l.left

abbrev pub decreases-loop-rest : goal.decreases-loop-rest
decreases-loop-rest l = l.rest
