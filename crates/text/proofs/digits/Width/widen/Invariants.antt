use Prim.Native.Nat.{◌-◌}
use Rattle.text.proofs.DigitsLaws.{Widening}
use Rattle.text.proofs.digits.Width.widen.Given as goal

abbrev pub invariant-loop-largest : goal.invariant-loop-largest
invariant-loop-largest l = Widening l.n l.digits l.largest

abbrev pub decreases-loop-largest : goal.decreases-loop-largest
decreases-loop-largest l = l.n - l.largest
