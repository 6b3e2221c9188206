use mathlib.Core.Path.{refl}
use Rattle.text.specs.Numerals.{pairs}
use Rattle.text.proofs.digits.Pairs.new.Goals as goal

pub invariant_of-result : goal.invariant_of-result
unfolding pairs
invariant_of-result c = record { whole = refl }
