use Rattle.text.specs.Numerals.{decimal}
use Rattle.text.proofs.digits.count_decimal.Goals as goal

pub returns : goal.returns
unfolding decimal
returns c = c.count.ensures
