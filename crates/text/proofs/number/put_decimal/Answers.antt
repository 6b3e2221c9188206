use Rattle.text.specs.Numerals.{decimal}
use Rattle.text.proofs.number.put_decimal.Goals as goal

pub returns : goal.returns
unfolding decimal
returns c = c.put_numeral.ensures
