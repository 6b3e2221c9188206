use Rattle.text.specs.Numerals.{decimal}
use Rattle.text.proofs.digits.Pairs.put_decimal.Goals as goal

pub put_digits-requires : goal.put_digits-requires
unfolding decimal
put_digits-requires c = c.requires

pub returns : goal.returns
unfolding decimal
returns c = c.put_digits.ensures
