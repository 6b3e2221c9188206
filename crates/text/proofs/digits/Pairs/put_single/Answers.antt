use mathlib.Core.Path.{refl}
use Rattle.text.proofs.DigitsLaws.{single-is}
use Rattle.text.proofs.digits.Pairs.put_single.Goals as goal

pub returns : goal.returns
returns c = let pairs = c.args.self.now in rw (single-is pairs.table c.args.digit pairs.whole c.requires.0) refl
