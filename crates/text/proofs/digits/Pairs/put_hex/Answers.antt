use native.Mathlib.Omega.{arith}
use Rattle.text.proofs.SaysLaws.{same}
use Rattle.text.proofs.DigitsLaws.{hex-is}
use Rattle.text.proofs.digits.Pairs.put_hex.Goals as goal

pub put_digits-requires : goal.put_digits-requires
put_digits-requires c = rw (hex-is c.args.n (omega arith)) c.requires

pub returns : goal.returns
returns c = same c.put_digits.ensures (hex-is _ (omega arith))
