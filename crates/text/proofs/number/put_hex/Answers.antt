use native.Mathlib.Omega.{arith}
use Rattle.text.proofs.SaysLaws.{same}
use Rattle.text.proofs.DigitsLaws.{hex-is}
use Rattle.text.proofs.number.put_hex.Goals as goal

pub returns : goal.returns
returns c = same c.put_numeral.ensures (hex-is _ (omega arith))
