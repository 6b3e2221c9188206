use mathlib.Core.Path.{◌∙◌, ap}
use lib.ListN.{length}
use native.Mathlib.Omega.{arith}
use Rattle.text.proofs.DigitsLaws.{hex-is}
use Rattle.text.proofs.digits.count_hex.Goals as goal

pub returns : goal.returns
returns c =
    let n = c.args.n in
    let counted = c.count.ensures in
    (counted.0 ∙ ap length (hex-is n (omega arith)), counted.1)
