use mathlib.Core.Path.{◌∙◌, sym, ap}
use lib.ListN.{length}
use native.Mathlib.Omega.{arith}
use Rattle.text.proofs.SaysLaws.{same}
use Rattle.text.proofs.DigitsLaws.{hex-is, said}
use Rattle.text.proofs.digits.Pairs.put_hex_counted.Goals as goal

pub put_ending-requires : goal.put_ending-requires
put_ending-requires c =
    let digits = c.requires.0 ∙ sym (ap length (hex-is c.args.n (omega arith))) in
    (omega (arith, digits), omega (arith, c.requires.1))

pub returns : goal.returns
returns c =
    let is = hex-is c.args.n (omega arith) in
    let digits = c.requires.0 ∙ sym (ap length is) in
    same (said _ _ _ (omega (arith, digits)) (omega (arith, c.requires.1)) c.put_ending.ensures) is
