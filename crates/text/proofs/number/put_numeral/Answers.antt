use native.Mathlib.Omega.{arith}
use Rattle.text.specs.Numerals.{most_digits}
use Rattle.text.proofs.SaysLaws.{same, stands}
use Rattle.text.proofs.NumeralLaws.{numeral-most}
use Rattle.text.proofs.number.put_numeral.Goals as goal

pub put_digits-end-requires : goal.put_digits-end-requires
put_digits-end-requires c = omega (arith, numeral-most c.args.number.base most_digits c.args.number.n)

pub returns : goal.returns
returns c =
    let a = c.args in
    let made = c.put_digits-end.ensures in
    same c.put_text.ensures (stands made (omega (arith, numeral-most a.number.base most_digits a.number.n)))
