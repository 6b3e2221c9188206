use mathlib.Core.Path.{◌≡◌, ◌∙◌, ap}
use mir.Syntax.{w64}
use mir.Val.{to_z, of_z}
use Rattle.std.proofs.lemmas.Int.{of_z-to_z}
use Rattle.text.proofs.SaysLaws.{same, then}
use Rattle.text.proofs.NumeralLaws.{behind-plus, behind-minus}
use Rattle.text.proofs.number.put_behind.Goals.{then-number-lt0, else-number-lt0}
use Rattle.text.proofs.number.put_behind.Goals as goal

pub returns : goal.returns
returns c =
    let a = c.args in
    let is : to_z w64 (of_z w64 c.cast_signed-number.result) ≡ to_z w64 a.x =
    ap (λ z. to_z w64 (of_z w64 z)) c.cast_signed-number.ensures ∙ ap (to_z w64) (of_z-to_z w64 a.x c.ranges.x.fits) in
    let said = then c.put_text-next.ensures c.put_decimal.ensures in
    elim c.if-number-lt0.branch [
      | then-number-lt0 w ↦ same said (rw (w.put_text-is, c.unsigned_abs.ensures.value, is) (behind-minus a.plus.now a.minus.now a.x c.ranges.x.fits (rw is at w.if-number-lt0.true)))
      | else-number-lt0 w ↦ same said (rw (w.put_text-is, c.unsigned_abs.ensures.value, is) (behind-plus a.plus.now a.minus.now a.x c.ranges.x.fits (rw is at w.if-number-lt0.false)))
    ]
