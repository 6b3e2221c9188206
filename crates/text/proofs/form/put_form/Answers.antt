use Prim.Native.Nat.{◌≤◌}
use native.Mathlib.Omega.{arith}
use Rattle.text.proofs.SaysLaws.{turn}
use Rattle.text.proofs.FormLaws.{left-form}
use Rattle.text.proofs.form.put_form.Goals as goal

pub loop-character-preserved : goal.loop-character-preserved
loop-character-preserved c =
    let e : c.numbers_taken-k.result ≤ 1 = c.numbers_taken-k.ensures.1 in (
      omega arith,
      turn c.loop-character.invariant.1 c.put_piece-next.ensures
          (rw (c.number_at.ensures, c.numbers_taken-k.ensures.0) (left-form _ _ _ _ c.loop-character-test.true)),
    )
