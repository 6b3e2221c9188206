-- What the contract of the five tests rules out of the two further tables: that a program passes them whose kinds, or whose makers, have no
-- entry for every slot and one more.
use Rattle.std.proofs.Common.{Result, Ok}
use mathlib.Core.Path.{◌≡◌}
use mathlib.Core.List.{List}
use Prim.Native.Nat.{ℕ, ◌/◌, ◌≤◌}
use native.Mathlib.Omega.{arith}
use Rattle.jit.specs.declared.Refusal.{Refusal}
use Rattle.jit_judging.specs.Sizes.{Sizes}
use Rattle.jit_judging.proofs.SizesLaws.{LongEnough, long-enough}

module _ {prog page locations fields targets kinds makers : ℕ} {ids : List ℕ} {addresses : ℕ} where
  long : {r : Result (Unit {0}) Refusal} → r ≡ Ok tt → Sizes prog page locations fields targets kinds makers ids addresses r
      → LongEnough (prog / 8) locations fields targets kinds makers
  long e s = let f = rw e at s.fine in long-enough _ _ _ _ _ _ f.1.1.1.0

  pub kinds-not-looked-at : {r : Result (Unit {0}) Refusal} → kinds ≤ prog / 8 → Sizes prog page locations fields targets kinds makers ids addresses r → r ≡ Ok tt → ⊥
  kinds-not-looked-at h s e = absurd (omega (arith, h, (long e s).fourth))

  pub makers-not-looked-at : {r : Result (Unit {0}) Refusal} → makers ≤ prog / 8 → Sizes prog page locations fields targets kinds makers ids addresses r → r ≡ Ok tt → ⊥
  makers-not-looked-at h s e = absurd (omega (arith, h, (long e s).fifth))
