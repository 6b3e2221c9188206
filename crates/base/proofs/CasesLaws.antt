-- The laws of specs/Cases.antt.
use mathlib.Core.Path.{◌≡◌, refl}
use mathlib.Core.List.{List, [], ◌∷◌}
use Prim.Native.Nat.{ℕ}
use Rattle.base.proofs.Tests.{eqb-false}
use Rattle.base.specs.Cases.{◌⇒◌, Arm, cases}

-- no arm fits
abbrev pub None : {A : Type 0} → List (Arm A) → ℕ → Type 0
None [] k = Unit {0}
None (n ⇒ a ∷ r) k = None r k × (¬ (k ≡ n))

pub rest : {A : Type 0} (arms : List (Arm A)) (d : A) (k : ℕ) → None arms k → d ≡ cases arms d k
rest [] d k h = refl
rest (n ⇒ a ∷ r) d k h = rw (eqb-false k n h.1) (rest r d k h.0)
