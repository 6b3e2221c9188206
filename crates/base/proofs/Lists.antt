-- Facts of lists that more than one layer needs.
use mathlib.Core.Path.{◌≡◌, ◌∙◌, refl, ap, sym}
use mathlib.Core.List.{List, [], ◌∷◌, ◌++◌}
use Prim.Native.Nat.{ℕ, suc, ◌+◌, ◌≤◌}
use native.Mathlib.Omega.{arith}
use native.Mathlib.Nat.{add-zero, add-suc, suc-add}
use lib.ListN.{length, set}
use lib.Seq.{sets}

-- a list of no length
pub empty : (l : List ℕ) → length l ≤ 0 → l ≡ []
empty [] h = refl
empty (a ∷ l) h = absurd (omega (arith, h))

-- two runs of stores, one behind the other, are one
pub sets-append : (l : List ℕ) (k : ℕ) (xs ys : List ℕ) → sets (sets l k xs) (k + length xs) ys ≡ sets l k (xs ++ ys)
sets-append l k [] ys = ap (λ (n : ℕ). sets l n ys) (add-zero k)
sets-append l k (a ∷ xs) ys =
    ap (λ (n : ℕ). sets (sets l k (a ∷ xs)) n ys) (add-suc k (length xs) ∙ sym (suc-add k (length xs))) ∙ sets-append (set l k a) (suc k) xs ys
