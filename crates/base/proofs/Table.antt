-- A rule of a table, proved at all of its entries by one equation that antt computes.
use mathlib.Core.Path.{◌≡◌, ◌∙◌, ap, sym}
use mathlib.Core.List.{List, [], ◌∷◌}
use Prim.Native.Nat.{ℕ, zero, suc, ◌+◌, ◌<◌}
use native.Mathlib.Nat.{add-zero, zero-add, add-suc, suc-add, le_of_suc-le-suc, not-suc-le-zero}
use lib.ListN.{length, get_or}
use Rattle.base.specs.Table.{values, along}

module _ {A : Type 0} where
  values-at : (f : ℕ → A) (d : A) (n i k : ℕ) → k < n → get_or (values f i n) k d ≡ f (i + k)
  values-at f d zero i k h = absurd (not-suc-le-zero h)
  values-at f d (suc n) i zero h = ap f (sym (add-zero i))
  values-at f d (suc n) i (suc k) h = values-at f d n (suc i) k (le_of_suc-le-suc h) ∙ ap f (suc-add i k ∙ sym (add-suc i k))

  along-at : (g : ℕ → ℕ → A) (d : A) (xs : List ℕ) (i k : ℕ) → k < length xs → get_or (along g i xs) k d ≡ g (i + k) (get_or xs k 0)
  along-at g d [] i k h = absurd (not-suc-le-zero h)
  along-at g d (x ∷ xs) i zero h = ap (λ (m : ℕ). g m x) (sym (add-zero i))
  along-at g d (x ∷ xs) i (suc k) h = along-at g d xs (suc i) k (le_of_suc-le-suc h) ∙ ap (λ (m : ℕ). g m (get_or xs k 0)) (suc-add i k ∙ sym (add-suc i k))

  -- where the table, read by g, is what f gives, it is so at each entry
  pub rule : (f : ℕ → A) (g : ℕ → ℕ → A) (d : A) (xs : List ℕ) (n : ℕ) → along g 0 xs ≡ values f 0 n → length xs ≡ n → (k : ℕ) → k < n → g k (get_or xs k 0) ≡ f k
  rule f g d xs n e l k h =
      ap (λ (m : ℕ). g m (get_or xs k 0)) (sym (zero-add k))
      ∙ sym (along-at g d xs 0 k (rw l h))
      ∙ ap (λ (t : List A). get_or t k d) e
      ∙ values-at f d n 0 k h
      ∙ ap f (zero-add k)

  -- two functions that give the same up to n
  pub agree : (f g : ℕ → A) (n : ℕ) → values f 0 n ≡ values g 0 n → (k : ℕ) → k < n → f k ≡ g k
  agree f g n e k h =
      ap f (sym (zero-add k))
      ∙ sym (values-at f (f 0) n 0 k h)
      ∙ ap (λ (t : List A). get_or t k (f 0)) e
      ∙ values-at g (f 0) n 0 k h
      ∙ ap g (zero-add k)
