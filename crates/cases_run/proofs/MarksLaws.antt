-- What the loops keep: the places that are marked so far, or seen to be.
use mathlib.Core.Path.{◌≡◌, ◌∙◌}
use mathlib.Core.List.{List}
use Prim.Native.Nat.{ℕ, ◌+◌, ◌≤◌, ◌<◌}
use native.Mathlib.Omega.{arith}
use borrow.Author.Count.{below_more}
use lib.ListN.{length, get_or, set}
use lib.Seq.{get_or-set_same, get_or-set_other}

-- marked up to a place
abbrev pub Upto : {A : Type 0} → (ℕ → A) → ℕ → List A → Type 0
Upto {A} mark i l = (k : ℕ) (d : A) → k < i → get_or l k d ≡ mark k

-- one place more is marked by a store
pub upto-more : {A : Type 0} (mark : ℕ → A) (l : List A) (i : ℕ) (v : A) → i < length l → v ≡ mark i → Upto mark i l → Upto mark (i + 1) (set l i v)
upto-more mark l i v h e all k d =
    below_more (λ n. get_or (set l i v) n d ≡ mark n) i
    (λ n below. get_or-set_other l i n v d (λ same. omega arith) ∙ all n d below)
    (get_or-set_same l i v d h ∙ e)
    k

-- seen to be marked, from a place up to another
abbrev pub Between : {A : Type 0} → (ℕ → A) → ℕ → ℕ → List A → Type 0
Between {A} mark from i l = (k : ℕ) (d : A) → from ≤ k → k < i → get_or l k d ≡ mark k

pub between_more : {A : Type 0} (mark : ℕ → A) (l : List A) (from i : ℕ) → ((d : A) → get_or l i d ≡ mark i) → Between mark from i l
    → Between mark from (i + 1) l
between_more mark l from i here all k d after below =
    below_more (λ n. from ≤ n → get_or l n d ≡ mark n) i (λ n below-n after-n. all n d after-n below-n) (λ after-i. here d) k below after
