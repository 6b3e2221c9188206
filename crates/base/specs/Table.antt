-- A table and a rule for it, written out.
use Rattle.std.specs.Prelude.{List, [], ◌∷◌, ℕ, zero, suc}

-- what f gives at i, i + 1, .. and so on, n of them
abbrev pub values : {A : Type 0} → (ℕ → A) → ℕ → ℕ → List A
values f i zero = []
values f i (suc n) = f i ∷ values f (suc i) n

-- what g gives at each place, counted from i, and the entry there
abbrev pub along : {A : Type 0} → (ℕ → ℕ → A) → ℕ → List ℕ → List A
along g i [] = []
along g i (x ∷ xs) = g i x ∷ along g (suc i) xs
