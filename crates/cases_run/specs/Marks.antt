-- The mark of each place of a page and of a table, and a list that is marked from a place on.
use Rattle.std.specs.Prelude.{◌≡◌, List, ℕ, ◌+◌, ◌%◌, ◌≤◌, ◌<◌, length, get_or}

abbrev pub mark_at : ℕ → ℕ
mark_at i = i % 251 + 5

abbrev pub table_mark_at : ℕ → ℕ
table_mark_at i = 2779054080 + i % 65536

abbrev pub Marked : {A : Type 0} → (ℕ → A) → ℕ → List A → Type 0
Marked {A} mark from l = (k : ℕ) (d : A) → from ≤ k → k < length l → get_or l k d ≡ mark k
