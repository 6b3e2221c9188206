-- Refusals 1 to 5, as the code finds them.
use Rattle.std.specs.Prelude.{◌≡◌, Bool, true, false, not, ◌&&◌, ◌||◌, List, [], ◌∷◌, ℕ, ◌/◌, ◌≤◌, ltb, eqb, length, Result, Ok, Err}
use Rattle.base.specs.Pick.{pick}
use Rattle.jit.specs.declared.Refusal.{Refusal}
use Rattle.jit.specs.Limits.{shortest_page, longest_page, longest_program, most_helpers}
use Rattle.jit.specs.Translation.{short_table, twice}

-- each id is above the one before it
abbrev pub rising : List ℕ → Bool
rising [] = true
rising (x ∷ []) = true
rising (x ∷ y ∷ ys) = ltb x y && rising (y ∷ ys)

-- the five tests, over lengths
abbrev pub sized : (prog page locations fields targets kinds makers : ℕ) → (ids : List ℕ) → (addresses : ℕ) → Result (Unit {0}) Refusal
sized prog page locations fields targets kinds makers ids addresses =
    pick (ltb page shortest_page) (Err Refusal.PageTooShort)
    (pick (ltb longest_page page) (Err Refusal.PageTooLong)
    (pick (ltb longest_program prog) (Err Refusal.ProgramTooLong)
    (pick (short_table (prog / 8) locations fields targets kinds makers) (Err Refusal.TableTooShort)
    (pick (not (eqb (length ids) addresses) || (ltb most_helpers (length ids) || twice ids)) (Err Refusal.BadHelpers) (Ok tt)))))

-- what passes them
abbrev pub Fine : (prog page locations fields targets kinds makers : ℕ) → (ids : List ℕ) → (addresses : ℕ) → Result (Unit {0}) Refusal → Type 0
Fine prog page locations fields targets kinds makers ids addresses (Err r) = Unit {0}
Fine prog page locations fields targets kinds makers ids addresses (Ok u) =
    (shortest_page ≤ page)
    × ((page ≤ longest_page)
    × ((prog ≤ longest_program) × ((short_table (prog / 8) locations fields targets kinds makers ≡ false) × (length ids ≡ addresses))))

pub record Sizes (prog page locations fields targets kinds makers : ℕ) (ids : List ℕ) (addresses : ℕ) (r : Result (Unit {0}) Refusal) : Type 0 where
  pub answer : r ≡ sized prog page locations fields targets kinds makers ids addresses
  pub fine : Fine prog page locations fields targets kinds makers ids addresses r
