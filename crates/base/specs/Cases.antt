-- A `match` on a number as a definition: a value for each number that an arm names, and one for the rest. The arms stand in the
-- reverse of the source's order, in which the checker hands over what the last arm knows: that no key before it fits.
use Rattle.std.specs.Prelude.{List, [], ◌∷◌, ℕ, eqb}
use Rattle.base.specs.Pick.{pick}

pub data Arm (A : Type 0) : Type 0 where
  ◌⇒◌ : ℕ → A → Arm A

infix 90 ◌⇒◌
abbrev pub cases : {A : Type 0} → List (Arm A) → A → ℕ → A
cases [] d k = d
cases (n ⇒ a ∷ r) d k = pick (eqb k n) a (cases r d k)
