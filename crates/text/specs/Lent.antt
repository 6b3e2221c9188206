-- `Says` (Text.antt), and what a parameter brings, of the parameters by their names (base/specs/Lent.antt).
use Rattle.std.specs.Prelude.{◌≡◌, List, ℕ, ◌+◌, ◌≤◌, length}
use Rattle.std.proofs.lemmas.List.Edits.{sets}
use Rattle.base.specs.Lent.{MutSlice, Lent, MutLent}
use Rattle.text.specs.Text as T

-- what a slice holds when it is lent
abbrev pub given : Lent → List ℕ
given text = text.entry.now

-- the text stands in `out` at `at`, as far as there is room, and r is the place behind it
abbrev pub Says : MutLent → (at r : ℕ) → List ℕ → Type 0
Says out at r text = T.Says out.entry.now out.exit.now at r text

-- where there is room for it, all of it stands there
abbrev pub HasRoom : (out : MutSlice) → (at bytes : ℕ) → Type 0
HasRoom out at bytes = at + bytes ≤ length out.now

abbrev pub Stands : MutLent → (at : ℕ) → List ℕ → Type 0
Stands out at text = out.exit.now ≡ sets out.entry.now at text
