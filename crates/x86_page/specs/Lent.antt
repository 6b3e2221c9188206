-- What the page's contracts say of their parameters, by their names (base/specs/Lent.antt).
use Rattle.std.specs.Prelude.{◌≡◌, ℕ, ◌+◌}
use Rattle.std.proofs.lemmas.List.Edits.{sets}
use Rattle.base.specs.Bytes.{le64}
use Rattle.base.specs.Lent.{MutLent}
use Rattle.base.specs.declared.Position.{Position}

-- a word is stored at `at`, a second one behind it, and r is the place behind the lowest `size` bytes of that
abbrev pub StoresWords : MutLent → (at r : Position) → (first second size : ℕ) → Type 0
StoresWords code at r first second size =
    (r.offset ≡ at.offset + 8 + size)
    × (code.exit.now ≡ sets (sets code.entry.now at.offset (le64 first)) (at.offset + 8) (le64 second))
