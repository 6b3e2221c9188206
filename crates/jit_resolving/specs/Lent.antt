-- What the contracts of resolving say of their parameters, by their names (base/specs/Lent.antt).
use Rattle.std.specs.Prelude.{◌≡◌, ℕ, ◌+◌, ◌<◌, ◌≤◌, length, take, slice_index}
use Rattle.base.specs.Lent.{Slice, MutSlice, Lent, MutLent}
use Rattle.base.specs.declared.Position.{Position}
use Rattle.base.specs.declared.Slot.{Slot}
use Rattle.x86.specs.Fill.{filled}
use Rattle.jit.specs.Translation.{place_of}

-- where a target lies: at the exit, or at its location, one of those of the slots 0 to n
abbrev pub place_in : (locations : Lent) (n : Slot) (exit : Position) → ℕ → ℕ
place_in locations n exit = place_of (take (n.number + 1) locations.entry.now) exit.offset

-- the first `count` fields lie in the page
abbrev pub Inside : (code : MutSlice) (fields : Slice) (count : ℕ) → Type 0
Inside code fields count = (k : ℕ) → k < count → slice_index fields.now k + 4 ≤ length code.now

-- those are filled with the way to their targets, and the page is otherwise as it was
abbrev pub Resolves : (code : MutLent) → (ℕ → ℕ) → (fields targets : Lent) → (count : ℕ) → Type 0
Resolves code place fields targets count =
    code.exit.now ≡ filled place (take count fields.entry.now) (take count targets.entry.now) code.entry.now
