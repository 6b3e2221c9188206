-- What the contracts of the passes speak of: the walk over the slots, where blocks start, and what the passes are called with, of their
-- parameters by their names (base/specs/Lent.antt).
use Rattle.std.specs.Prelude.{◌≡◌, List, ℕ, suc, ◌≤◌, length}
use Rattle.base.specs.Lent.{Slice}
use Rattle.base.specs.declared.Position.{Position}
use Rattle.code.specs.Page as pages
use Rattle.x86.specs.Encode.{isa}
use Rattle.jit.specs.declared.Flags.{Flags}
use Rattle.jit.specs.Limits.{longest_program, longest_page}
use Rattle.jit.specs.Translation.{Filter, Block, Walk, slots_of, rest, page_of}

-- all slots of a filter, their code from a place on
abbrev pub walk_from : Filter → (page start : ℕ) → Walk
walk_from filter page start = rest (suc (slots_of filter.program)) filter page 0 start

abbrev pub walked : Filter → (page : ℕ) → (start : Position) → Walk
walked filter page start = walk_from filter page start.offset

-- an address for each id
abbrev pub Paired : (ids addresses : Slice) → Type 0
Paired ids addresses = length ids.now ≡ length addresses.now

-- a program and a page within the limits, room for what stands ahead of `start`, and an address for each id
abbrev pub WithinLimits : (prog ids addresses : Slice) → (page : ℕ) → (start : Position) → Type 0
WithinLimits prog ids addresses page start =
    (length prog.now ≤ longest_program) × ((page ≤ longest_page) × ((start.offset ≤ page) × Paired ids addresses))

-- the location of each slot, the first at a place; 0 for the second half of a wide load
abbrev pub starts : (place : ℕ) → List Block → List ℕ
starts = pages.starts isa

-- where the epilogue begins
abbrev pub exit_of : Flags → List Block → ℕ
exit_of f bs = pages.exit_of isa (page_of f bs)
