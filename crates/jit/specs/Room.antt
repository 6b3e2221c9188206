-- The room that code takes at most, by name, as in src/lib.rt. A slot's size there that is below the one here is refused; above it the
-- quick check only keeps more room than it needs.
use Rattle.std.specs.Prelude.{ℕ, ◌+◌, ◌*◌}
use Rattle.jit.specs.Limits.{most_slots}

-- a slot, in bytes: one of most kinds, and one that multiplies, divides or calls (proofs/SlotSize.antt)
abbrev pub short_slot : ℕ
short_slot = 14

abbrev pub long_slot : ℕ
long_slot = 42

-- the frame: its longest prologue, and its epilogue
abbrev pub longest_prologue : ℕ
longest_prologue = 49

abbrev pub epilogue_size : ℕ
epilogue_size = 16

abbrev pub longest_frame : ℕ
longest_frame = longest_prologue + epilogue_size

-- all of it (proofs/Bounds.antt)
abbrev pub longest_code : ℕ
longest_code = long_slot * most_slots + longest_frame
