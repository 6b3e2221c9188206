-- The room that a map takes at most, by name, as in src/lib.rt. What has that much room needs no measuring.
use Rattle.std.specs.Prelude.{ℕ, ◌+◌, ◌*◌}
use Rattle.jit.specs.Limits.{most_slots}

-- a line, in bytes: 16 digits of its start, two of its size, its name (`slot_2047` is the longest), two spaces and its end
-- (proofs/RoomLaws.antt)
abbrev pub longest_line : ℕ
longest_line = 30

-- one for each slot, the prologue and the epilogue
abbrev pub map_room : (slots : ℕ) → ℕ
map_room n = longest_line * (n + 2)

abbrev pub longest_map : ℕ
longest_map = map_room most_slots
