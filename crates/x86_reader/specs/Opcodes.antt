-- The opcodes of 40 to BF that `middle_opcode_at` has no arm for.
use Rattle.std.specs.Prelude.{◌≡◌, ℕ, ◌<◌, ◌≤◌}

-- what is none of those of one byte, told arm by arm
abbrev pub NoMiddle : ℕ → Type 0
NoMiddle o = ((((Unit {0} × ¬ (o ≡ 0x81)) × ¬ (o ≡ 0x85)) × ¬ (o ≡ 0x88)) × ¬ (o ≡ 0x89)) × ¬ (o ≡ 0x8b)

abbrev pub Other : ℕ → Type 0
Other o = ((0x40 ≤ o) × (o < 0xc0)) × NoMiddle o
