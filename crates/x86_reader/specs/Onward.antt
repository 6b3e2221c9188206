-- A reader goes on: an answer's place is behind the one that was read, and not behind the end.
use Rattle.std.specs.Prelude.{List, ℕ, ◌≤◌, ◌<◌, length, Option, Some, None}
use Rattle.x86_instructions.specs.declared.Instruction.{Instruction}

abbrev pub Onward : List ℕ → ℕ → Option (Instruction × ℕ) → Type 0
Onward s at None = Unit {0}
Onward s at (Some (i, next)) = (at < next) × (next ≤ length s)
