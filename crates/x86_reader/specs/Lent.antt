-- What the reader answers (Onward.antt), of the page by its name (base/specs/Lent.antt).
use Rattle.std.specs.Prelude.{ℕ, Option}
use Rattle.base.specs.Lent.{Lent}
use Rattle.x86_instructions.specs.declared.Instruction.{Instruction}
use Rattle.x86_reader.specs.Onward as O

abbrev pub Onward : Lent → (at : ℕ) → Option (Instruction × ℕ) → Type 0
Onward code at r = O.Onward code.entry.now at r
