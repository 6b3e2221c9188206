-- What a reader answers, of the page by its name (base/specs/Lent.antt).
use Rattle.std.specs.Prelude.{◌≡◌, ℕ, drop, Option}
use Rattle.base.specs.Lent.{Lent}
use Rattle.x86.specs.Decode.{Next}
use Rattle.x86_instructions.specs.Instructions.{read_is}
use Rattle.x86_instructions.specs.declared.Instruction.{Instruction}

-- the bytes of `code` from `at` on, read as `form` of the definition (crates/x86/specs/Decode.antt) reads them, give the answer r
abbrev pub Reads : Lent → (at : ℕ) → (form : Next) → Option (Instruction × ℕ) → Type 0
Reads code at form r = form (drop at code.entry.now) ≡ read_is code.entry.now r
