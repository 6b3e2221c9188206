-- What the forms answer (Forms.antt), of the page by its name (base/specs/Lent.antt). x is the REX that was read.
use Rattle.std.specs.Prelude.{ℕ, Option}
use Rattle.base.specs.Lent.{Lent}
use Rattle.base.specs.declared.Size.{Size}
use Rattle.x86.specs.Instr.{Instr}
use Rattle.x86_encoding.specs.Operand.{rex_is}
use Rattle.x86_encoding.specs.declared.operand.Rex.{Rex}
use Rattle.x86_instructions.specs.Instructions.{read_is}
use Rattle.x86_instructions.specs.declared.Instruction.{Instruction}
use Rattle.x86_forms.specs.Forms as F

abbrev pub Registers : Lent → (at : ℕ) → Rex → Option (ℕ × ℕ × ℕ) → Type 0
Registers code at x r = F.Registers (rex_is x) code.entry.now at r

abbrev pub Memory : Lent → (at : ℕ) → Rex → Option (ℕ × ℕ × ℕ × ℕ) → Type 0
Memory code at x r = F.Memory (rex_is x) code.entry.now at r

-- the instruction `instr` of the operands that ModRM names
abbrev pub OnRegisters : Lent → (at : ℕ) → Rex → (instr : ℕ → ℕ → Instr ℕ) → Option (Instruction × ℕ) → Type 0
OnRegisters code at x instr r = F.OnRegisters (rex_is x) code.entry.now at instr (read_is code.entry.now r)

abbrev pub OnMemory : Lent → (at : ℕ) → Rex → (instr : ℕ → ℕ → ℕ → Instr ℕ) → Option (Instruction × ℕ) → Type 0
OnMemory code at x instr r = F.OnMemory (rex_is x) code.entry.now at instr (read_is code.entry.now r)

-- a constant of `bytes` bytes to memory, and ROL
abbrev pub Stores : Lent → (at : ℕ) → Rex → (bytes : ℕ) → Size → Option (Instruction × ℕ) → Type 0
Stores code at x bytes z r = F.Stores bytes z (rex_is x) code.entry.now at (read_is code.entry.now r)

abbrev pub Rotates : Lent → (at : ℕ) → Rex → Option (Instruction × ℕ) → Type 0
Rotates code at x r = F.Rotates (rex_is x) code.entry.now at (read_is code.entry.now r)
