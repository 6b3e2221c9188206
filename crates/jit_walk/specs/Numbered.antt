-- A slot's code by its opcode's entry in the table, which is what the writing pass goes by. That this is the code that its step gives is a
-- law (proofs/NumberedLaws.antt).
use Rattle.std.specs.Prelude.{◌≡◌, Bool, List, [], ℕ, ◌+◌, ◌*◌, ◌<◌, ◌≤◌, eqb, length, get_or, Option}
use Rattle.ebpf.specs.Insn.{insn_at, read_at}
use Rattle.ebpf.specs.Opcode.{kind_of}
use Rattle.ebpf.specs.Kinds.{numbers, LD-DW-IMM, MULDIVMOD, JA, JUMP, CALL}
use Rattle.ebpf.specs.declared.insn.Insn.{Insn}
use Rattle.ebpf.specs.declared.kind.Lookup.{Lookup}
use Rattle.ebpf.specs.declared.kind.Lookup.TheVariants.{Known, Unimplemented, Unknown}
use Rattle.jit.specs.declared.Mode.{Mode}
use Rattle.jit.specs.MulDivMod.{Code}
use Rattle.jit.specs.Slots.{slot_code}
use Rattle.jit.specs.Translation.{Filter, Operand, lacks, has, operand_of}

-- what is taken from elsewhere, where it is there
abbrev pub value_in : Operand → ℕ
value_in (lacks r) = 0
value_in (has value) = value

-- the code of what an opcode is looked up as; what is not translated has none
abbrev pub looked_up : Filter → Lookup → (slot : ℕ) → Insn → (next : Option Insn) → Code
looked_up filter Unknown slot i next = []
looked_up filter Unimplemented slot i next = []
looked_up filter (Known k) slot i next = slot_code filter.mode k slot i (value_in (operand_of filter k slot i next))

-- the code of a slot of the filter, read as i
abbrev pub code_at : (filter : Filter) → (slot : ℕ) → Insn → Code
code_at filter slot i = looked_up filter (kind_of i.opc) slot i (read_at filter.program (slot + 1))

-- the code of the kinds that take nothing from elsewhere and list no jump
abbrev pub plain_code : Mode → Lookup → Insn → Code
plain_code m Unknown i = []
plain_code m Unimplemented i = []
plain_code m (Known k) i = slot_code m k 0 i 0

-- the number is the opcode's entry in the table, and the registers are good
pub record Numbered (number : ℕ) (i : Insn) : Type 0 where
  pub table : number ≡ get_or numbers i.opc 0
  pub opc : i.opc < 256
  pub dst : i.dst < 11
  pub src : i.src < 11

-- a slot that is read: its eight bytes are there, opc is its opcode, number the opcode's entry in the table, and its registers are good
pub record SlotRead (program : List ℕ) (slot opc number : ℕ) : Type 0 where
  pub there : 8 * slot + 8 ≤ length program
  pub opc_is : opc ≡ (insn_at program slot).opc
  pub numbered : Numbered number (insn_at program slot)

-- the table's entry of a slot with a second half
abbrev pub is_wide : (number : ℕ) → Bool
is_wide number = eqb number LD-DW-IMM

-- the number of a kind that takes nothing from elsewhere and lists no jump
pub record Others (number : ℕ) : Type 0 where
  pub wide : ¬ (number ≡ LD-DW-IMM)
  pub divides : ¬ (number ≡ MULDIVMOD)
  pub ja : ¬ (number ≡ JA)
  pub jumps : ¬ (number ≡ JUMP)
  pub calls : ¬ (number ≡ CALL)
