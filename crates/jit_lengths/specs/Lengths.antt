-- What the lengths are lengths of, where the encoding has no name for it.
use Rattle.std.specs.Prelude.{◌≡◌, ℕ, ◌+◌, ◌^◌, ◌<◌, Bool, not, List, ◌++◌, length}
use Rattle.base.specs.declared.Width.{Width}
use Rattle.x86.specs.Instr.{alu_imm}
use Rattle.x86.specs.Encode.{wide, rex}
use Rattle.ebpf.specs.declared.insn.Insn.{Insn}
use Rattle.ebpf.specs.declared.kind.Kind.{Kind}
use Rattle.ebpf.specs.declared.kind.Lookup.{Lookup}
use Rattle.ebpf.specs.declared.kind.Lookup.TheVariants.{Known, Unimplemented, Unknown}
use Rattle.ebpf.specs.declared.kind.Source.{Source}
use Rattle.ebpf.specs.declared.kind.Source.TheVariants.{Imm, Reg}
use Rattle.x86.specs.Registers.{RAX, RDX}
use Rattle.x86.specs.Instr as x86
use Rattle.x86.specs.Instr.{alu}
use Rattle.x86.specs.Code.{size}
use Rattle.jit.specs.declared.Mode.{Mode}
use Rattle.jit.specs.MulDivMod.{saves, restored}
use Rattle.jit.specs.Slots.{reg_of, slot_code}
use Rattle.ebpf.specs.Kinds.{LD-DW-IMM, LE, BE, JA, JUMP, CALL}

-- what `rexed_length` promises of k: a REX prefix and n bytes, whatever they are
abbrev pub Rexed : Width → (r b n k : ℕ) → Type 0
Rexed w r b n k = (xs : List ℕ) → length xs ≡ n → k ≡ length (rex (wide w) r b ++ xs)

-- the two operands of arithmetic and of a comparison
abbrev pub operands : x86.Alu → Width → Source → Insn → x86.Plain
operands o w Imm i = alu_imm o w (reg_of i.dst) i.imm
operands o w Reg i = alu o w (reg_of i.src) (reg_of i.dst)

-- Multiplication, division and modulo: RAX and RDX, saved and restored, and the result that goes to dst, from RAX or from RDX.
abbrev pub kept : Bool → (dst : ℕ) → ℕ
kept from_rax dst = size (saves dst) + size (restored dst RDX (not from_rax) ++ restored dst RAX from_rax)

-- r is the length of the code of such a slot, wherever in a program it stands
abbrev pub Sized : Mode → Kind → Insn → (r : ℕ) → Type 0
Sized m k i r = (slot value : ℕ) → slot < 2 ^ 16 → r ≡ size (slot_code m k slot i value)

-- .. in every mode
abbrev pub AlwaysSized : Kind → Insn → (r : ℕ) → Type 0
AlwaysSized k i r = (m : Mode) → Sized m k i r

-- the same by the opcode's kind, for the opcodes that have one
abbrev pub SizedBy : Mode → Lookup → Insn → (r : ℕ) → Type 0
SizedBy m Unknown i r = Unit {0}
SizedBy m Unimplemented i r = Unit {0}
SizedBy m (Known k) i r = Sized m k i r

-- the table's entry of a slot that takes nothing from elsewhere, is translated whatever its fields hold, and lists no jump but one to the
-- next slot
pub record Ordinary (number : ℕ) : Type 0 where
  pub wide : ¬ (number ≡ LD-DW-IMM)
  pub swaps : ¬ (number ≡ BE)
  pub cuts : ¬ (number ≡ LE)
  pub ja : ¬ (number ≡ JA)
  pub jumps : ¬ (number ≡ JUMP)
  pub calls : ¬ (number ≡ CALL)
