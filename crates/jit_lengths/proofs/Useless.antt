-- What the contracts of the lengths rule out: for each, two wrong answers to one question. A contract is given here as it stands in the
-- source, of an answer x.
use Rattle.std.proofs.Common.{◌≡◌, ℕ, ◌^◌, ◌<◌, ◌≤◌, [], ◌∷◌, length, refl, arith}
use Rattle.base.specs.declared.Width.{Width}
use Rattle.base.specs.declared.Width.TheVariants.{W32, W64}
use Rattle.base.specs.declared.Size.{Size}
use Rattle.base.specs.declared.Size.TheVariants.{S8, S16, S64}
use Rattle.ebpf.specs.declared.insn.Insn.{Insn}
use Rattle.ebpf.specs.declared.kind.Source.{Source}
use Rattle.ebpf.specs.declared.kind.Source.TheVariants.{Imm, Reg}
use Rattle.ebpf.specs.declared.kind.MulOp.TheVariants.{Mul, Div, Mod}
use Rattle.ebpf.specs.declared.kind.Kind.TheVariants.{Exit, Mov, MulDivMod}
use Rattle.ebpf.specs.declared.kind.Lookup.{Lookup}
use Rattle.ebpf.specs.declared.kind.Lookup.TheVariants.{Known}
use Rattle.x86.specs.Registers.{RAX, RCX, RSI, RDI, R8, R13}
use Rattle.x86.specs.Instr as x86
use Rattle.x86.specs.Instr.{alu_imm, load, store, store_imm, MOV}
use Rattle.x86.specs.Encode.{rex, memory, bare, short, encode_plain}
use Rattle.x86.specs.Code.{size}
use Rattle.jit.specs.declared.Mode.{Mode}
use Rattle.jit.specs.Constants.{load_imm, loaded}
use Rattle.jit.specs.MulDivMod.{when}
use Rattle.jit.specs.Modes.{rust, standard, compact}
use Rattle.jit.specs.Slots.{reg_of, truncated, swap, call_code}
use Rattle.jit_lengths.specs.Lengths.{Rexed, operands, SizedBy}

abbrev insn : (dst src off imm : ℕ) → Insn
insn dst src off imm = record { opc = 0; dst = dst; src = src; off = off; imm = imm }

-- the contracts
abbrev RexLength : (w r b x : ℕ) → Type 0
RexLength w r b x = (x ≡ length (rex w r b)) × (x ≤ 1)

abbrev RexedLength : Width → (r b rest x : ℕ) → Type 0
RexedLength w r b rest x = Rexed w r b rest x × (x ≤ 17)

abbrev MemoryLength : (base disp x : ℕ) → Type 0
MemoryLength base disp x = ((reg : ℕ) → x ≡ length (memory reg base disp)) × (x ≤ 5)

abbrev LoadLength : Size → (base dst disp x : ℕ) → Type 0
LoadLength z base dst disp x = (x ≡ length (encode_plain (load z base dst disp))) × (x ≤ 8)

abbrev StoreLength : Size → (src base disp x : ℕ) → Type 0
StoreLength z src base disp x = (x ≡ length (encode_plain (store z src base disp))) × (x ≤ 8)

abbrev StoreImmLength : Size → (base disp x : ℕ) → Type 0
StoreImmLength z base disp x = ((i : ℕ) → x ≡ length (encode_plain (store_imm z base disp i))) × (x ≤ 12)

abbrev LoadImmLength : Mode → (dst value x : ℕ) → Type 0
LoadImmLength m dst value x = (x ≡ length (encode_plain (loaded m (load_imm dst value)))) × (x ≤ 10)

abbrev LoadSignedLength : Mode → (dst imm x : ℕ) → Type 0
LoadSignedLength m dst imm x = (x ≡ length (encode_plain (loaded m (alu_imm MOV W64 dst imm)))) × (x ≤ 7)

abbrev OperandsLength : Width → Source → Insn → (x : ℕ) → Type 0
OperandsLength w s i x = ((o : x86.Alu) → x ≡ length (encode_plain (operands o w s i))) × (x ≤ 17)

abbrev SwapLength : (dst bits x : ℕ) → Type 0
SwapLength dst bits x = (x ≡ size (swap dst bits)) × (x ≤ 40)

abbrev CallLength : Mode → Insn → (value x : ℕ) → Type 0
CallLength m i value x = ((slot : ℕ) → x ≡ size (call_code m slot i value)) × (x ≤ 19)

abbrev SlotLength : Mode → Lookup → Insn → (x : ℕ) → Type 0
SlotLength m l i x = SizedBy m l i x × (x ≤ 107)

abbrev LeLength : Mode → (dst bits x : ℕ) → Type 0
LeLength m dst bits x = (x ≡ size (when m.standard (truncated dst bits))) × (x ≤ 17)

-- A REX left out though R8 needs one; one written though no bit of it is set.
pub rex-lengths : (RexLength 0 0 R8 0 → ⊥) × (RexLength 0 RSI RDI 1 → ⊥)
unfolding rex
rex-lengths = (λ h. omega (arith, h.0), λ h. omega (arith, h.0))

-- The same in front of two bytes: REX.W forgotten, R8 forgotten.
pub rexed-lengths : (RexedLength W64 RSI RDI 2 2 → ⊥) × (RexedLength W32 R8 RDI 2 2 → ⊥)
unfolding rex
rexed-lengths = (λ h. omega (arith, h.0 (0 ∷ 0 ∷ []) refl), λ h. omega (arith, h.0 (0 ∷ 0 ∷ []) refl))

-- mod 00 on R13; displacement 128 in one byte.
pub memory-lengths : (MemoryLength R13 0 1 → ⊥) × (MemoryLength RDI 128 2 → ⊥)
unfolding memory bare short
memory-lengths = (λ h. omega (arith, h.0 0), λ h. omega (arith, h.0 0))

-- MOVZX taken for an opcode of one byte; a 64-bit load without REX.
pub load-lengths : (LoadLength S8 RDI RAX 0 2 → ⊥) × (LoadLength S64 RDI RAX 0 2 → ⊥)
unfolding rex memory bare short
load-lengths = (λ h. omega (arith, h.0), λ h. omega (arith, h.0))

-- A byte store without its REX; a store of two bytes without its 66.
pub store-lengths : (StoreLength S8 RSI RDI 0 2 → ⊥) × (StoreLength S16 RSI RDI 0 2 → ⊥)
unfolding rex memory bare short
store-lengths = (λ h. omega (arith, h.0), λ h. omega (arith, h.0))

-- Eight bytes of constant to a 64-bit store; four to a byte.
pub store-imm-lengths : (StoreImmLength S64 RDI 0 11 → ⊥) × (StoreImmLength S8 RDI 0 6 → ⊥)
unfolding rex memory bare short
store-imm-lengths = (λ h. omega (arith, h.0 0), λ h. omega (arith, h.0 0))

-- 2147483648 in four bytes; -1 in eight.
pub load-imm-lengths : (LoadImmLength rust RAX 0x80000000 7 → ⊥) × (LoadImmLength rust RAX 0xffffffffffffffff 10 → ⊥)
unfolding rex load_imm
load-imm-lengths = (λ h. omega (arith, h.0), λ h. omega (arith, h.0))

-- Compact: 2 ^ 32 in four bytes; 2 ^ 32 - 1 in eight; -1 without REX.W; R13 without its REX. With the flag off: 5 without REX.W.
pub compact-load-imm-lengths :
    (LoadImmLength compact RAX 0x100000000 5 → ⊥)
    × ((LoadImmLength compact RAX 0xffffffff 10 → ⊥)
    × ((LoadImmLength compact RAX 0xffffffffffffffff 5 → ⊥)
    × ((LoadImmLength compact R13 5 5 → ⊥)
    × (LoadImmLength rust RAX 5 5 → ⊥))))
unfolding rex load_imm
compact-load-imm-lengths =
    (λ h. omega (arith, h.0), (λ h. omega (arith, h.0), (λ h. omega (arith, h.0), (λ h. omega (arith, h.0), λ h. omega (arith, h.0)))))

-- An immediate, compact: -1 without REX.W; 2147483647 with it; R13 without its REX. With the flag off: 5 without REX.W.
pub load-signed-lengths :
    (LoadSignedLength compact RCX 0xffffffff 5 → ⊥)
    × ((LoadSignedLength compact RCX 0x7fffffff 7 → ⊥)
    × ((LoadSignedLength compact R13 5 5 → ⊥)
    × (LoadSignedLength rust RCX 5 5 → ⊥)))
unfolding rex
load-signed-lengths = (λ h. omega (arith, h.0), (λ h. omega (arith, h.0), (λ h. omega (arith, h.0), λ h. omega (arith, h.0))))

-- A 64-bit addition without its REX; an immediate of one byte.
pub operands-lengths : (OperandsLength W64 Reg (insn 1 2 0 0) 2 → ⊥) × (OperandsLength W64 Imm (insn 1 0 0 5) 4 → ⊥)
unfolding rex reg_of
operands-lengths = (λ h. omega (arith, h.0 x86.ADD), λ h. omega (arith, h.0 x86.ADD))

-- BE 16 without its 66; BE 64 without REX.W.
pub swap-lengths : (SwapLength RDI 16 9 → ⊥) × (SwapLength RDI 64 2 → ⊥)
unfolding rex
swap-lengths = (λ h. omega (arith, h.0), λ h. omega (arith, h.0))

-- A local call that saves three registers; a helper's address in four bytes where it takes eight; compact, 2 ^ 32 - 1 in eight.
pub call-lengths :
    (CallLength rust (insn 0 1 0 3) 0 15 → ⊥)
    × ((CallLength rust (insn 0 0 0 3) 0x7f0000000000 12 → ⊥)
    × (CallLength compact (insn 0 0 0 3) 0xffffffff 15 → ⊥))
unfolding rex load_imm
call-lengths = (λ h. omega (arith, h.0 0), (λ h. omega (arith, h.0 0), λ h. omega (arith, h.0 0)))

-- a slot that can be anywhere can be the first one
first : 0 < 2 ^ 16
first = omega arith

-- DIV by a register without the jump behind the cleared dst; EXIT as a jump; MOD32_IMM by 0 as an instruction; a copy of 32 bits.
pub slot-lengths :
    (SlotLength rust (Known (MulDivMod Div W64 Reg)) (insn 1 2 0 0) 36 → ⊥)
    × ((SlotLength rust (Known Exit) (insn 0 0 0 0) 5 → ⊥)
    × ((SlotLength rust (Known (MulDivMod Mod W32 Imm)) (insn 1 0 0 0) 2 → ⊥)
    × (SlotLength rust (Known (Mov W32 Reg)) (insn 1 2 0 0) 2 → ⊥)))
unfolding rex reg_of
slot-lengths = (λ h. omega (arith, h.0 0 0 first), (λ h. omega (arith, h.0 0 0 first), (λ h. omega (arith, h.0 0 0 first), λ h. omega (arith, h.0 0 0 first))))

-- Standard mode: MOD32 by a register and by 0 without the cleared half, and MOV32_REG as a copy of 64 bits.
pub standard-lengths :
    (SlotLength standard (Known (MulDivMod Mod W32 Reg)) (insn 1 2 0 0) 32 → ⊥)
    × ((SlotLength standard (Known (MulDivMod Mod W32 Imm)) (insn 1 0 0 0) 0 → ⊥)
    × (SlotLength standard (Known (Mov W32 Reg)) (insn 1 2 0 0) 3 → ⊥))
unfolding rex reg_of
standard-lengths = (λ h. omega (arith, h.0 0 0 first), (λ h. omega (arith, h.0 0 0 first), λ h. omega (arith, h.0 0 0 first)))

-- Compact: MOV64_IMM of -1 without REX.W, and to R13 without its REX; MOV32_IMM in the shorter form; MUL by -1 without REX.W; MOD by a
-- register with the slot's number in seven bytes.
pub compact-lengths :
    (SlotLength compact (Known (Mov W64 Imm)) (insn 1 0 0 0xffffffff) 5 → ⊥)
    × ((SlotLength compact (Known (Mov W64 Imm)) (insn 7 0 0 5) 5 → ⊥)
    × ((SlotLength compact (Known (Mov W32 Imm)) (insn 1 0 0 5) 5 → ⊥)
    × ((SlotLength compact (Known (MulDivMod Mul W64 Imm)) (insn 1 0 0 0xffffffff) 18 → ⊥)
    × (SlotLength compact (Known (MulDivMod Mod W64 Reg)) (insn 1 2 0 0) 34 → ⊥))))
unfolding rex reg_of
compact-lengths =
    (λ h. omega (arith, h.0 0 0 first), (λ h. omega (arith, h.0 0 0 first), (λ h. omega (arith, h.0 0 0 first), (λ h. omega (arith, h.0 0 0 first), λ h. omega (arith, h.0 0 0 first)))))

-- LE as an instruction with the mode off; LE 16 without one in standard mode, and LE 64 with one.
pub le-lengths : (LeLength rust RDI 16 6 → ⊥) × ((LeLength standard RDI 16 0 → ⊥) × (LeLength standard RDI 64 2 → ⊥))
unfolding rex
le-lengths = (λ h. omega (arith, h.0), (λ h. omega (arith, h.0), λ h. omega (arith, h.0)))
