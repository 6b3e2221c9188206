-- What each kind of slot becomes: the match of `jit_compile` in the Rust, kind by kind. Where RFC 9669 means something else,
-- docs/DIFFERENCES.md has an entry; in standard mode three kinds have the RFC's code (`cleared`, `copy_width`, `truncated`), and every other
-- kind has the Rust's in both modes (Modes.antt).
use Rattle.std.specs.Prelude.{Bool, true, false, ◌&&◌, [], ◌∷◌, ◌++◌, ℕ, ◌+◌, ◌%◌, ◌^◌, eqb, get_or}
use Rattle.base.specs.Pick.{pick}
use Rattle.base.specs.declared.Width.{Width}
use Rattle.base.specs.declared.Width.TheVariants.{W32, W64}
use Rattle.ebpf.specs.declared.insn.Insn.{Insn}
use Rattle.ebpf.specs.declared.kind.Source.{Source}
use Rattle.ebpf.specs.declared.kind.Source.TheVariants.{Imm, Reg}
use Rattle.ebpf.specs.declared.kind.AluOp.{AluOp}
use Rattle.ebpf.specs.declared.kind.AluOp.TheVariants.{Add, Sub, Or, And, Xor}
use Rattle.ebpf.specs.declared.kind.ShiftOp.{ShiftOp}
use Rattle.ebpf.specs.declared.kind.ShiftOp.TheVariants.{Lsh, Rsh, Arsh}
use Rattle.ebpf.specs.declared.kind.MulOp.{MulOp}
use Rattle.ebpf.specs.declared.kind.MulOp.TheVariants.{Mul, Div, Mod}
use Rattle.ebpf.specs.declared.kind.Condition.{Condition}
use Rattle.ebpf.specs.declared.kind.Condition.TheVariants.{Jeq, Jgt, Jge, Jset, Jne, Jsgt, Jsge, Jlt, Jle, Jslt, Jsle}
use Rattle.ebpf.specs.declared.kind.Kind.{Kind}
use Rattle.ebpf.specs.declared.kind.Kind.TheVariants.{LdAbs, LdInd, LdDwImm, LdReg, StImm, StReg, Alu, Shift, Neg, MulDivMod, Mov, Le, Be, Ja, Jump, Call, Exit}
use Rattle.x86.specs.Registers.{RAX, RCX, RDX, RBX, RBP, RSI, RDI, R8, R9, R10, R11, R13, R14, R15}
use Rattle.x86.specs.Instr as x86
use Rattle.x86.specs.Instr.{op, push, pop, alu, alu_imm, shift_imm, shift_cl, unary, rol16, bswap, load, store, store_imm, imm_bits, jump, jmp, call, jcc}
use Rattle.x86.specs.Instr.{call_reg, ret, ADD, OR, AND, SUB, XOR, CMP, MOV, TEST, SHL, SHR, SAR, NEG, JB, JAE, JE, JNE, JBE, JA, JL, JGE, JLE, JG}
use Rattle.x86.specs.Code.{to}
use Rattle.jit.specs.declared.Mode.{Mode}
use Rattle.jit.specs.Constants.{load_imm, loaded}
use Rattle.jit.specs.MulDivMod.{Code, when, mul_div_mod_imm, mul_div_mod_reg}

-- REGISTER_MAP
unfoldable pub reg_of : ℕ → ℕ
reg_of r = get_or (RAX ∷ RDI ∷ RSI ∷ RDX ∷ R9 ∷ R8 ∷ RBX ∷ R13 ∷ R14 ∷ R15 ∷ RBP ∷ []) r 0

-- slot + distance + 1, modulo 2 ^ 32
unfoldable pub target_of : (slot distance : ℕ) → ℕ
target_of slot distance = (slot + 1 + distance) % 2 ^ 32

abbrev pub alu_of : AluOp → x86.Alu
alu_of Add = ADD
alu_of Sub = SUB
alu_of Or = OR
alu_of And = AND
alu_of Xor = XOR

abbrev pub shift_of : ShiftOp → x86.Shift
shift_of Lsh = SHL
shift_of Rsh = SHR
shift_of Arsh = SAR

abbrev pub cond_of : Condition → x86.Cond
cond_of Jeq = JE
cond_of Jgt = JA
cond_of Jge = JAE
cond_of Jset = JNE
cond_of Jne = JNE
cond_of Jsgt = JG
cond_of Jsge = JGE
cond_of Jlt = JB
cond_of Jle = JBE
cond_of Jslt = JL
cond_of Jsle = JLE

-- what sets the flags for a condition
abbrev pub test_of : Condition → x86.Alu
test_of Jeq = CMP
test_of Jgt = CMP
test_of Jge = CMP
test_of Jset = TEST
test_of Jne = CMP
test_of Jsgt = CMP
test_of Jsge = CMP
test_of Jlt = CMP
test_of Jle = CMP
test_of Jslt = CMP
test_of Jsle = CMP

-- BE: a swap of 16 bits is a rotation, and clears what is above
abbrev pub swap : (dst bits : ℕ) → Code
swap dst bits =
    pick (eqb bits 16) (op (rol16 dst 8) ∷ op (alu_imm AND W32 dst 0xffff) ∷ [])
    (pick (eqb bits 32) (op (bswap W32 dst) ∷ []) (op (bswap W64 dst) ∷ []))

-- RCX is the fourth argument of the machine's calling convention, R9 the program's
abbrev pub helper_call : Mode → (address : ℕ) → Code
helper_call m address = op (alu MOV W64 R9 RCX) ∷ op (loaded m (load_imm RAX address)) ∷ call_reg RAX ∷ []

-- `emit_local_call`: r6 to r9 are the callee's to change
abbrev pub local_call : (target : ℕ) → Code
local_call target =
    op (push RBX)
    ∷ op (push R13)
    ∷ op (push R14)
    ∷ op (push R15)
    ∷ jump call (to target)
    ∷ op (pop R15)
    ∷ op (pop R14)
    ∷ op (pop R13)
    ∷ op (pop RBX)
    ∷ []

-- Standard mode. The lower half of a register, and its lowest 16 bits, all above them cleared:
abbrev pub lower_half : (dst : ℕ) → Code
lower_half dst = op (alu MOV W32 dst dst) ∷ []

abbrev pub lowest16 : (dst : ℕ) → Code
lowest16 dst = op (alu_imm AND W32 dst 0xffff) ∷ []

-- RFC 9669, section 4.1: modulo by zero leaves dst, at 32 bits its lower half. So it is where the divisor is the immediate 0, and may be where
-- it is a register; the Rust's code for the slot, which comes behind, reads no more of dst than the lower half.
abbrev pub leaves_dst : MulOp → Width → Source → (imm : ℕ) → Bool
leaves_dst Mul w s imm = false
leaves_dst Div w s imm = false
leaves_dst Mod W64 s imm = false
leaves_dst Mod W32 Imm imm = eqb imm 0
leaves_dst Mod W32 Reg imm = true

abbrev pub clears : Mode → MulOp → Width → Source → (imm : ℕ) → Bool
clears m o w s imm = m.standard && leaves_dst o w s imm

abbrev pub cleared : Mode → MulOp → Width → Source → Insn → Code
cleared m o w s i = when (clears m o w s i.imm) (lower_half (reg_of i.dst))

-- section 4.1: MOV32_REG moves 32 bits and clears the upper half; the Rust copies all 64
abbrev pub copy_width : Mode → Width → Width
copy_width m w = pick m.standard w W64

-- section 4.2, on a processor whose order of bytes is LE's: of 16 and 32 bits these remain, and 64 are all
abbrev pub truncated : (dst bits : ℕ) → Code
truncated dst bits = pick (eqb bits 16) (lowest16 dst) (pick (eqb bits 32) (lower_half dst) [])

-- Arithmetic, by where the second operand comes from. A shift by a register takes its count from CL.
abbrev pub alu_code : AluOp → Width → Source → Insn → Code
alu_code o w Imm i = op (alu_imm (alu_of o) w (reg_of i.dst) i.imm) ∷ []
alu_code o w Reg i = op (alu (alu_of o) w (reg_of i.src) (reg_of i.dst)) ∷ []

abbrev pub shift_code : ShiftOp → Width → Source → Insn → Code
shift_code o w Imm i = op (shift_imm (shift_of o) w (reg_of i.dst) (i.imm % 256)) ∷ []
shift_code o w Reg i = op (alu MOV W64 (reg_of i.src) RCX) ∷ op (shift_cl (shift_of o) w (reg_of i.dst)) ∷ []

abbrev pub mul_div_mod_code : Mode → MulOp → Width → Source → (slot : ℕ) → Insn → Code
mul_div_mod_code m o w Imm slot i = mul_div_mod_imm m o w (reg_of i.dst) i.imm
mul_div_mod_code m o w Reg slot i = mul_div_mod_reg m o slot w (reg_of i.src) (reg_of i.dst)

abbrev pub mov_code : Mode → Width → Source → Insn → Code
mov_code m w Imm i = op (loaded m (alu_imm MOV w (reg_of i.dst) i.imm)) ∷ []
mov_code m w Reg i = op (alu MOV (copy_width m w) (reg_of i.src) (reg_of i.dst)) ∷ []

-- a conditional jump: the comparison, at the operation's width, and the jump
abbrev pub compare : Condition → Width → Source → Insn → x86.Plain
compare c w Imm i = alu_imm (test_of c) w (reg_of i.dst) i.imm
compare c w Reg i = alu (test_of c) w (reg_of i.src) (reg_of i.dst)

abbrev pub jump_code : Condition → Width → Source → (slot : ℕ) → Insn → Code
jump_code c w s slot i = op (compare c w s i) ∷ jump (jcc (cond_of c)) (to (target_of slot i.off)) ∷ []

-- src 0 is a helper, at the address `value`; src 1 a call within the program
abbrev pub call_code : Mode → (slot : ℕ) → Insn → (value : ℕ) → Code
call_code m slot i value = pick (eqb i.src 0) (helper_call m value) (local_call (target_of slot i.imm))

-- The code of a slot. `value` is what the slot takes from elsewhere: a wide load's constant, the address of a helper.
abbrev pub slot_code : Mode → Kind → (slot : ℕ) → Insn → (value : ℕ) → Code
-- class LD: the packet is at R10
slot_code m (LdAbs z) slot i value = op (load z R10 RAX i.imm) ∷ []
slot_code m (LdInd z) slot i value = op (alu MOV W64 R10 R11) ∷ op (alu ADD W64 (reg_of i.src) R11) ∷ op (load z R11 RAX i.imm) ∷ []
slot_code m LdDwImm slot i value = op (loaded m (load_imm (reg_of i.dst) value)) ∷ []
-- classes LDX, ST, STX
slot_code m (LdReg z) slot i value = op (load z (reg_of i.src) (reg_of i.dst) i.off) ∷ []
slot_code m (StImm z) slot i value = op (store_imm z (reg_of i.dst) i.off (i.imm % 2 ^ imm_bits z)) ∷ []
slot_code m (StReg z) slot i value = op (store z (reg_of i.src) (reg_of i.dst) i.off) ∷ []
-- classes ALU, ALU64
slot_code m (Alu o w s) slot i value = alu_code o w s i
slot_code m (Shift o w s) slot i value = shift_code o w s i
slot_code m (Neg w) slot i value = op (unary NEG w (reg_of i.dst)) ∷ []
slot_code m (MulDivMod o w s) slot i value = cleared m o w s i ++ mul_div_mod_code m o w s slot i
slot_code m (Mov w s) slot i value = mov_code m w s i
slot_code m Le slot i value = when m.standard (truncated (reg_of i.dst) i.imm)
slot_code m Be slot i value = swap (reg_of i.dst) i.imm
-- classes JMP, JMP32
slot_code m Ja slot i value = jump jmp (to (target_of slot i.off)) ∷ []
slot_code m (Jump c w s) slot i value = jump_code c w s slot i
slot_code m Call slot i value = call_code m slot i value
slot_code m Exit slot i value = ret ∷ []
