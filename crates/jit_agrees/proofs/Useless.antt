-- Wrong code for a slot, and which part of the statement refutes it (Agrees.antt, Runs.antt): one table under three theorems. Each line's code is
-- slot 0's on a small page. It does not do what the slot says (`useless`); where a run of it ends, what it is blamed for is all that is
-- amiss (`blamed-all`), so that no part of the statement could be left out unnoticed. The code that slot 0 has in standard mode comes,
-- from the same registers, to where nothing is amiss (`right`). A line may be refuted by more than it is blamed for in its run: a call by the
-- push of its return address, too, which may fault.
-- Of Mapped, `eleven` and `words` blame no code: no step changes how many registers a list has, nor takes words to what is none
-- (x86_machine/proofs/MachineWords.antt). They are premises, and needed as such (Premises.antt).
use mathlib.Core.Path.{◌≡◌, refl}
use mathlib.Core.Bool.{Bool, true, false, ◌&&◌}
use mathlib.Core.List.{List, [], ◌∷◌, ◌++◌, map}
use Prim.Native.Nat.{ℕ, ◌+◌}
use lib.Dec.{T}
use lib.ListN.{get_or}
use Rattle.base.proofs.Tests.{and_l, and_r}
use Rattle.base.specs.declared.Width.TheVariants.{W32, W64}
use Rattle.base.specs.declared.Size.TheVariants.{S64}
use Rattle.ebpf.specs.declared.insn.Insn.{Insn}
use Rattle.ebpf.specs.declared.kind.Source.TheVariants.{Reg}
use Rattle.ebpf.specs.declared.kind.AluOp.TheVariants.{Add}
use Rattle.ebpf.specs.declared.kind.ShiftOp.TheVariants.{Lsh}
use Rattle.ebpf.specs.declared.kind.MulOp.TheVariants.{Div}
use Rattle.ebpf.specs.declared.kind.Condition.TheVariants.{Jsgt}
use Rattle.ebpf.specs.declared.kind.Kind.{Kind}
use Rattle.ebpf.specs.declared.kind.Kind.TheVariants.{Alu, Shift, MulDivMod, Mov, Ja, Jump}
use Rattle.ebpf_meaning.specs.Values.{alu_value, shift_value, mul_value, met}
use Rattle.x86.specs.Registers.{RAX, RCX, RDX, RSP, RBP, RDI, R10}
use Rattle.x86.specs.Instr as x86
use Rattle.x86.specs.Instr.{op, push, pop, alu, alu_imm, shift_cl, unary, load, store, store_imm, jump, jmp, call, jcc, ret, ADD, SUB, XOR, CMP, MOV, TEST, SHL, DIV, JNE}
use Rattle.x86.specs.Encode.{rex, modrm, bare, short, memory}
use Rattle.x86.specs.Decode.{decode, with_rex, rex_of, opcode, with_modrm, reg_number, low_number, number}
use Rattle.x86.specs.Code.{near, to, size}
use Rattle.x86.specs.Lowered.{code_of}
use Rattle.jit.specs.MulDivMod.{Code}
use Rattle.jit.specs.Slots.{reg_of, target_of, slot_code}
use Rattle.jit.specs.Modes.{standard}
use Rattle.x86_machine.specs.Machine.{rd, result, shifted, shift_status, divides, follow, step}
use Rattle.jit_agrees.specs.Agrees.{Does}
use Rattle.jit_agrees.proofs.Starts.{holding}
use Rattle.jit_agrees.proofs.Elsewhere.{Part, registers, stack, others, calls, place, popped, ran, Trace, arrived, blame, traced, refutes, refuted}

-- Slot 0's code between returns: slots 1 and 2 are EXIT.
abbrev locs_of : Code → List ℕ
locs_of c = 1 ∷ (1 + size c) ∷ (2 + size c) ∷ []

abbrev page_of : Code → List ℕ
page_of c = code_of (λ t. get_or (locs_of c) t 0) (ret ∷ (c ++ (ret ∷ ret ∷ [])))

-- a slot, the registers from which it is run, whether memory allows more than is taken for granted, code, and what that is blamed for
pub record Wrong : Type 0 where
  pub kind : Kind
  pub insn : Insn
  pub regs : List ℕ
  pub allowed : Bool
  pub code : Code
  pub blamed : List Part

abbrev wrong_if : (allowed : Bool) → Kind → (off : ℕ) → (r0 r1 : ℕ) → Code → List Part → Wrong
wrong_if m k x a b c l =
    record {
      kind = k;
      insn = record { opc = 0; dst = 0; src = 1; off = x; imm = 0 };
      regs = holding a b;
      allowed = m;
      code = c;
      blamed = l;
    }

abbrev wrong : Kind → (off : ℕ) → (r0 r1 : ℕ) → Code → List Part → Wrong
wrong = wrong_if true

-- ADD64_REG r0, r1, with code behind the sum; and with code that accesses memory there, which is not allowed
abbrev added : Code → List Part → Wrong
added c l = wrong (Alu Add W64 Reg) 0 1 2 (op (alu ADD W64 RDI RAX) ∷ c) l

abbrev accessing : Code → List Part → Wrong
accessing c l = wrong_if false (Alu Add W64 Reg) 0 1 2 (op (alu ADD W64 RDI RAX) ∷ c) l

-- DIV64_REG r0, r1, by what is done where the divisor is 0, and what saves RDX
abbrev divided_by : (r1 : ℕ) → (zero save : Code) → List Part → Wrong
divided_by b zero save l =
    let skipped = zero ++ (jump jmp (to 1) ∷ []) in
    wrong (MulDivMod Div W64 Reg) 0 7 b
    (op (alu TEST W64 RDI RDI) ∷ jump (jcc JNE) (near (size skipped)) ∷ (skipped ++ (save
    ++ (op (alu MOV W64 RDI RCX) ∷ op (alu XOR W32 RDX RDX) ∷ op (unary DIV W64 RCX) ∷ op (pop RDX) ∷ []))))
    l

abbrev clear_rax : Code
clear_rax = op (alu XOR W32 RAX RAX) ∷ []

-- JA by so many slots
abbrev gone : (off : ℕ) → Code → List Part → Wrong
gone x c l = wrong Ja x 1 2 c l

pub table : List Wrong
table =
    -- REGISTERS: ADD64_REG that adds nothing; that clears r10 besides
    wrong (Alu Add W64 Reg) 0 1 2 [] (registers ∷ []) ∷
    added (op (alu XOR W32 RBP RBP) ∷ []) (registers ∷ []) ∷
    -- MOV32_REG that copies 64 bits
    wrong (Mov W32 Reg) 0 1 0x1_0000_0007 (op (alu MOV W64 RDI RAX) ∷ []) (registers ∷ []) ∷
    -- LSH32_REG by 32, shifted at 64 bits and cut: the count is not masked to five bits
    wrong (Shift Lsh W32 Reg) 0 1 32
    (op (alu MOV W64 RDI RCX) ∷ op (shift_cl SHL W64 RAX) ∷ op (alu MOV W32 RAX RAX) ∷ []) (registers ∷ []) ∷
    -- DIV64_REG by zero that keeps dst
    divided_by 0 [] (op (push RDX) ∷ []) (registers ∷ []) ∷
    -- RDX, which is r3, popped without having been pushed, room being made for it; and without room
    divided_by 2 clear_rax (op (alu_imm SUB W64 RSP 8) ∷ []) (registers ∷ []) ∷
    divided_by 2 clear_rax [] (registers ∷ stack ∷ []) ∷
    -- RDX pushed, and popped from another place
    added (op (push RDX) ∷ op (alu_imm SUB W64 RSP 8) ∷ op (pop RDX) ∷ op (alu_imm ADD W64 RSP 8) ∷ []) (registers ∷ []) ∷
    -- STACK: RSP moved
    added (op (alu_imm SUB W64 RSP 8) ∷ []) (stack ∷ []) ∷
    -- OTHERS: R10 lost, where LD_ABS and LD_IND find the packet
    added (op (alu MOV W64 RAX R10) ∷ []) (others ∷ []) ∷
    -- CALLS: a call of what is next, with RSP put back: it stays open
    added (jump call (near 0) ∷ op (alu_imm ADD W64 RSP 8) ∷ []) (calls ∷ []) ∷
    -- PLACE: a jump one slot short; a sum that goes to the second slot behind it; JSGT_REG of 1 and -1 as JGT, by JA
    gone 1 (jump jmp (to 1) ∷ []) (place ∷ []) ∷
    added (jump jmp (to 2) ∷ []) (place ∷ []) ∷
    wrong (Jump Jsgt W64 Reg) 1 1 0xffff_ffff_ffff_ffff (op (alu CMP W64 RDI RAX) ∷ jump (jcc x86.JA) (to 2) ∷ []) (place ∷ []) ∷
    -- ACCESSES that may fault, where the run ends short of the next slot: a store of a register and of a number, and a load; a load while a word
    -- is pushed; a third word pushed; a push over the return address, to which RSP pointed, and a pop from below it
    accessing (op (store S64 RAX RDI 0) ∷ []) (place ∷ []) ∷
    accessing (op (store_imm S64 RDI 0 7) ∷ []) (place ∷ []) ∷
    accessing (op (load S64 RDI RCX 0) ∷ []) (place ∷ []) ∷
    accessing (op (push RAX) ∷ op (load S64 RDI RCX 0) ∷ op (alu_imm ADD W64 RSP 8) ∷ []) (popped ∷ stack ∷ place ∷ []) ∷
    accessing (op (push RAX) ∷ op (push RAX) ∷ op (push RAX) ∷ op (pop RAX) ∷ op (pop RAX) ∷ op (pop RAX) ∷ []) (popped ∷ stack ∷ place ∷ []) ∷
    accessing (op (alu_imm ADD W64 RSP 8) ∷ op (push RAX) ∷ op (alu_imm SUB W64 RSP 8) ∷ op (pop RAX) ∷ []) (stack ∷ place ∷ []) ∷
    -- POPPED: a word that is pushed and left, with RSP put back
    added (op (push RAX) ∷ op (alu_imm ADD W64 RSP 8) ∷ []) (popped ∷ []) ∷
    -- RAN: a jump to its own slot that is no code, and one that returns
    gone 0xffff_ffff [] (ran ∷ []) ∷
    gone 0xffff_ffff (ret ∷ []) (ran ∷ []) ∷
    []

-- the run of code for a line's slot; what slot 0 has in standard mode
abbrev run_of : Code → Wrong → Trace
run_of c x = traced (page_of c) (locs_of c) 0 x.kind x.insn x.regs x.allowed

abbrev right_code : Wrong → Code
right_code x = slot_code standard x.kind 0 x.insn 0

pub blamed-all : map (λ (x : Wrong). blame (run_of x.code x)) table ≡ map (λ (x : Wrong). x.blamed) table
unfolding table alu_value shift_value mul_value met reg_of rex modrm bare short memory decode with_rex rex_of opcode with_modrm reg_number low_number number rd
    result shifted shift_status divides follow step
blamed-all = refl

pub right : map (λ (x : Wrong). arrived (run_of (right_code x) x)) table ≡ map (λ (x : Wrong). true) table
unfolding table alu_value shift_value mul_value met reg_of target_of rex modrm decode with_rex rex_of opcode with_modrm reg_number low_number number rd
    result shifted shift_status divides follow step
right = refl

-- each line's code does not do what its slot says
abbrev Useless : List Wrong → Type 0
Useless [] = Unit {0}
Useless (x ∷ l) = (Does (page_of x.code) (locs_of x.code) 0 x.kind x.insn → ⊥) × Useless l

abbrev refuses : Wrong → Bool
refuses x = refutes (page_of x.code) (locs_of x.code) 0 x.kind x.insn x.regs x.allowed

abbrev all_refused : List Wrong → Bool
all_refused [] = true
all_refused (x ∷ l) = refuses x && all_refused l

useless-by : (l : List Wrong) → T (all_refused l) → Useless l
useless-by [] t = tt
useless-by (x ∷ l) t = (
  refuted (page_of x.code) (locs_of x.code) 0 x.kind x.insn x.regs x.allowed (and_l (refuses x) (all_refused l) t),
  useless-by l (and_r (refuses x) (all_refused l) t),
)

pub useless : Useless table
unfolding table alu_value shift_value mul_value met reg_of rex modrm bare short memory decode with_rex rex_of opcode with_modrm reg_number low_number number rd
    result shifted shift_status divides follow step
useless = useless-by table tt
