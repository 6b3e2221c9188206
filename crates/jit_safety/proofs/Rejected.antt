-- A division, a call, an epilogue and a prologue that differ in one thing from those of crate jit, each beside the right one: the checks of
-- Checked.antt turn it down. And where a run shows what is wrong, with demand 3 it is not to be had, whatever the checks say.
use mathlib.Core.Path.{◌≡◌, refl}
use mathlib.Core.Bool.{Bool, true, false}
use mathlib.Core.List.{List, [], ◌∷◌, ◌++◌}
use Prim.Native.Nat.{ℕ, ◌-◌, ◌^◌}
use native.Mathlib.Omega.{arith}
use lib.ListN.{get_or, replicate}
use Rattle.base.specs.declared.Width.{Width}
use Rattle.base.specs.declared.Width.TheVariants.{W32, W64}
use Rattle.ebpf.specs.declared.kind.MulOp.TheVariants.{Div}
use Rattle.x86.specs.Registers.{RAX, RCX, RDX, RBX, RSP, RBP, RSI, RDI, R9, R10, R13, R14, R15}
use Rattle.x86.specs.Instr.{Plain, Instr, Cond, op, push, pop, alu, alu_imm, unary, mov_imm, jump, jmp, call, jcc, ret, ADD, SUB, MOV, XOR, TEST, DIV, JE, JNE}
use Rattle.x86.specs.Encode.{rex, modrm}
use Rattle.x86.specs.Decode.{decode, with_rex, rex_of, opcode, with_modrm, reg_number, low_number, number}
use Rattle.x86.specs.Code.{near, to}
use Rattle.x86.specs.Lowered.{code_of}
use Rattle.jit.specs.Limits.{anchor}
use Rattle.jit.specs.MulDivMod.{Code, guard, mul_div_mod_imm, mul_div_mod_reg}
use Rattle.jit.specs.Slots.{local_call}
use Rattle.jit.specs.Frame.{saves, packet_start, packet_end, argument, enter, prologue, epilogue}
use Rattle.jit.specs.Modes.{rust, compact}
use Rattle.x86_machine.specs.Machine.{State, Input, put, Outcome, running, finished, faulted, unbalanced, divided, astray, rd, result, divides, follow, step, run}
use Rattle.jit_safety.specs.Demand3.{Staying, StackPointer}
use Rattle.jit_safety.proofs.Depth.{framed, balanced}
use Rattle.jit_safety.proofs.Notes.{laid, annotated}
use Rattle.jit_safety.proofs.Checked.{fine_code, by_imm, calling}
use Rattle.x86_machine.proofs.WorkedRun.{clear, input}
use Rattle.jit_safety.proofs.UselessRuns.{never-divided, uneven-return, runs_by_lem}

-- DIV32_REG r2, r1 in slot 0, by the width of the test, the condition, how far it skips, what clears EDX, and the divisor's register
abbrev division : (tested : Width) → Cond → (skip : ℕ) → (clear : Code) → (divisor : ℕ) → Code
division w c k clear s =
    op (alu_imm MOV W64 RCX 0)
    ∷ op (alu TEST w RDI RDI)
    ∷ jump (jcc c) (near k)
    ∷ op (alu XOR W32 RSI RSI)
    ∷ jump jmp (to 1)
    ∷ op (push RAX)
    ∷ op (push RDX)
    ∷ op (alu MOV W64 s RCX)
    ∷ op (alu MOV W64 RSI RAX)
    ∷ (clear ++ (op (unary DIV W32 RCX) ∷ op (pop RDX) ∷ op (alu MOV W64 RAX RSI) ∷ op (pop RAX) ∷ []))

abbrev clear_edx : Code
clear_edx = op (alu XOR W32 RDX RDX) ∷ []

pub division-right : (mul_div_mod_reg rust Div 0 W32 RDI RSI ≡ division W32 JNE 7 clear_edx RDI) × (fine_code (division W32 JNE 7 clear_edx RDI) ≡ true)
unfolding rex
division-right = (refl, refl)

pub je-for-jne : fine_code (division W32 JE 7 clear_edx RDI) ≡ false
unfolding rex
je-for-jne = refl

pub no-xor-edx : fine_code (division W32 JNE 7 [] RDI) ≡ false
unfolding rex
no-xor-edx = refl

pub skip-8 : fine_code (division W32 JNE 8 clear_edx RDI) ≡ false
unfolding rex
skip-8 = refl

pub divisor-from-dst : fine_code (division W32 JNE 7 clear_edx RSI) ≡ false
unfolding rex
divisor-from-dst = refl

pub test-at-64-bits : fine_code (division W64 JNE 7 clear_edx RDI) ≡ false
unfolding rex
test-at-64-bits = refl

-- Run by itself, each of the four that divide where they must not raises #DE, from some values of RDX, of RDI, the divisor, and of RSI, the
-- dividend; the right one does not from these.
abbrev begun : (rdx rdi rsi : ℕ) → State
begun x d s = record { pos = 0; regs = put (put (put (put (λ r. 0) RSP 4096) RDX x) RDI d) RSI s; flags = clear; calls = [] }

abbrev is_running : Outcome → Bool
is_running (running s) = true
is_running (finished s) = false
is_running faulted = false
is_running unbalanced = false
is_running divided = false
is_running astray = false

abbrev bytes_of : Code → List ℕ
bytes_of c = code_of (λ t. 0) c

abbrev inputs : (steps back : ℕ) → List Input
inputs n b = replicate n (input true b)

raises : (c : Code) (x d s : ℕ) (is : List (Instr ℕ)) → run (bytes_of c) (inputs 10 0) (begun x d s) ≡ divided → Staying (bytes_of c) is → ⊥
raises c x d s is e stays = never-divided (bytes_of c) is stays (inputs 10 0) (begun x d s) (refl, refl) e

pub je-for-jne-raises : (is : List (Instr ℕ)) → Staying (bytes_of (division W32 JE 7 clear_edx RDI)) is → ⊥
unfolding rex modrm decode with_rex rex_of opcode with_modrm reg_number low_number number rd result divides follow step run
je-for-jne-raises is = raises (division W32 JE 7 clear_edx RDI) 0 0 5 is refl

pub no-xor-edx-raises : (is : List (Instr ℕ)) → Staying (bytes_of (division W32 JNE 7 [] RDI)) is → ⊥
unfolding rex modrm decode with_rex rex_of opcode with_modrm reg_number low_number number rd result divides follow step run
no-xor-edx-raises is = raises (division W32 JNE 7 [] RDI) 1 1 5 is refl

pub divisor-from-dst-raises : (is : List (Instr ℕ)) → Staying (bytes_of (division W32 JNE 7 clear_edx RSI)) is → ⊥
unfolding rex modrm decode with_rex rex_of opcode with_modrm reg_number low_number number rd result divides follow step run
divisor-from-dst-raises is = raises (division W32 JNE 7 clear_edx RSI) 0 1 0 is refl

pub test-at-64-bits-raises : (is : List (Instr ℕ)) → Staying (bytes_of (division W64 JNE 7 clear_edx RDI)) is → ⊥
unfolding rex modrm decode with_rex rex_of opcode with_modrm reg_number low_number number rd result divides follow step run
test-at-64-bits-raises is = raises (division W64 JNE 7 clear_edx RDI) 0 (2 ^ 32) 5 is refl

abbrev goes_on : (rdx rdi rsi : ℕ) → Bool
goes_on x d s = is_running (run (bytes_of (division W32 JNE 7 clear_edx RDI)) (inputs 10 0) (begun x d s))

pub division-goes-on : (goes_on 0 0 5 ≡ true) × (goes_on 1 1 5 ≡ true) × (goes_on 0 1 0 ≡ true) × (goes_on 0 (2 ^ 32) 5 ≡ true)
unfolding rex modrm decode with_rex rex_of opcode with_modrm reg_number low_number number rd result divides follow step run
division-goes-on = (refl, refl, refl, refl)

-- DIV32_IMM r2, compact, by what brings the divisor to RCX: 5 in four bytes is right. 0 is not, nor is 2 ^ 32 in eight bytes, whose lower half,
-- by which a division of 32 bits divides, is 0.
abbrev divided_by : Plain → Code
divided_by p = by_imm Div W32 p RSI

pub constant-right : (mul_div_mod_imm compact Div W32 RSI 5 ≡ divided_by (mov_imm W32 RCX 5)) × (fine_code (divided_by (mov_imm W32 RCX 5)) ≡ true)
constant-right = (refl, refl)

pub constant-0 : fine_code (divided_by (mov_imm W32 RCX 0)) ≡ false
constant-0 = refl

pub constant-above : fine_code (divided_by (mov_imm W64 RCX (2 ^ 32))) ≡ false
constant-above = refl

pub constant-0-raises : (is : List (Instr ℕ)) → Staying (bytes_of (divided_by (mov_imm W32 RCX 0))) is → ⊥
unfolding rex modrm decode with_rex rex_of opcode with_modrm reg_number low_number number rd result divides follow step run
constant-0-raises is = raises (divided_by (mov_imm W32 RCX 0)) 0 0 5 is refl

pub constant-above-raises : (is : List (Instr ℕ)) → Staying (bytes_of (divided_by (mov_imm W64 RCX (2 ^ 32)))) is → ⊥
unfolding rex modrm decode with_rex rex_of opcode with_modrm reg_number low_number number rd result divides follow step run
constant-above-raises is = raises (divided_by (mov_imm W64 RCX (2 ^ 32))) 0 0 5 is refl

pub constant-goes-on : is_running (run (bytes_of (divided_by (mov_imm W32 RCX 5))) (inputs 9 0) (begun 0 0 5)) ≡ true
unfolding rex modrm decode with_rex rex_of opcode with_modrm reg_number low_number number rd result divides follow step run
constant-goes-on = refl

-- The guard alone, of a dst above 7: its XOR has a REX, and so three bytes. A skip of 7 goes into the jump.
abbrev guarded : (skip : ℕ) → Code
guarded k = op (alu_imm MOV W64 RCX 0) ∷ op (alu TEST W32 RDI RDI) ∷ jump (jcc JNE) (near k) ∷ op (alu XOR W32 R9 R9) ∷ jump jmp (to 1) ∷ []

pub guarded-right : (guard rust Div 0 W32 RDI R9 ≡ guarded 8) × (fine_code (guarded 8) ≡ true)
unfolding rex
guarded-right = (refl, refl)

pub skip-7-over-rex-xor : fine_code (guarded 7) ≡ false
unfolding rex
skip-7-over-rex-xor = refl

-- a call within the program, by what it pops last
abbrev called_by : (target : ℕ) → Code → Code
called_by t last =
    op (push RBX)
    ∷ op (push R13)
    ∷ op (push R14)
    ∷ op (push R15)
    ∷ jump call (to t)
    ∷ op (pop R15)
    ∷ op (pop R14)
    ∷ op (pop R13)
    ∷ last

pub call-right : (t : ℕ) → (local_call t ≡ called_by t (op (pop RBX) ∷ [])) × (fine_code (called_by t (op (pop RBX) ∷ [])) ≡ true)
call-right t = (refl, refl)

pub one-pop-fewer : (t : ℕ) → fine_code (called_by t []) ≡ false
one-pop-fewer t = refl

-- Run with a return behind it and one to call, at 19, it comes to the first of these with RSP 8 below where it began.
abbrev popping_less : List ℕ
popping_less = code_of (λ t. 19) (called_by 0 [] ++ (ret ∷ ret ∷ []))

pub one-pop-fewer-uneven : (fields : List ℕ) → StackPointer popping_less fields → ⊥
unfolding rex modrm decode with_rex rex_of opcode with_modrm reg_number low_number number rd result follow step run
one-pop-fewer-uneven fields p =
    uneven-return popping_less fields p (inputs 9 12) (begun 0 0 0) _ (refl, refl)
    (runs_by_lem popping_less 4 (get_or fields 0 0 - 1) (inputs 9 12) (begun 0 0 0) tt) (0xc3 ∷ []) refl refl (omega arith)

-- the epilogue, by what it adds to RSP
abbrev leaving : (added : ℕ) → Code
leaving k =
    op (alu_imm ADD W64 RSP k)
    ∷ op (pop R15)
    ∷ op (pop R14)
    ∷ op (pop R13)
    ∷ op (pop RBX)
    ∷ op (pop RBP)
    ∷ ret
    ∷ []

abbrev even : Code → Bool
even c = balanced anchor (laid true framed (annotated c))

pub epilogue-right : (epilogue ≡ leaving 512) × (even (leaving 512) ≡ true)
unfolding epilogue
epilogue-right = (refl, refl)

pub epilogue-adds-504 : even (leaving 504) ≡ false
epilogue-adds-504 = refl

-- the prologue that passes the packet, by what stands between its stack and its jump to the exit
abbrev entering : Code → Code
entering c =
    op (push RBP)
    ∷ op (push RBX)
    ∷ op (push R13)
    ∷ op (push R14)
    ∷ op (push R15)
    ∷ op (alu MOV W64 RDX R10)
    ∷ op (alu MOV W64 RDX RDI)
    ∷ op (alu MOV W64 RSP RBP)
    ∷ op (alu_imm SUB W64 RSP 512)
    ∷ (c ++ (jump jmp (to anchor) ∷ []))

abbrev call_over : Code
call_over = jump call (near 5) ∷ []

pub prologue-right : (prologue (record { use_mbuff = false; update_data_ptr = false }) ≡ entering call_over) × (calling (entering call_over) ≡ true)
unfolding saves packet_start packet_end argument enter prologue
prologue-right = (refl, refl)

pub prologue-without-call : calling (entering []) ≡ false
prologue-without-call = refl
