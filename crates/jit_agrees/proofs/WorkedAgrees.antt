-- The theorem at work, on a program of five slots in standard mode with compact constants: its page is one that is accepted, so that each slot's
-- code does what the slot says, and a run from slot 0 comes to slot 4 with the registers that RFC 9669's three steps leave.
use mathlib.Core.Path.{◌≡◌, refl}
use mathlib.Core.Bool.{true, false}
use mathlib.Core.List.{List, [], ◌∷◌, ◌++◌}
use Prim.Native.Nat.{ℕ}
use native.Mathlib.Omega.{arith}
use lib.ListN.{replicate}
use Rattle.base.specs.declared.Width.TheVariants.{W32, W64}
use Rattle.ebpf.specs.Insn.{insn_at, read_at}
use Rattle.ebpf.specs.Opcode.{kind_of}
use Rattle.ebpf.specs.declared.insn.Insn.{Insn}
use Rattle.ebpf.specs.declared.kind.Source.TheVariants.{Reg}
use Rattle.ebpf.specs.declared.kind.MulOp.TheVariants.{Div}
use Rattle.ebpf.specs.declared.kind.Condition.TheVariants.{Jsgt}
use Rattle.ebpf.specs.declared.kind.Kind.TheVariants.{MulDivMod, Mov, Jump}
use Rattle.ebpf_meaning.specs.Values.{mul_value, met}
use Rattle.x86.specs.Registers.{RAX, RDX, RDI}
use Rattle.x86.specs.Encode.{rex, modrm}
use Rattle.x86.specs.Decode.{decode, with_rex, rex_of, opcode, with_modrm, reg_number, low_number, number}
use Rattle.jit.specs.Limits.{anchor}
use Rattle.jit.specs.Slots.{reg_of, target_of}
use Rattle.jit.specs.Frame.{saves, argument, enter, prologue, epilogue}
use Rattle.jit.specs.Translation.{step_at, rest, good_target, sizes_of, translation_of}
use Rattle.jit.specs.declared.Mode.{Mode}
use Rattle.jit.specs.Modes.{standard}
use Rattle.jit.specs.Compact.{compact_on}
use Rattle.jit_safety.specs.Demand3.{Given}
use Rattle.x86_machine.specs.Machine.{State, running, rd, result, divides, follow, step, run}
use Rattle.x86_machine.proofs.WorkedRun.{input}
use Rattle.jit_agrees.specs.Agrees.{Agrees}
use Rattle.jit_agrees.specs.Follows.{AtSlot}
use Rattle.jit_agrees.proofs.RunsLaws.{Arrives, arrives}
use Rattle.jit_agrees.proofs.AgreesLaws.{unchanged-here}
use Rattle.jit_agrees.proofs.Proved.{agrees, follows-all}
use Rattle.jit_agrees.proofs.Paths.{Path, here, on, along}
use Rattle.jit_agrees.proofs.Starts.{start_at, below-lt, mapped-at-start}
use Rattle.jit_agrees.proofs.Elsewhere.{acts-other, inputs, inputs-fair}
use Rattle.jit_agrees.proofs.Premises.{asking, slot, page, Gives}

-- MOV32_REG r1, r2; DIV64_REG r0, r3; JSGT_REG r0, r1 to slot 4; MOV64_IMM r0, 7; EXIT
abbrev program : List ℕ
program = slot 0xbc 0x21 0 ++ (slot 0x3f 0x30 0 ++ (0x6d ∷ 0x10 ∷ 1 ∷ 0 ∷ 0 ∷ 0 ∷ 0 ∷ 0 ∷ (slot 0xb7 0 7 ++ slot 0x95 0 0)))

abbrev both : Mode
both = compact_on standard

abbrev slots : List ℕ
slots =
    0x89 ∷ 0xf7
    ∷ 0xb9 ∷ 0x01 ∷ 0x00 ∷ 0x00 ∷ 0x00 ∷ 0x48 ∷ 0x85 ∷ 0xd2 ∷ 0x0f ∷ 0x85 ∷ 0x07 ∷ 0x00 ∷ 0x00 ∷ 0x00 ∷ 0x31 ∷ 0xc0 ∷ 0xe9 ∷ 0x0d ∷ 0x00 ∷ 0x00 ∷ 0x00
    ∷ 0x52 ∷ 0x48 ∷ 0x89 ∷ 0xd1 ∷ 0x48 ∷ 0x89 ∷ 0xc0 ∷ 0x31 ∷ 0xd2 ∷ 0x48 ∷ 0xf7 ∷ 0xf1 ∷ 0x5a
    ∷ 0x48 ∷ 0x39 ∷ 0xf8 ∷ 0x0f ∷ 0x8f ∷ 0x05 ∷ 0x00 ∷ 0x00 ∷ 0x00
    ∷ 0xb8 ∷ 0x07 ∷ 0x00 ∷ 0x00 ∷ 0x00
    ∷ 0xc3 ∷ []

abbrev locs : List ℕ
locs = 34 ∷ 36 ∷ 70 ∷ 79 ∷ 84 ∷ 0 ∷ []

pub accepted : Gives both program slots locs (30 ∷ 53 ∷ 75 ∷ []) (anchor ∷ 2 ∷ 4 ∷ [])
unfolding insn_at read_at kind_of reg_of target_of rex modrm saves argument enter prologue epilogue step_at rest good_target sizes_of translation_of
accepted = refl

given : Given (asking both program)
given = record { bytes = below-lt 256 program (omega arith) tt; addresses = λ k. omega arith }

pub agreed : Agrees program (page slots) locs
agreed = agrees (asking both program) given (page slots) locs (30 ∷ 53 ∷ 75 ∷ []) (anchor ∷ 2 ∷ 4 ∷ []) accepted refl

-- 100 over 7 is 14, which is above 5, the lower half of r2
abbrev registers : (r0 r1 : ℕ) → List ℕ
registers a b = a ∷ b ∷ 0x1_0000_0005 ∷ 7 ∷ 104 ∷ 105 ∷ 106 ∷ 107 ∷ 108 ∷ 109 ∷ 110 ∷ []

abbrev begun : State
begun = start_at 34 (registers 100 101)

at-start : AtSlot locs begun 0 (registers 100 101) begun
at-start =
    record { begins = λ e. omega arith; place = refl; registers = mapped-at-start 34 (registers 100 101) tt; unchanged = unchanged-here begun }

abbrev read : (opc dst src off : ℕ) → Insn
read o d s x = record { opc = o; dst = d; src = s; off = x; imm = 0 }

path : Path program locs 0 (registers 100 101) 4 (registers 14 5)
unfolding insn_at read_at kind_of mul_value met
path =
    on {slot = 0} {r = registers 100 101} (read 0xbc 1 2 0) (Mov W32 Reg) refl refl (acts-other _ tt) (λ e. omega arith)
    (on {slot = 1} {r = registers 100 5} (read 0x3f 0 3 0) (MulDivMod Div W64 Reg) refl refl (acts-other _ tt) (λ e. omega arith)
    (on {slot = 2} {r = registers 14 5} (read 0x6d 0 1 1) (Jump Jsgt W64 Reg) refl refl (acts-other _ tt) (λ e. omega arith) here))

pub worked : Arrives (page slots) (AtSlot locs begun 4 (registers 14 5)) begun
worked =
    arrives (inputs 0 false) (inputs-fair 0 false)
    (along program (page slots) locs (follows-all program (page slots) locs agreed) path begun at-start)

-- the same, with no theorem: twelve steps of the processor, computed, in which 7 is popped, as was pushed
pub computed : (t : State) × ((run (page slots) (replicate 12 (input true 0)) begun ≡ running t)
    × ((t.pos ≡ 84) × ((t.regs RAX ≡ 14) × ((t.regs RDI ≡ 5) × (t.regs RDX ≡ 7)))))
unfolding decode with_rex rex_of opcode with_modrm reg_number low_number number rd result divides follow step run
computed = (_, (refl, (refl, (refl, (refl, refl)))))
