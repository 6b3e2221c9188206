-- The code of a slot, a byte: its opcode where the slot is run, but for EXIT; and where it is not, a number that says why. That no two are taken
-- for each other is a law (proofs/CodesLaws.antt).
use Rattle.std.specs.Prelude.{◌≡◌, Bool, false, List, [], ◌∷◌, ℕ, ◌<◌, get_or}
use Rattle.base.specs.Cases.{Arm, ◌⇒◌, cases}
use Rattle.base.specs.Pick.{pick}
use Rattle.ebpf.specs.Kinds.{UNKNOWN, UNIMPLEMENTED, LD-DW-IMM, LE, BE, CALL, LD-ABS, LD-IND, EXIT}
use Rattle.ebpf.specs.declared.insn.Insn.{Insn}
use Rattle.ebpf.specs.declared.kind.Kind.TheVariants.{LdAbs, LdInd, LdDwImm, LdReg, StImm, StReg, Alu, Shift, Neg, MulDivMod, Mov, Le, Be, Ja, Jump, Call, Exit}
use Rattle.ebpf.specs.declared.kind.Lookup.{Lookup}
use Rattle.ebpf.specs.declared.kind.Lookup.TheVariants.{Known, Unimplemented, Unknown}
use Rattle.jit.specs.Translation.{slots_of, swap_bits}
use Rattle.replay.specs.Run.{kind_at, opcode_at, is_wide}

abbrev pub absent_code : ℕ
absent_code = 0

abbrev pub not_modelled_code : ℕ
not_modelled_code = 0x80

abbrev pub ends_code : ℕ
ends_code = 0x90

abbrev pub code_of : Lookup → (opcode : ℕ) → ℕ
code_of Unknown o = absent_code
code_of Unimplemented o = absent_code
code_of (Known (LdAbs z)) o = not_modelled_code
code_of (Known (LdInd z)) o = not_modelled_code
code_of (Known LdDwImm) o = o
code_of (Known (LdReg z)) o = o
code_of (Known (StImm z)) o = o
code_of (Known (StReg z)) o = o
code_of (Known (Alu p w x)) o = o
code_of (Known (Shift p w x)) o = o
code_of (Known (Neg w)) o = o
code_of (Known (MulDivMod p w x)) o = o
code_of (Known (Mov w x)) o = o
code_of (Known Le) o = o
code_of (Known Be) o = o
code_of (Known Ja) o = o
code_of (Known (Jump c w x)) o = o
code_of (Known Call) o = not_modelled_code
code_of (Known Exit) o = ends_code

abbrev pub code_at : (program : List ℕ) → (slot : ℕ) → ℕ
code_at program slot = code_of (kind_at program slot) (opcode_at program slot)

-- at each slot of a program its code
pub record Coded (program codes : List ℕ) : Type 0 where
  pub entries : (k : ℕ) → k < slots_of program → get_or codes k 0 ≡ code_at program k

-- By the number of the opcode's kind, of a slot whose registers are good.
abbrev pub code_if : Bool → Insn → ℕ
code_if there i = pick there i.opc absent_code

abbrev pub codes : (more : Bool) → Insn → List (Arm ℕ)
codes more i =
    EXIT ⇒ ends_code
    ∷ LD-IND ⇒ not_modelled_code
    ∷ LD-ABS ⇒ not_modelled_code
    ∷ CALL ⇒ not_modelled_code
    ∷ BE ⇒ code_if (swap_bits i.imm) i
    ∷ LE ⇒ code_if (swap_bits i.imm) i
    ∷ LD-DW-IMM ⇒ code_if more i
    ∷ UNIMPLEMENTED ⇒ absent_code
    ∷ UNKNOWN ⇒ absent_code
    ∷ []

abbrev pub code_by : (number : ℕ) → (more : Bool) → Insn → ℕ
code_by number more i = cases (codes more i) i.opc number

-- whether the slot behind one is a second half
abbrev pub opened : (second : Bool) → (opcode : ℕ) → Bool
opened second opcode = pick second false (is_wide opcode)
