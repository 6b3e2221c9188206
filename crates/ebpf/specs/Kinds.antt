-- The opcode table: what it has to hold, and how an entry is read. That an entry, read so, is its opcode's kind is a law
-- (proofs/KindsLaws.antt).
use Rattle.std.specs.Prelude.{ℕ, List, [], ◌∷◌}
use Rattle.base.specs.declared.Width.{Width}
use Rattle.base.specs.declared.Width.TheVariants.{W32, W64}
use Rattle.ebpf.specs.declared.kind.AluOp.{AluOp}
use Rattle.ebpf.specs.declared.kind.AluOp.TheVariants.{Add, Sub, Or, And, Xor}
use Rattle.ebpf.specs.declared.kind.ShiftOp.{ShiftOp}
use Rattle.ebpf.specs.declared.kind.ShiftOp.TheVariants.{Lsh, Rsh, Arsh}
use Rattle.ebpf.specs.declared.kind.MulOp.{MulOp}
use Rattle.ebpf.specs.declared.kind.MulOp.TheVariants.{Mul, Div, Mod}
use Rattle.ebpf.specs.declared.kind.Condition.{Condition}
use Rattle.ebpf.specs.declared.kind.Condition.TheVariants.{Jeq, Jgt, Jge, Jset, Jne, Jsgt, Jsge, Jlt, Jle, Jslt, Jsle}
use Rattle.ebpf.specs.declared.kind.Kind.TheVariants.{LdAbs, LdInd, LdDwImm, LdReg, StImm, StReg, Alu, Shift, Neg, MulDivMod, Mov, Le, Be, Ja, Jump, Call, Exit}
use Rattle.ebpf.specs.declared.kind.Lookup.{Lookup}
use Rattle.ebpf.specs.declared.kind.Lookup.TheVariants.{Known, Unimplemented, Unknown}
use Rattle.base.specs.Cases.{Arm, ◌⇒◌, cases}
use Rattle.base.specs.Table.{values}
use Rattle.ebpf.specs.Opcode.{class_of, source_of, operation_of, size_of, kind_of}

-- The kinds' numbers, under the names that src/kind.rt has behind KIND_. Up to CALL are those of which a look at the slot has more to ask.
abbrev pub UNKNOWN : ℕ
UNKNOWN = 0

abbrev pub UNIMPLEMENTED : ℕ
UNIMPLEMENTED = 1

abbrev pub LD-DW-IMM : ℕ
LD-DW-IMM = 2

abbrev pub MULDIVMOD : ℕ
MULDIVMOD = 3

abbrev pub LE : ℕ
LE = 4

abbrev pub BE : ℕ
BE = 5

abbrev pub JA : ℕ
JA = 6

abbrev pub JUMP : ℕ
JUMP = 7

abbrev pub CALL : ℕ
CALL = 8

abbrev pub LD-ABS : ℕ
LD-ABS = 9

abbrev pub LD-IND : ℕ
LD-IND = 10

abbrev pub LD-REG : ℕ
LD-REG = 11

abbrev pub ST-IMM : ℕ
ST-IMM = 12

abbrev pub ST-REG : ℕ
ST-REG = 13

abbrev pub ALU : ℕ
ALU = 14

abbrev pub SHIFT : ℕ
SHIFT = 15

abbrev pub NEG : ℕ
NEG = 16

abbrev pub MOV : ℕ
MOV = 17

abbrev pub EXIT : ℕ
EXIT = 18

-- a kind's number; what is in the opcode's own fields is left out
abbrev pub number_of : Lookup → ℕ
number_of Unknown = UNKNOWN
number_of Unimplemented = UNIMPLEMENTED
number_of (Known LdDwImm) = LD-DW-IMM
number_of (Known (MulDivMod o w s)) = MULDIVMOD
number_of (Known Le) = LE
number_of (Known Be) = BE
number_of (Known Ja) = JA
number_of (Known (Jump c w s)) = JUMP
number_of (Known Call) = CALL
number_of (Known (LdAbs z)) = LD-ABS
number_of (Known (LdInd z)) = LD-IND
number_of (Known (LdReg z)) = LD-REG
number_of (Known (StImm z)) = ST-IMM
number_of (Known (StReg z)) = ST-REG
number_of (Known (Alu o w s)) = ALU
number_of (Known (Shift o w s)) = SHIFT
number_of (Known (Neg w)) = NEG
number_of (Known (Mov w s)) = MOV
number_of (Known Exit) = EXIT

-- what the table KINDS has to hold: at each opcode byte the number of the kind that RFC 9669's fields make it
unfoldable pub numbers : List ℕ
numbers = values (λ o. number_of (kind_of o)) 0 256

-- the fields that an entry leaves to the opcode
abbrev pub widths : List (Arm Width)
widths = 7 ⇒ W64 ∷ 5 ⇒ W64 ∷ []

abbrev pub width_of : ℕ → Width
width_of o = cases widths W32 (class_of o)

abbrev pub alus : List (Arm AluOp)
alus = 5 ⇒ And ∷ 4 ⇒ Or ∷ 1 ⇒ Sub ∷ 0 ⇒ Add ∷ []

abbrev pub alu_of : ℕ → AluOp
alu_of o = cases alus Xor (operation_of o)

abbrev pub shifts : List (Arm ShiftOp)
shifts = 7 ⇒ Rsh ∷ 6 ⇒ Lsh ∷ []

abbrev pub shift_of : ℕ → ShiftOp
shift_of o = cases shifts Arsh (operation_of o)

abbrev pub muls : List (Arm MulOp)
muls = 3 ⇒ Div ∷ 2 ⇒ Mul ∷ []

abbrev pub mul_of : ℕ → MulOp
mul_of o = cases muls Mod (operation_of o)

abbrev pub conditions : List (Arm Condition)
conditions = 12 ⇒ Jslt ∷ 11 ⇒ Jle ∷ 10 ⇒ Jlt ∷ 7 ⇒ Jsge ∷ 6 ⇒ Jsgt ∷ 5 ⇒ Jne ∷ 4 ⇒ Jset ∷ 3 ⇒ Jge ∷ 2 ⇒ Jgt ∷ 1 ⇒ Jeq ∷ []

abbrev pub condition_of : ℕ → Condition
condition_of o = cases conditions Jsle (operation_of o)

-- what an opcode's entry stands for
abbrev pub kinds : ℕ → List (Arm Lookup)
kinds o =
    EXIT ⇒ Known Exit
    ∷ MOV ⇒ Known (Mov (width_of o) (source_of o))
    ∷ NEG ⇒ Known (Neg (width_of o))
    ∷ SHIFT ⇒ Known (Shift (shift_of o) (width_of o) (source_of o))
    ∷ ALU ⇒ Known (Alu (alu_of o) (width_of o) (source_of o))
    ∷ ST-REG ⇒ Known (StReg (size_of o))
    ∷ ST-IMM ⇒ Known (StImm (size_of o))
    ∷ LD-REG ⇒ Known (LdReg (size_of o))
    ∷ LD-IND ⇒ Known (LdInd (size_of o))
    ∷ LD-ABS ⇒ Known (LdAbs (size_of o))
    ∷ CALL ⇒ Known Call
    ∷ JUMP ⇒ Known (Jump (condition_of o) (width_of o) (source_of o))
    ∷ JA ⇒ Known Ja
    ∷ BE ⇒ Known Be
    ∷ LE ⇒ Known Le
    ∷ MULDIVMOD ⇒ Known (MulDivMod (mul_of o) (width_of o) (source_of o))
    ∷ LD-DW-IMM ⇒ Known LdDwImm
    ∷ UNIMPLEMENTED ⇒ Unimplemented
    ∷ []

abbrev pub numbered : ℕ → ℕ → Lookup
numbered o n = cases (kinds o) Unknown n
