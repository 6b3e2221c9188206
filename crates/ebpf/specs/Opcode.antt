-- What kind of slot an opcode makes, by the fields that RFC 9669 reads in it: the class (section 3.3), and then the source and the
-- operation of arithmetic and jumps (section 4), or the size and the mode of loads and stores (section 5).
-- The kinds are those that rbpf 0.4.1 translates; docs/DIFFERENCES.md lists where they are not the RFC's.
use Rattle.std.specs.Prelude.{ℕ, ◌/◌, ◌%◌, List, [], ◌∷◌, get_or, ◌==◌, slice_index_or}
use Rattle.base.specs.Pick.{pick}
use Rattle.base.specs.Cases.{Arm, ◌⇒◌, cases}
use Rattle.base.specs.declared.Width.{Width}
use Rattle.base.specs.declared.Width.TheVariants.{W32, W64}
use Rattle.base.specs.declared.Size.{Size}
use Rattle.base.specs.declared.Size.TheVariants.{S8, S16, S32, S64}
use Rattle.ebpf.specs.declared.kind.Source.{Source}
use Rattle.ebpf.specs.declared.kind.Source.TheVariants.{Imm, Reg}
use Rattle.ebpf.specs.declared.kind.AluOp.TheVariants.{Add, Sub, Or, And, Xor}
use Rattle.ebpf.specs.declared.kind.ShiftOp.TheVariants.{Lsh, Rsh, Arsh}
use Rattle.ebpf.specs.declared.kind.MulOp.TheVariants.{Mul, Div, Mod}
use Rattle.ebpf.specs.declared.kind.Condition.TheVariants.{Jeq, Jgt, Jge, Jset, Jne, Jsgt, Jsge, Jlt, Jle, Jslt, Jsle}
use Rattle.ebpf.specs.declared.kind.Kind.TheVariants.{LdAbs, LdInd, LdDwImm, LdReg, StImm, StReg, Alu, Shift, Neg, MulDivMod, Mov, Le, Be, Ja, Jump, Call, Exit}
use Rattle.ebpf.specs.declared.kind.Lookup.{Lookup}
use Rattle.ebpf.specs.declared.kind.Lookup.TheVariants.{Known, Unimplemented, Unknown}

-- The fields. Of every opcode: the class. Of arithmetic and jumps: the source and the operation. Of loads and stores: the size and the mode.
abbrev pub class_of : ℕ → ℕ
class_of o = o % 8

abbrev pub sources : List (Arm Source)
sources = 0 ⇒ Imm ∷ []

abbrev pub source_of : ℕ → Source
source_of o = cases sources Reg (o / 8 % 2)

abbrev pub operation_of : ℕ → ℕ
operation_of o = o / 16

abbrev pub sizes : List (Arm Size)
sizes = 2 ⇒ S8 ∷ 1 ⇒ S16 ∷ 0 ⇒ S32 ∷ []

abbrev pub size_of : ℕ → Size
size_of o = cases sizes S64 (o / 8 % 4)

abbrev pub mode_of : ℕ → ℕ
mode_of o = o / 32

-- an opcode that is known with BPF_K alone; what else it is with BPF_X
abbrev by_source : ℕ → Lookup → Lookup → Lookup
by_source o k x = pick (o / 8 % 2 == 0) k x

-- section 5.4 and 5.5: class LD, by mode. BPF_IMM 0 is the wide load, of size DW alone; BPF_ABS 1; BPF_IND 2.
abbrev pub ld : ℕ → Lookup
ld o = slice_index_or (pick (o / 8 % 4 == 3) (Known LdDwImm) Unknown ∷ Known (LdAbs (size_of o)) ∷ Known (LdInd (size_of o)) ∷ []) (mode_of o) Unknown

-- section 5.1: BPF_MEM, mode 3
abbrev pub mem : ℕ → Lookup → Lookup
mem o k = pick (mode_of o == 3) k Unknown

-- section 5.1 and 5.3: class STX has BPF_MEM, and BPF_ATOMIC, mode 6, of sizes W 0 and DW 3
abbrev pub stx : ℕ → Lookup
stx o =
    pick (mode_of o == 6)
    (slice_index_or (Unimplemented ∷ Unknown ∷ Unknown ∷ Unimplemented ∷ []) (o / 8 % 4) Unknown)
    (mem o (Known (StReg (size_of o))))

-- section 4.1: arithmetic, by operation; section 4.2: the byte swap, operation 0xd, of class ALU alone, BPF_TO_LE and BPF_TO_BE
abbrev pub arithmetic : Width → Lookup → ℕ → Lookup
arithmetic w swap o =
    let s = source_of o in
    get_or
    (Known (Alu Add w s)
    ∷ Known (Alu Sub w s)
    ∷ Known (MulDivMod Mul w s)
    ∷ Known (MulDivMod Div w s)
    ∷ Known (Alu Or w s)
    ∷ Known (Alu And w s)
    ∷ Known (Shift Lsh w s)
    ∷ Known (Shift Rsh w s)
    ∷ by_source o (Known (Neg w)) Unknown
    ∷ Known (MulDivMod Mod w s)
    ∷ Known (Alu Xor w s)
    ∷ Known (Mov w s)
    ∷ Known (Shift Arsh w s)
    ∷ swap
    ∷ [])
    (operation_of o)
    Unknown

-- section 4.3: jumps, by operation; JA, CALL and EXIT are of class JMP alone
abbrev pub jumps : Width → Lookup → Lookup → Lookup → ℕ → Lookup
jumps w ja call exit o =
    let s = source_of o in
    get_or
    (ja
    ∷ Known (Jump Jeq w s)
    ∷ Known (Jump Jgt w s)
    ∷ Known (Jump Jge w s)
    ∷ Known (Jump Jset w s)
    ∷ Known (Jump Jne w s)
    ∷ Known (Jump Jsgt w s)
    ∷ Known (Jump Jsge w s)
    ∷ call
    ∷ exit
    ∷ Known (Jump Jlt w s)
    ∷ Known (Jump Jle w s)
    ∷ Known (Jump Jslt w s)
    ∷ Known (Jump Jsle w s)
    ∷ [])
    (operation_of o)
    Unknown

-- section 3.3: the classes LD, LDX, ST, STX, ALU, JMP, JMP32, ALU64
unfoldable pub kind_of : ℕ → Lookup
kind_of o =
    get_or
    (ld o
    ∷ mem o (Known (LdReg (size_of o)))
    ∷ mem o (Known (StImm (size_of o)))
    ∷ stx o
    ∷ arithmetic W32 (by_source o (Known Le) (Known Be)) o
    ∷ jumps W64 (by_source o (Known Ja) Unknown) (by_source o (Known Call) Unimplemented) (by_source o (Known Exit) Unknown) o
    ∷ jumps W32 Unknown Unknown Unknown o
    ∷ arithmetic W64 Unknown o
    ∷ [])
    (class_of o)
    Unknown
