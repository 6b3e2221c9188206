-- The opcodes that rbpf names: the 123 constants of its src/ebpf.rs in its order, each with its byte and the kind that the name says.
use Rattle.std.specs.Prelude.{ℕ, ◌+◌, List, [], ◌∷◌, ◌++◌}
use Rattle.base.specs.Cases.{Arm, ◌⇒◌}
use Rattle.base.specs.declared.Width.{Width}
use Rattle.base.specs.declared.Width.TheVariants.{W32, W64}
use Rattle.base.specs.declared.Size.{Size}
use Rattle.base.specs.declared.Size.TheVariants.{S8, S16, S32, S64}
use Rattle.ebpf.specs.declared.kind.Source.{Source}
use Rattle.ebpf.specs.declared.kind.Source.TheVariants.{Imm, Reg}
use Rattle.ebpf.specs.declared.kind.AluOp.TheVariants.{Add, Sub, Or, And, Xor}
use Rattle.ebpf.specs.declared.kind.ShiftOp.TheVariants.{Lsh, Rsh, Arsh}
use Rattle.ebpf.specs.declared.kind.MulOp.TheVariants.{Mul, Div, Mod}
use Rattle.ebpf.specs.declared.kind.Condition.TheVariants.{Jeq, Jgt, Jge, Jset, Jne, Jsgt, Jsge, Jlt, Jle, Jslt, Jsle}
use Rattle.ebpf.specs.declared.kind.Kind.{Kind}
use Rattle.ebpf.specs.declared.kind.Kind.TheVariants.{LdAbs, LdInd, LdDwImm, LdReg, StImm, StReg, Alu, Shift, Neg, MulDivMod, Mov, Le, Be, Ja, Jump, Call, Exit}
use Rattle.ebpf.specs.declared.kind.Lookup.{Lookup}
use Rattle.ebpf.specs.declared.kind.Lookup.TheVariants.{Known, Unimplemented}

-- names that end in _B, _H, _W, _DW (BPF_B 0x10, BPF_H 0x08, BPF_W 0x00, BPF_DW 0x18), or have that before _REG or _IMM
abbrev in_sizes : ℕ → (Size → Kind) → List (Arm Lookup)
in_sizes o k = (o + 0x10) ⇒ Known (k S8) ∷ (o + 0x08) ⇒ Known (k S16) ∷ o ⇒ Known (k S32) ∷ (o + 0x18) ⇒ Known (k S64) ∷ []

-- names that end in _IMM, _REG (BPF_K 0x00, BPF_X 0x08)
abbrev in_sources : ℕ → (Source → Kind) → List (Arm Lookup)
in_sources o k = o ⇒ Known (k Imm) ∷ (o + 0x08) ⇒ Known (k Reg) ∷ []

-- ADD32_IMM to ARSH32_REG, and with 64; c is the class
abbrev arithmetic_names : ℕ → Width → List (Arm Lookup)
arithmetic_names c w =
    in_sources (c + 0x00) (Alu Add w)
    ++ in_sources (c + 0x10) (Alu Sub w)
    ++ in_sources (c + 0x20) (MulDivMod Mul w)
    ++ in_sources (c + 0x30) (MulDivMod Div w)
    ++ in_sources (c + 0x40) (Alu Or w)
    ++ in_sources (c + 0x50) (Alu And w)
    ++ in_sources (c + 0x60) (Shift Lsh w)
    ++ in_sources (c + 0x70) (Shift Rsh w)
    ++ (c + 0x80) ⇒ Known (Neg w)
    ∷ in_sources (c + 0x90) (MulDivMod Mod w)
    ++ in_sources (c + 0xa0) (Alu Xor w)
    ++ in_sources (c + 0xb0) (Mov w)
    ++ in_sources (c + 0xc0) (Shift Arsh w)

-- JEQ_IMM to JSLE_REG, and JEQ_IMM32 to JSLE_REG32
abbrev jump_names : ℕ → Width → List (Arm Lookup)
jump_names c w =
    in_sources (c + 0x10) (Jump Jeq w)
    ++ in_sources (c + 0x20) (Jump Jgt w)
    ++ in_sources (c + 0x30) (Jump Jge w)
    ++ in_sources (c + 0xa0) (Jump Jlt w)
    ++ in_sources (c + 0xb0) (Jump Jle w)
    ++ in_sources (c + 0x40) (Jump Jset w)
    ++ in_sources (c + 0x50) (Jump Jne w)
    ++ in_sources (c + 0x60) (Jump Jsgt w)
    ++ in_sources (c + 0x70) (Jump Jsge w)
    ++ in_sources (c + 0xc0) (Jump Jslt w)
    ++ in_sources (c + 0xd0) (Jump Jsle w)

abbrev pub named : List (Arm Lookup)
named =
    -- LD_ABS_B .. LD_ABS_DW, LD_IND_B .. LD_IND_DW
    in_sizes 0x20 LdAbs
    ++ in_sizes 0x40 LdInd
    -- LD_DW_IMM, LD_B_REG .. LD_DW_REG, ST_B_IMM .. ST_DW_IMM, ST_B_REG .. ST_DW_REG
    ++ 0x18 ⇒ Known LdDwImm
    ∷ in_sizes 0x61 LdReg
    ++ in_sizes 0x62 StImm
    ++ in_sizes 0x63 StReg
    -- ST_W_XADD, ST_DW_XADD
    ++ 0xc3 ⇒ Unimplemented
    ∷ 0xdb ⇒ Unimplemented
    ∷ arithmetic_names 0x04 W32
    -- LE, BE
    ++ 0xd4 ⇒ Known Le
    ∷ 0xdc ⇒ Known Be
    ∷ arithmetic_names 0x07 W64
    -- JA
    ++ 0x05 ⇒ Known Ja
    ∷ jump_names 0x05 W64
    ++ jump_names 0x06 W32
    -- CALL, TAIL_CALL, EXIT
    ++ 0x85 ⇒ Known Call
    ∷ 0x8d ⇒ Unimplemented
    ∷ 0x95 ⇒ Known Exit
    ∷ []

-- the bytes, which the constants have to be
abbrev bytes_of : List (Arm Lookup) → List ℕ
bytes_of [] = []
bytes_of (o ⇒ l ∷ r) = o ∷ bytes_of r

unfoldable pub opcodes : List ℕ
opcodes = bytes_of named
