-- Tests of the meaning: 684 steps, each computed by antt from given registers, and what comes of it. The table is written by
-- meaning-test/run, from what an interpreter of eBPF that reads nothing from antt makes of each step; do not edit it.
use mathlib.Core.Path.{◌≡◌, refl}
use mathlib.Core.List.{List, [], ◌∷◌, map}
use Prim.Native.Nat.{ℕ}
use lib.ListN.{set}
use Rattle.ebpf.specs.Opcode.{kind_of}
use Rattle.ebpf.specs.declared.insn.Insn.{Insn}
use Rattle.ebpf_meaning.specs.Values.{alu_value, neg_value, mul_value, shift_value, le_value, reversed, be_value, met}
use Rattle.ebpf_meaning.proofs.Worked.{stepped}

-- an instruction in slot 5; what its dst and its src hold before it; the next slot, and what dst holds behind it
pub record Line : Type 0 where
  pub insn : Insn
  pub left : ℕ
  pub right : ℕ
  pub next : ℕ
  pub value : ℕ

abbrev line : (opc dst src off imm left right next value : ℕ) → Line
line o d s x i a b n v = record { insn = record { opc = o; dst = d; src = s; off = x; imm = i }; left = a; right = b; next = n; value = v }

-- all eleven registers, of which dst holds this: each one that the instruction does not name holds 100 and its number
abbrev registers : Line → (dst : ℕ) → List ℕ
registers l x = set (set (100 ∷ 101 ∷ 102 ∷ 103 ∷ 104 ∷ 105 ∷ 106 ∷ 107 ∷ 108 ∷ 109 ∷ 110 ∷ []) l.insn.src l.right) l.insn.dst x

abbrev given : Line → List ℕ
given l = stepped (kind_of l.insn.opc) l.insn (registers l l.left)

abbrev expected : Line → List ℕ
expected l = l.next ∷ registers l l.value

pub table : List Line
table =
    -- ADD32 K
    line 0x04 0 1 0 0x7fff_ffff 0x8765_4321_89ab_cdef 0x1234_5678_fedc_ba98 6 0x9ab_cdee ∷
    line 0x04 1 2 0 0x8000_0000 0x8765_4321_89ab_cdef 0x1234_5678_fedc_ba98 6 0x9ab_cdef ∷
    line 0x04 2 3 0 0xffff_ffff 1 0x1234_5678_fedc_ba98 6 0 ∷
    line 0x04 3 4 0 1 0xffff_ffff_ffff_ffff 0x1234_5678_fedc_ba98 6 0 ∷
    line 0x04 4 5 0 0xfedc_ba98 0x1234_5678_fedc_ba98 0x1234_5678_fedc_ba98 6 0xfdb9_7530 ∷
    -- ADD32 X
    line 0x0c 5 6 0 5 0x8765_4321_89ab_cdef 0x1234_5678_fedc_ba98 6 0x8888_8887 ∷
    line 0x0c 6 7 0 5 0xffff_ffff_ffff_ffff 1 6 0 ∷
    line 0x0c 7 8 0 5 0 0xffff_ffff_ffff_ffff 6 0xffff_ffff ∷
    line 0x0c 8 9 0 5 0x8000_0000_8000_0000 0x8000_0000_8000_0001 6 1 ∷
    line 0x0c 9 10 0 5 0x1_0000_0000 0xffff_ffff 6 0xffff_ffff ∷
    line 0x0c 0 0 0 5 0x8765_4321_89ab_cdef 0x8765_4321_89ab_cdef 6 0x1357_9bde ∷
    -- SUB32 K
    line 0x14 1 3 0 0x7fff_ffff 0x8765_4321_89ab_cdef 0x1234_5678_fedc_ba98 6 0x9ab_cdf0 ∷
    line 0x14 2 4 0 0x8000_0000 0x8765_4321_89ab_cdef 0x1234_5678_fedc_ba98 6 0x9ab_cdef ∷
    line 0x14 3 5 0 0xffff_ffff 1 0x1234_5678_fedc_ba98 6 2 ∷
    line 0x14 4 6 0 1 0xffff_ffff_ffff_ffff 0x1234_5678_fedc_ba98 6 0xffff_fffe ∷
    line 0x14 5 7 0 0xfedc_ba98 0x1234_5678_fedc_ba98 0x1234_5678_fedc_ba98 6 0 ∷
    -- SUB32 X
    line 0x1c 6 8 0 5 0x8765_4321_89ab_cdef 0x1234_5678_fedc_ba98 6 0x8acf_1357 ∷
    line 0x1c 7 9 0 5 0xffff_ffff_ffff_ffff 1 6 0xffff_fffe ∷
    line 0x1c 8 10 0 5 0 0xffff_ffff_ffff_ffff 6 1 ∷
    line 0x1c 9 0 0 5 0x8000_0000_8000_0000 0x8000_0000_8000_0001 6 0xffff_ffff ∷
    line 0x1c 0 3 0 5 0x1_0000_0000 0xffff_ffff 6 1 ∷
    line 0x1c 1 1 0 5 0x8765_4321_89ab_cdef 0x8765_4321_89ab_cdef 6 0 ∷
    -- MUL32 K
    line 0x24 2 5 0 0x7fff_ffff 0x8765_4321_89ab_cdef 0x1234_5678_fedc_ba98 6 0xf654_3211 ∷
    line 0x24 3 6 0 0x8000_0000 0x8765_4321_89ab_cdef 0x1234_5678_fedc_ba98 6 0x8000_0000 ∷
    line 0x24 4 7 0 0xffff_ffff 1 0x1234_5678_fedc_ba98 6 0xffff_ffff ∷
    line 0x24 5 8 0 1 0xffff_ffff_ffff_ffff 0x1234_5678_fedc_ba98 6 0xffff_ffff ∷
    line 0x24 6 9 0 0xfedc_ba98 0x1234_5678_fedc_ba98 0x1234_5678_fedc_ba98 6 0xdd41_3a40 ∷
    -- MUL32 X
    line 0x2c 7 10 0 5 0x8765_4321_89ab_cdef 0x1234_5678_fedc_ba98 6 0xad05_ebe8 ∷
    line 0x2c 8 0 0 5 0xffff_ffff_ffff_ffff 1 6 0xffff_ffff ∷
    line 0x2c 9 1 0 5 0 0xffff_ffff_ffff_ffff 6 0 ∷
    line 0x2c 0 4 0 5 0x8000_0000_8000_0000 0x8000_0000_8000_0001 6 0x8000_0000 ∷
    line 0x2c 1 5 0 5 0x1_0000_0000 0xffff_ffff 6 0 ∷
    line 0x2c 2 2 0 5 0x8765_4321_89ab_cdef 0x8765_4321_89ab_cdef 6 0x90f2_a521 ∷
    -- DIV32 K
    line 0x34 3 7 0 3 0x8765_4321_89ab_cdef 0x1234_5678_fedc_ba98 6 0x2de3_ef4f ∷
    line 0x34 4 8 0 0 0x1_0000_0007 0x1234_5678_fedc_ba98 6 0 ∷
    line 0x34 5 9 0 0x8000_0000 0xffff_ffff_ffff_ffff 0x1234_5678_fedc_ba98 6 1 ∷
    line 0x34 6 10 0 0xffff_ffff 0xffff_ffff_ffff_ffff 0x1234_5678_fedc_ba98 6 1 ∷
    line 0x34 7 0 0 0xffff_ffff 0xffff_ffff 0x1234_5678_fedc_ba98 6 1 ∷
    line 0x34 8 1 0 0xffff_ffff 0x8000_0000_0000_0000 0x1234_5678_fedc_ba98 6 0 ∷
    -- DIV32 X
    line 0x3c 9 2 0 5 0x8765_4321_89ab_cdef 0x1234_5678_fedc_ba98 6 0 ∷
    line 0x3c 0 5 0 5 0x1234_5678_fedc_ba98 0x8765_4321_89ab_cdef 6 1 ∷
    line 0x3c 1 6 0 5 0xffff_ffff_ffff_ffff 3 6 0x5555_5555 ∷
    line 0x3c 2 7 0 5 0x1_0000_0007 0 6 0 ∷
    line 0x3c 3 8 0 5 0x1_0000_0007 0x9_0000_0000 6 0 ∷
    line 0x3c 4 9 0 5 0x8000_0000_0000_0000 0xffff_ffff_ffff_ffff 6 0 ∷
    line 0x3c 5 5 0 5 0x8765_4321_89ab_cdef 0x8765_4321_89ab_cdef 6 1 ∷
    -- OR32 K
    line 0x44 6 0 0 0x7fff_ffff 0x8765_4321_89ab_cdef 0x1234_5678_fedc_ba98 6 0xffff_ffff ∷
    line 0x44 7 1 0 0x8000_0000 0x8765_4321_89ab_cdef 0x1234_5678_fedc_ba98 6 0x89ab_cdef ∷
    line 0x44 8 2 0 0xffff_ffff 1 0x1234_5678_fedc_ba98 6 0xffff_ffff ∷
    line 0x44 9 3 0 1 0xffff_ffff_ffff_ffff 0x1234_5678_fedc_ba98 6 0xffff_ffff ∷
    line 0x44 0 6 0 0xfedc_ba98 0x1234_5678_fedc_ba98 0x1234_5678_fedc_ba98 6 0xfedc_ba98 ∷
    -- OR32 X
    line 0x4c 1 7 0 5 0x8765_4321_89ab_cdef 0x1234_5678_fedc_ba98 6 0xffff_ffff ∷
    line 0x4c 2 8 0 5 0xffff_ffff_ffff_ffff 1 6 0xffff_ffff ∷
    line 0x4c 3 9 0 5 0 0xffff_ffff_ffff_ffff 6 0xffff_ffff ∷
    line 0x4c 4 10 0 5 0x8000_0000_8000_0000 0x8000_0000_8000_0001 6 0x8000_0001 ∷
    line 0x4c 5 0 0 5 0x1_0000_0000 0xffff_ffff 6 0xffff_ffff ∷
    line 0x4c 6 6 0 5 0x8765_4321_89ab_cdef 0x8765_4321_89ab_cdef 6 0x89ab_cdef ∷
    -- AND32 K
    line 0x54 7 2 0 0x7fff_ffff 0x8765_4321_89ab_cdef 0x1234_5678_fedc_ba98 6 0x9ab_cdef ∷
    line 0x54 8 3 0 0x8000_0000 0x8765_4321_89ab_cdef 0x1234_5678_fedc_ba98 6 0x8000_0000 ∷
    line 0x54 9 4 0 0xffff_ffff 1 0x1234_5678_fedc_ba98 6 1 ∷
    line 0x54 0 7 0 1 0xffff_ffff_ffff_ffff 0x1234_5678_fedc_ba98 6 1 ∷
    line 0x54 1 8 0 0xfedc_ba98 0x1234_5678_fedc_ba98 0x1234_5678_fedc_ba98 6 0xfedc_ba98 ∷
    -- AND32 X
    line 0x5c 2 9 0 5 0x8765_4321_89ab_cdef 0x1234_5678_fedc_ba98 6 0x8888_8888 ∷
    line 0x5c 3 10 0 5 0xffff_ffff_ffff_ffff 1 6 1 ∷
    line 0x5c 4 0 0 5 0 0xffff_ffff_ffff_ffff 6 0 ∷
    line 0x5c 5 1 0 5 0x8000_0000_8000_0000 0x8000_0000_8000_0001 6 0x8000_0000 ∷
    line 0x5c 6 2 0 5 0x1_0000_0000 0xffff_ffff 6 0 ∷
    line 0x5c 7 7 0 5 0x8765_4321_89ab_cdef 0x8765_4321_89ab_cdef 6 0x89ab_cdef ∷
    -- LSH32 K
    line 0x64 8 4 0 4 0x8765_4321_89ab_cdef 0x1234_5678_fedc_ba98 6 0x9abc_def0 ∷
    line 0x64 9 5 0 31 0x1234_5678_fedc_ba98 0x1234_5678_fedc_ba98 6 0 ∷
    line 0x64 0 8 0 32 0xfedc_ba98_1234_5678 0x1234_5678_fedc_ba98 6 0x1234_5678 ∷
    line 0x64 1 9 0 7 0xfedc_ba98_1234_5678 0x1234_5678_fedc_ba98 6 0x1a2b_3c00 ∷
    line 0x64 2 10 0 65 0x1234_5678_fedc_ba98 0x1234_5678_fedc_ba98 6 0xfdb9_7530 ∷
    line 0x64 3 0 0 0xffff_ffff 0x8765_4321_89ab_cdef 0x1234_5678_fedc_ba98 6 0x8000_0000 ∷
    -- LSH32 X
    line 0x6c 4 1 0 5 0x8765_4321_89ab_cdef 4 6 0x9abc_def0 ∷
    line 0x6c 5 2 0 5 0x1234_5678_fedc_ba98 31 6 0 ∷
    line 0x6c 6 3 0 5 0xfedc_ba98_1234_5678 32 6 0x1234_5678 ∷
    line 0x6c 7 4 0 5 0xfedc_ba98_1234_5678 7 6 0x1a2b_3c00 ∷
    line 0x6c 8 5 0 5 0x8765_4321_89ab_cdef 64 6 0x89ab_cdef ∷
    line 0x6c 9 6 0 5 0x1234_5678_fedc_ba98 0x1_0000_0021 6 0xfdb9_7530 ∷
    line 0x6c 0 9 0 5 0x8765_4321_89ab_cdef 0xffff_ffff_ffff_ffff 6 0x8000_0000 ∷
    line 0x6c 1 1 0 5 0x8765_4321_89ab_cdef 0x8765_4321_89ab_cdef 6 0xe6f7_8000 ∷
    -- RSH32 K
    line 0x74 2 0 0 4 0x8765_4321_89ab_cdef 0x1234_5678_fedc_ba98 6 0x89a_bcde ∷
    line 0x74 3 1 0 31 0x1234_5678_fedc_ba98 0x1234_5678_fedc_ba98 6 1 ∷
    line 0x74 4 2 0 32 0xfedc_ba98_1234_5678 0x1234_5678_fedc_ba98 6 0x1234_5678 ∷
    line 0x74 5 3 0 7 0xfedc_ba98_1234_5678 0x1234_5678_fedc_ba98 6 0x24_68ac ∷
    line 0x74 6 4 0 65 0x1234_5678_fedc_ba98 0x1234_5678_fedc_ba98 6 0x7f6e_5d4c ∷
    line 0x74 7 5 0 0xffff_ffff 0x8765_4321_89ab_cdef 0x1234_5678_fedc_ba98 6 1 ∷
    -- RSH32 X
    line 0x7c 8 6 0 5 0x8765_4321_89ab_cdef 4 6 0x89a_bcde ∷
    line 0x7c 9 7 0 5 0x1234_5678_fedc_ba98 31 6 1 ∷
    line 0x7c 0 10 0 5 0xfedc_ba98_1234_5678 32 6 0x1234_5678 ∷
    line 0x7c 1 0 0 5 0xfedc_ba98_1234_5678 7 6 0x24_68ac ∷
    line 0x7c 2 1 0 5 0x8765_4321_89ab_cdef 64 6 0x89ab_cdef ∷
    line 0x7c 3 2 0 5 0x1234_5678_fedc_ba98 0x1_0000_0021 6 0x7f6e_5d4c ∷
    line 0x7c 4 3 0 5 0x8765_4321_89ab_cdef 0xffff_ffff_ffff_ffff 6 1 ∷
    line 0x7c 5 5 0 5 0x8765_4321_89ab_cdef 0x8765_4321_89ab_cdef 6 0x1_1357 ∷
    -- NEG32
    line 0x84 6 5 0 5 0 0x1234_5678_fedc_ba98 6 0 ∷
    line 0x84 7 6 0 5 1 0x1234_5678_fedc_ba98 6 0xffff_ffff ∷
    line 0x84 8 7 0 5 0xffff_ffff_ffff_ffff 0x1234_5678_fedc_ba98 6 1 ∷
    line 0x84 9 8 0 5 0x8000_0000 0x1234_5678_fedc_ba98 6 0x8000_0000 ∷
    line 0x84 0 1 0 5 0x8000_0000_0000_0000 0x1234_5678_fedc_ba98 6 0 ∷
    line 0x84 1 2 0 5 0x8765_4321_89ab_cdef 0x1234_5678_fedc_ba98 6 0x7654_3211 ∷
    -- MOD32 K
    line 0x94 2 3 0 3 0x8765_4321_89ab_cdef 0x1234_5678_fedc_ba98 6 2 ∷
    line 0x94 3 4 0 0 0x1_0000_0007 0x1234_5678_fedc_ba98 6 7 ∷
    line 0x94 4 5 0 0x8000_0000 0xffff_ffff_ffff_ffff 0x1234_5678_fedc_ba98 6 0x7fff_ffff ∷
    line 0x94 5 6 0 0xffff_ffff 0xffff_ffff_ffff_ffff 0x1234_5678_fedc_ba98 6 0 ∷
    line 0x94 6 7 0 0xffff_ffff 0xffff_ffff 0x1234_5678_fedc_ba98 6 0 ∷
    line 0x94 7 8 0 0xffff_ffff 0x8000_0000_0000_0000 0x1234_5678_fedc_ba98 6 0 ∷
    -- MOD32 X
    line 0x9c 8 9 0 5 0x8765_4321_89ab_cdef 0x1234_5678_fedc_ba98 6 0x89ab_cdef ∷
    line 0x9c 9 10 0 5 0x1234_5678_fedc_ba98 0x8765_4321_89ab_cdef 6 0x7530_eca9 ∷
    line 0x9c 0 2 0 5 0xffff_ffff_ffff_ffff 3 6 0 ∷
    line 0x9c 1 3 0 5 0x1_0000_0007 0 6 7 ∷
    line 0x9c 2 4 0 5 0x1_0000_0007 0x9_0000_0000 6 7 ∷
    line 0x9c 3 5 0 5 0x8000_0000_0000_0000 0xffff_ffff_ffff_ffff 6 0 ∷
    line 0x9c 4 4 0 5 0x8765_4321_89ab_cdef 0x8765_4321_89ab_cdef 6 0 ∷
    -- XOR32 K
    line 0xa4 5 7 0 0x7fff_ffff 0x8765_4321_89ab_cdef 0x1234_5678_fedc_ba98 6 0xf654_3210 ∷
    line 0xa4 6 8 0 0x8000_0000 0x8765_4321_89ab_cdef 0x1234_5678_fedc_ba98 6 0x9ab_cdef ∷
    line 0xa4 7 9 0 0xffff_ffff 1 0x1234_5678_fedc_ba98 6 0xffff_fffe ∷
    line 0xa4 8 10 0 1 0xffff_ffff_ffff_ffff 0x1234_5678_fedc_ba98 6 0xffff_fffe ∷
    line 0xa4 9 0 0 0xfedc_ba98 0x1234_5678_fedc_ba98 0x1234_5678_fedc_ba98 6 0 ∷
    -- XOR32 X
    line 0xac 0 3 0 5 0x8765_4321_89ab_cdef 0x1234_5678_fedc_ba98 6 0x7777_7777 ∷
    line 0xac 1 4 0 5 0xffff_ffff_ffff_ffff 1 6 0xffff_fffe ∷
    line 0xac 2 5 0 5 0 0xffff_ffff_ffff_ffff 6 0xffff_ffff ∷
    line 0xac 3 6 0 5 0x8000_0000_8000_0000 0x8000_0000_8000_0001 6 1 ∷
    line 0xac 4 7 0 5 0x1_0000_0000 0xffff_ffff 6 0xffff_ffff ∷
    line 0xac 5 5 0 5 0x8765_4321_89ab_cdef 0x8765_4321_89ab_cdef 6 0 ∷
    -- MOV32 K
    line 0xb4 6 9 0 0x7fff_ffff 0x8765_4321_89ab_cdef 0x1234_5678_fedc_ba98 6 0x7fff_ffff ∷
    line 0xb4 7 10 0 0x8000_0000 0x8765_4321_89ab_cdef 0x1234_5678_fedc_ba98 6 0x8000_0000 ∷
    line 0xb4 8 0 0 0xffff_ffff 1 0x1234_5678_fedc_ba98 6 0xffff_ffff ∷
    line 0xb4 9 1 0 1 0xffff_ffff_ffff_ffff 0x1234_5678_fedc_ba98 6 1 ∷
    line 0xb4 0 4 0 0xfedc_ba98 0x1234_5678_fedc_ba98 0x1234_5678_fedc_ba98 6 0xfedc_ba98 ∷
    -- MOV32 X
    line 0xbc 1 5 0 5 0x8765_4321_89ab_cdef 0x1234_5678_fedc_ba98 6 0xfedc_ba98 ∷
    line 0xbc 2 6 0 5 0xffff_ffff_ffff_ffff 1 6 1 ∷
    line 0xbc 3 7 0 5 0 0xffff_ffff_ffff_ffff 6 0xffff_ffff ∷
    line 0xbc 4 8 0 5 0x8000_0000_8000_0000 0x8000_0000_8000_0001 6 0x8000_0001 ∷
    line 0xbc 5 9 0 5 0x1_0000_0000 0xffff_ffff 6 0xffff_ffff ∷
    line 0xbc 6 6 0 5 0x8765_4321_89ab_cdef 0x8765_4321_89ab_cdef 6 0x89ab_cdef ∷
    -- ARSH32 K
    line 0xc4 7 0 0 4 0x8765_4321_89ab_cdef 0x1234_5678_fedc_ba98 6 0xf89a_bcde ∷
    line 0xc4 8 1 0 31 0x1234_5678_fedc_ba98 0x1234_5678_fedc_ba98 6 0xffff_ffff ∷
    line 0xc4 9 2 0 32 0xfedc_ba98_1234_5678 0x1234_5678_fedc_ba98 6 0x1234_5678 ∷
    line 0xc4 0 5 0 7 0xfedc_ba98_1234_5678 0x1234_5678_fedc_ba98 6 0x24_68ac ∷
    line 0xc4 1 6 0 65 0x1234_5678_fedc_ba98 0x1234_5678_fedc_ba98 6 0xff6e_5d4c ∷
    line 0xc4 2 7 0 0xffff_ffff 0x8765_4321_89ab_cdef 0x1234_5678_fedc_ba98 6 0xffff_ffff ∷
    -- ARSH32 X
    line 0xcc 3 8 0 5 0x8765_4321_89ab_cdef 4 6 0xf89a_bcde ∷
    line 0xcc 4 9 0 5 0x1234_5678_fedc_ba98 31 6 0xffff_ffff ∷
    line 0xcc 5 10 0 5 0xfedc_ba98_1234_5678 32 6 0x1234_5678 ∷
    line 0xcc 6 0 0 5 0xfedc_ba98_1234_5678 7 6 0x24_68ac ∷
    line 0xcc 7 1 0 5 0x8765_4321_89ab_cdef 64 6 0x89ab_cdef ∷
    line 0xcc 8 2 0 5 0x1234_5678_fedc_ba98 0x1_0000_0021 6 0xff6e_5d4c ∷
    line 0xcc 9 3 0 5 0x8765_4321_89ab_cdef 0xffff_ffff_ffff_ffff 6 0xffff_ffff ∷
    line 0xcc 0 0 0 5 0x8765_4321_89ab_cdef 0x8765_4321_89ab_cdef 6 0xffff_1357 ∷
    -- ADD64 K
    line 0x07 1 7 0 0x7fff_ffff 0x8765_4321_89ab_cdef 0x1234_5678_fedc_ba98 6 0x8765_4322_09ab_cdee ∷
    line 0x07 2 8 0 0x8000_0000 0x8765_4321_89ab_cdef 0x1234_5678_fedc_ba98 6 0x8765_4321_09ab_cdef ∷
    line 0x07 3 9 0 0xffff_ffff 1 0x1234_5678_fedc_ba98 6 0 ∷
    line 0x07 4 10 0 1 0xffff_ffff_ffff_ffff 0x1234_5678_fedc_ba98 6 0 ∷
    line 0x07 5 0 0 0xfedc_ba98 0x1234_5678_fedc_ba98 0x1234_5678_fedc_ba98 6 0x1234_5678_fdb9_7530 ∷
    -- ADD64 X
    line 0x0f 6 1 0 5 0x8765_4321_89ab_cdef 0x1234_5678_fedc_ba98 6 0x9999_999a_8888_8887 ∷
    line 0x0f 7 2 0 5 0xffff_ffff_ffff_ffff 1 6 0 ∷
    line 0x0f 8 3 0 5 0 0xffff_ffff_ffff_ffff 6 0xffff_ffff_ffff_ffff ∷
    line 0x0f 9 4 0 5 0x8000_0000_8000_0000 0x8000_0000_8000_0001 6 0x1_0000_0001 ∷
    line 0x0f 0 7 0 5 0x1_0000_0000 0xffff_ffff 6 0x1_ffff_ffff ∷
    line 0x0f 1 1 0 5 0x8765_4321_89ab_cdef 0x8765_4321_89ab_cdef 6 0xeca_8643_1357_9bde ∷
    -- SUB64 K
    line 0x17 2 9 0 0x7fff_ffff 0x8765_4321_89ab_cdef 0x1234_5678_fedc_ba98 6 0x8765_4321_09ab_cdf0 ∷
    line 0x17 3 10 0 0x8000_0000 0x8765_4321_89ab_cdef 0x1234_5678_fedc_ba98 6 0x8765_4322_09ab_cdef ∷
    line 0x17 4 0 0 0xffff_ffff 1 0x1234_5678_fedc_ba98 6 2 ∷
    line 0x17 5 1 0 1 0xffff_ffff_ffff_ffff 0x1234_5678_fedc_ba98 6 0xffff_ffff_ffff_fffe ∷
    line 0x17 6 2 0 0xfedc_ba98 0x1234_5678_fedc_ba98 0x1234_5678_fedc_ba98 6 0x1234_5679_0000_0000 ∷
    -- SUB64 X
    line 0x1f 7 3 0 5 0x8765_4321_89ab_cdef 0x1234_5678_fedc_ba98 6 0x7530_eca8_8acf_1357 ∷
    line 0x1f 8 4 0 5 0xffff_ffff_ffff_ffff 1 6 0xffff_ffff_ffff_fffe ∷
    line 0x1f 9 5 0 5 0 0xffff_ffff_ffff_ffff 6 1 ∷
    line 0x1f 0 8 0 5 0x8000_0000_8000_0000 0x8000_0000_8000_0001 6 0xffff_ffff_ffff_ffff ∷
    line 0x1f 1 9 0 5 0x1_0000_0000 0xffff_ffff 6 1 ∷
    line 0x1f 2 2 0 5 0x8765_4321_89ab_cdef 0x8765_4321_89ab_cdef 6 0 ∷
    -- MUL64 K
    line 0x27 3 0 0 0x7fff_ffff 0x8765_4321_89ab_cdef 0x1234_5678_fedc_ba98 6 0x3d70_a3d5_f654_3211 ∷
    line 0x27 4 1 0 0x8000_0000 0x8765_4321_89ab_cdef 0x1234_5678_fedc_ba98 6 0x3b2a_1908_8000_0000 ∷
    line 0x27 5 2 0 0xffff_ffff 1 0x1234_5678_fedc_ba98 6 0xffff_ffff_ffff_ffff ∷
    line 0x27 6 3 0 1 0xffff_ffff_ffff_ffff 0x1234_5678_fedc_ba98 6 0xffff_ffff_ffff_ffff ∷
    line 0x27 7 4 0 0xfedc_ba98 0x1234_5678_fedc_ba98 0x1234_5678_fedc_ba98 6 0x33e4_8d3e_dd41_3a40 ∷
    -- MUL64 X
    line 0x2f 8 5 0 5 0x8765_4321_89ab_cdef 0x1234_5678_fedc_ba98 6 0xd093_d1f0_ad05_ebe8 ∷
    line 0x2f 9 6 0 5 0xffff_ffff_ffff_ffff 1 6 0xffff_ffff_ffff_ffff ∷
    line 0x2f 0 9 0 5 0 0xffff_ffff_ffff_ffff 6 0 ∷
    line 0x2f 1 10 0 5 0x8000_0000_8000_0000 0x8000_0000_8000_0001 6 0xc000_0000_8000_0000 ∷
    line 0x2f 2 0 0 5 0x1_0000_0000 0xffff_ffff 6 0xffff_ffff_0000_0000 ∷
    line 0x2f 3 3 0 5 0x8765_4321_89ab_cdef 0x8765_4321_89ab_cdef 6 0x46b5_8754_90f2_a521 ∷
    -- DIV64 K
    line 0x37 4 2 0 3 0x8765_4321_89ab_cdef 0x1234_5678_fedc_ba98 6 0x2d21_c10b_2de3_ef4f ∷
    line 0x37 5 3 0 0 0x1_0000_0007 0x1234_5678_fedc_ba98 6 0 ∷
    line 0x37 6 4 0 0x8000_0000 0xffff_ffff_ffff_ffff 0x1234_5678_fedc_ba98 6 1 ∷
    line 0x37 7 5 0 0xffff_ffff 0xffff_ffff_ffff_ffff 0x1234_5678_fedc_ba98 6 1 ∷
    line 0x37 8 6 0 0xffff_ffff 0xffff_ffff 0x1234_5678_fedc_ba98 6 0 ∷
    line 0x37 9 7 0 0xffff_ffff 0x8000_0000_0000_0000 0x1234_5678_fedc_ba98 6 0 ∷
    -- DIV64 X
    line 0x3f 0 10 0 5 0x8765_4321_89ab_cdef 0x1234_5678_fedc_ba98 6 7 ∷
    line 0x3f 1 0 0 5 0x1234_5678_fedc_ba98 0x8765_4321_89ab_cdef 6 0 ∷
    line 0x3f 2 1 0 5 0xffff_ffff_ffff_ffff 3 6 0x5555_5555_5555_5555 ∷
    line 0x3f 3 2 0 5 0x1_0000_0007 0 6 0 ∷
    line 0x3f 4 3 0 5 0x1_0000_0007 0x9_0000_0000 6 0 ∷
    line 0x3f 5 4 0 5 0x8000_0000_0000_0000 0xffff_ffff_ffff_ffff 6 0 ∷
    line 0x3f 6 6 0 5 0x8765_4321_89ab_cdef 0x8765_4321_89ab_cdef 6 1 ∷
    -- OR64 K
    line 0x47 7 6 0 0x7fff_ffff 0x8765_4321_89ab_cdef 0x1234_5678_fedc_ba98 6 0x8765_4321_ffff_ffff ∷
    line 0x47 8 7 0 0x8000_0000 0x8765_4321_89ab_cdef 0x1234_5678_fedc_ba98 6 0xffff_ffff_89ab_cdef ∷
    line 0x47 9 8 0 0xffff_ffff 1 0x1234_5678_fedc_ba98 6 0xffff_ffff_ffff_ffff ∷
    line 0x47 0 1 0 1 0xffff_ffff_ffff_ffff 0x1234_5678_fedc_ba98 6 0xffff_ffff_ffff_ffff ∷
    line 0x47 1 2 0 0xfedc_ba98 0x1234_5678_fedc_ba98 0x1234_5678_fedc_ba98 6 0xffff_ffff_fedc_ba98 ∷
    -- OR64 X
    line 0x4f 2 3 0 5 0x8765_4321_89ab_cdef 0x1234_5678_fedc_ba98 6 0x9775_5779_ffff_ffff ∷
    line 0x4f 3 4 0 5 0xffff_ffff_ffff_ffff 1 6 0xffff_ffff_ffff_ffff ∷
    line 0x4f 4 5 0 5 0 0xffff_ffff_ffff_ffff 6 0xffff_ffff_ffff_ffff ∷
    line 0x4f 5 6 0 5 0x8000_0000_8000_0000 0x8000_0000_8000_0001 6 0x8000_0000_8000_0001 ∷
    line 0x4f 6 7 0 5 0x1_0000_0000 0xffff_ffff 6 0x1_ffff_ffff ∷
    line 0x4f 7 7 0 5 0x8765_4321_89ab_cdef 0x8765_4321_89ab_cdef 6 0x8765_4321_89ab_cdef ∷
    -- AND64 K
    line 0x57 8 9 0 0x7fff_ffff 0x8765_4321_89ab_cdef 0x1234_5678_fedc_ba98 6 0x9ab_cdef ∷
    line 0x57 9 10 0 0x8000_0000 0x8765_4321_89ab_cdef 0x1234_5678_fedc_ba98 6 0x8765_4321_8000_0000 ∷
    line 0x57 0 2 0 0xffff_ffff 1 0x1234_5678_fedc_ba98 6 1 ∷
    line 0x57 1 3 0 1 0xffff_ffff_ffff_ffff 0x1234_5678_fedc_ba98 6 1 ∷
    line 0x57 2 4 0 0xfedc_ba98 0x1234_5678_fedc_ba98 0x1234_5678_fedc_ba98 6 0x1234_5678_fedc_ba98 ∷
    -- AND64 X
    line 0x5f 3 5 0 5 0x8765_4321_89ab_cdef 0x1234_5678_fedc_ba98 6 0x224_4220_8888_8888 ∷
    line 0x5f 4 6 0 5 0xffff_ffff_ffff_ffff 1 6 1 ∷
    line 0x5f 5 7 0 5 0 0xffff_ffff_ffff_ffff 6 0 ∷
    line 0x5f 6 8 0 5 0x8000_0000_8000_0000 0x8000_0000_8000_0001 6 0x8000_0000_8000_0000 ∷
    line 0x5f 7 9 0 5 0x1_0000_0000 0xffff_ffff 6 0 ∷
    line 0x5f 8 8 0 5 0x8765_4321_89ab_cdef 0x8765_4321_89ab_cdef 6 0x8765_4321_89ab_cdef ∷
    -- LSH64 K
    line 0x67 9 0 0 4 0x8765_4321_89ab_cdef 0x1234_5678_fedc_ba98 6 0x7654_3218_9abc_def0 ∷
    line 0x67 0 3 0 31 0x1234_5678_fedc_ba98 0x1234_5678_fedc_ba98 6 0x7f6e_5d4c_0000_0000 ∷
    line 0x67 1 4 0 32 0xfedc_ba98_1234_5678 0x1234_5678_fedc_ba98 6 0x1234_5678_0000_0000 ∷
    line 0x67 2 5 0 7 0xfedc_ba98_1234_5678 0x1234_5678_fedc_ba98 6 0x6e5d_4c09_1a2b_3c00 ∷
    line 0x67 3 6 0 65 0x1234_5678_fedc_ba98 0x1234_5678_fedc_ba98 6 0x2468_acf1_fdb9_7530 ∷
    line 0x67 4 7 0 0xffff_ffff 0x8765_4321_89ab_cdef 0x1234_5678_fedc_ba98 6 0x8000_0000_0000_0000 ∷
    -- LSH64 X
    line 0x6f 5 8 0 5 0x8765_4321_89ab_cdef 4 6 0x7654_3218_9abc_def0 ∷
    line 0x6f 6 9 0 5 0x1234_5678_fedc_ba98 31 6 0x7f6e_5d4c_0000_0000 ∷
    line 0x6f 7 10 0 5 0xfedc_ba98_1234_5678 32 6 0x1234_5678_0000_0000 ∷
    line 0x6f 8 0 0 5 0xfedc_ba98_1234_5678 7 6 0x6e5d_4c09_1a2b_3c00 ∷
    line 0x6f 9 1 0 5 0x8765_4321_89ab_cdef 64 6 0x8765_4321_89ab_cdef ∷
    line 0x6f 0 4 0 5 0x1234_5678_fedc_ba98 0x1_0000_0021 6 0xfdb9_7530_0000_0000 ∷
    line 0x6f 1 5 0 5 0x8765_4321_89ab_cdef 0xffff_ffff_ffff_ffff 6 0x8000_0000_0000_0000 ∷
    line 0x6f 2 2 0 5 0x8765_4321_89ab_cdef 0x8765_4321_89ab_cdef 6 0xe6f7_8000_0000_0000 ∷
    -- RSH64 K
    line 0x77 3 7 0 4 0x8765_4321_89ab_cdef 0x1234_5678_fedc_ba98 6 0x876_5432_189a_bcde ∷
    line 0x77 4 8 0 31 0x1234_5678_fedc_ba98 0x1234_5678_fedc_ba98 6 0x2468_acf1 ∷
    line 0x77 5 9 0 32 0xfedc_ba98_1234_5678 0x1234_5678_fedc_ba98 6 0xfedc_ba98 ∷
    line 0x77 6 10 0 7 0xfedc_ba98_1234_5678 0x1234_5678_fedc_ba98 6 0x1fd_b975_3024_68ac ∷
    line 0x77 7 0 0 65 0x1234_5678_fedc_ba98 0x1234_5678_fedc_ba98 6 0x91a_2b3c_7f6e_5d4c ∷
    line 0x77 8 1 0 0xffff_ffff 0x8765_4321_89ab_cdef 0x1234_5678_fedc_ba98 6 1 ∷
    -- RSH64 X
    line 0x7f 9 2 0 5 0x8765_4321_89ab_cdef 4 6 0x876_5432_189a_bcde ∷
    line 0x7f 0 5 0 5 0x1234_5678_fedc_ba98 31 6 0x2468_acf1 ∷
    line 0x7f 1 6 0 5 0xfedc_ba98_1234_5678 32 6 0xfedc_ba98 ∷
    line 0x7f 2 7 0 5 0xfedc_ba98_1234_5678 7 6 0x1fd_b975_3024_68ac ∷
    line 0x7f 3 8 0 5 0x8765_4321_89ab_cdef 64 6 0x8765_4321_89ab_cdef ∷
    line 0x7f 4 9 0 5 0x1234_5678_fedc_ba98 0x1_0000_0021 6 0x91a_2b3c ∷
    line 0x7f 5 10 0 5 0x8765_4321_89ab_cdef 0xffff_ffff_ffff_ffff 6 1 ∷
    line 0x7f 6 6 0 5 0x8765_4321_89ab_cdef 0x8765_4321_89ab_cdef 6 0x1_0eca ∷
    -- NEG64
    line 0x87 7 1 0 5 0 0x1234_5678_fedc_ba98 6 0 ∷
    line 0x87 8 2 0 5 1 0x1234_5678_fedc_ba98 6 0xffff_ffff_ffff_ffff ∷
    line 0x87 9 3 0 5 0xffff_ffff_ffff_ffff 0x1234_5678_fedc_ba98 6 1 ∷
    line 0x87 0 6 0 5 0x8000_0000 0x1234_5678_fedc_ba98 6 0xffff_ffff_8000_0000 ∷
    line 0x87 1 7 0 5 0x8000_0000_0000_0000 0x1234_5678_fedc_ba98 6 0x8000_0000_0000_0000 ∷
    line 0x87 2 8 0 5 0x8765_4321_89ab_cdef 0x1234_5678_fedc_ba98 6 0x789a_bcde_7654_3211 ∷
    -- MOD64 K
    line 0x97 3 9 0 3 0x8765_4321_89ab_cdef 0x1234_5678_fedc_ba98 6 2 ∷
    line 0x97 4 10 0 0 0x1_0000_0007 0x1234_5678_fedc_ba98 6 0x1_0000_0007 ∷
    line 0x97 5 0 0 0x8000_0000 0xffff_ffff_ffff_ffff 0x1234_5678_fedc_ba98 6 0x7fff_ffff ∷
    line 0x97 6 1 0 0xffff_ffff 0xffff_ffff_ffff_ffff 0x1234_5678_fedc_ba98 6 0 ∷
    line 0x97 7 2 0 0xffff_ffff 0xffff_ffff 0x1234_5678_fedc_ba98 6 0xffff_ffff ∷
    line 0x97 8 3 0 0xffff_ffff 0x8000_0000_0000_0000 0x1234_5678_fedc_ba98 6 0x8000_0000_0000_0000 ∷
    -- MOD64 X
    line 0x9f 9 4 0 5 0x8765_4321_89ab_cdef 0x1234_5678_fedc_ba98 6 0x7f6_e5d2_91a2_b3c7 ∷
    line 0x9f 0 7 0 5 0x1234_5678_fedc_ba98 0x8765_4321_89ab_cdef 6 0x1234_5678_fedc_ba98 ∷
    line 0x9f 1 8 0 5 0xffff_ffff_ffff_ffff 3 6 0 ∷
    line 0x9f 2 9 0 5 0x1_0000_0007 0 6 0x1_0000_0007 ∷
    line 0x9f 3 10 0 5 0x1_0000_0007 0x9_0000_0000 6 0x1_0000_0007 ∷
    line 0x9f 4 0 0 5 0x8000_0000_0000_0000 0xffff_ffff_ffff_ffff 6 0x8000_0000_0000_0000 ∷
    line 0x9f 5 5 0 5 0x8765_4321_89ab_cdef 0x8765_4321_89ab_cdef 6 0 ∷
    -- XOR64 K
    line 0xa7 6 2 0 0x7fff_ffff 0x8765_4321_89ab_cdef 0x1234_5678_fedc_ba98 6 0x8765_4321_f654_3210 ∷
    line 0xa7 7 3 0 0x8000_0000 0x8765_4321_89ab_cdef 0x1234_5678_fedc_ba98 6 0x789a_bcde_09ab_cdef ∷
    line 0xa7 8 4 0 0xffff_ffff 1 0x1234_5678_fedc_ba98 6 0xffff_ffff_ffff_fffe ∷
    line 0xa7 9 5 0 1 0xffff_ffff_ffff_ffff 0x1234_5678_fedc_ba98 6 0xffff_ffff_ffff_fffe ∷
    line 0xa7 0 8 0 0xfedc_ba98 0x1234_5678_fedc_ba98 0x1234_5678_fedc_ba98 6 0xedcb_a987_0000_0000 ∷
    -- XOR64 X
    line 0xaf 1 9 0 5 0x8765_4321_89ab_cdef 0x1234_5678_fedc_ba98 6 0x9551_1559_7777_7777 ∷
    line 0xaf 2 10 0 5 0xffff_ffff_ffff_ffff 1 6 0xffff_ffff_ffff_fffe ∷
    line 0xaf 3 0 0 5 0 0xffff_ffff_ffff_ffff 6 0xffff_ffff_ffff_ffff ∷
    line 0xaf 4 1 0 5 0x8000_0000_8000_0000 0x8000_0000_8000_0001 6 1 ∷
    line 0xaf 5 2 0 5 0x1_0000_0000 0xffff_ffff 6 0x1_ffff_ffff ∷
    line 0xaf 6 6 0 5 0x8765_4321_89ab_cdef 0x8765_4321_89ab_cdef 6 0 ∷
    -- MOV64 K
    line 0xb7 7 4 0 0x7fff_ffff 0x8765_4321_89ab_cdef 0x1234_5678_fedc_ba98 6 0x7fff_ffff ∷
    line 0xb7 8 5 0 0x8000_0000 0x8765_4321_89ab_cdef 0x1234_5678_fedc_ba98 6 0xffff_ffff_8000_0000 ∷
    line 0xb7 9 6 0 0xffff_ffff 1 0x1234_5678_fedc_ba98 6 0xffff_ffff_ffff_ffff ∷
    line 0xb7 0 9 0 1 0xffff_ffff_ffff_ffff 0x1234_5678_fedc_ba98 6 1 ∷
    line 0xb7 1 10 0 0xfedc_ba98 0x1234_5678_fedc_ba98 0x1234_5678_fedc_ba98 6 0xffff_ffff_fedc_ba98 ∷
    -- MOV64 X
    line 0xbf 2 0 0 5 0x8765_4321_89ab_cdef 0x1234_5678_fedc_ba98 6 0x1234_5678_fedc_ba98 ∷
    line 0xbf 3 1 0 5 0xffff_ffff_ffff_ffff 1 6 1 ∷
    line 0xbf 4 2 0 5 0 0xffff_ffff_ffff_ffff 6 0xffff_ffff_ffff_ffff ∷
    line 0xbf 5 3 0 5 0x8000_0000_8000_0000 0x8000_0000_8000_0001 6 0x8000_0000_8000_0001 ∷
    line 0xbf 6 4 0 5 0x1_0000_0000 0xffff_ffff 6 0xffff_ffff ∷
    line 0xbf 7 7 0 5 0x8765_4321_89ab_cdef 0x8765_4321_89ab_cdef 6 0x8765_4321_89ab_cdef ∷
    -- ARSH64 K
    line 0xc7 8 6 0 4 0x8765_4321_89ab_cdef 0x1234_5678_fedc_ba98 6 0xf876_5432_189a_bcde ∷
    line 0xc7 9 7 0 31 0x1234_5678_fedc_ba98 0x1234_5678_fedc_ba98 6 0x2468_acf1 ∷
    line 0xc7 0 10 0 32 0xfedc_ba98_1234_5678 0x1234_5678_fedc_ba98 6 0xffff_ffff_fedc_ba98 ∷
    line 0xc7 1 0 0 7 0xfedc_ba98_1234_5678 0x1234_5678_fedc_ba98 6 0xfffd_b975_3024_68ac ∷
    line 0xc7 2 1 0 65 0x1234_5678_fedc_ba98 0x1234_5678_fedc_ba98 6 0x91a_2b3c_7f6e_5d4c ∷
    line 0xc7 3 2 0 0xffff_ffff 0x8765_4321_89ab_cdef 0x1234_5678_fedc_ba98 6 0xffff_ffff_ffff_ffff ∷
    -- ARSH64 X
    line 0xcf 4 3 0 5 0x8765_4321_89ab_cdef 4 6 0xf876_5432_189a_bcde ∷
    line 0xcf 5 4 0 5 0x1234_5678_fedc_ba98 31 6 0x2468_acf1 ∷
    line 0xcf 6 5 0 5 0xfedc_ba98_1234_5678 32 6 0xffff_ffff_fedc_ba98 ∷
    line 0xcf 7 6 0 5 0xfedc_ba98_1234_5678 7 6 0xfffd_b975_3024_68ac ∷
    line 0xcf 8 7 0 5 0x8765_4321_89ab_cdef 64 6 0x8765_4321_89ab_cdef ∷
    line 0xcf 9 8 0 5 0x1234_5678_fedc_ba98 0x1_0000_0021 6 0x91a_2b3c ∷
    line 0xcf 0 1 0 5 0x8765_4321_89ab_cdef 0xffff_ffff_ffff_ffff 6 0xffff_ffff_ffff_ffff ∷
    line 0xcf 1 1 0 5 0x8765_4321_89ab_cdef 0x8765_4321_89ab_cdef 6 0xffff_ffff_ffff_0eca ∷
    -- LE 16
    line 0xd4 2 3 0 16 0x102_0304_0506_0708 0x1234_5678_fedc_ba98 6 0x708 ∷
    line 0xd4 3 4 0 16 0x8765_4321_89ab_cdef 0x1234_5678_fedc_ba98 6 0xcdef ∷
    line 0xd4 4 5 0 16 128 0x1234_5678_fedc_ba98 6 128 ∷
    line 0xd4 5 6 0 16 0x8000_0000_0000_0000 0x1234_5678_fedc_ba98 6 0 ∷
    -- LE 32
    line 0xd4 6 7 0 32 0x102_0304_0506_0708 0x1234_5678_fedc_ba98 6 0x506_0708 ∷
    line 0xd4 7 8 0 32 0x8765_4321_89ab_cdef 0x1234_5678_fedc_ba98 6 0x89ab_cdef ∷
    line 0xd4 8 9 0 32 128 0x1234_5678_fedc_ba98 6 128 ∷
    line 0xd4 9 10 0 32 0x8000_0000_0000_0000 0x1234_5678_fedc_ba98 6 0 ∷
    -- LE 64
    line 0xd4 0 2 0 64 0x102_0304_0506_0708 0x1234_5678_fedc_ba98 6 0x102_0304_0506_0708 ∷
    line 0xd4 1 3 0 64 0x8765_4321_89ab_cdef 0x1234_5678_fedc_ba98 6 0x8765_4321_89ab_cdef ∷
    line 0xd4 2 4 0 64 128 0x1234_5678_fedc_ba98 6 128 ∷
    line 0xd4 3 5 0 64 0x8000_0000_0000_0000 0x1234_5678_fedc_ba98 6 0x8000_0000_0000_0000 ∷
    -- BE 16
    line 0xdc 4 6 0 16 0x102_0304_0506_0708 0x1234_5678_fedc_ba98 6 0x807 ∷
    line 0xdc 5 7 0 16 0x8765_4321_89ab_cdef 0x1234_5678_fedc_ba98 6 0xefcd ∷
    line 0xdc 6 8 0 16 128 0x1234_5678_fedc_ba98 6 0x8000 ∷
    line 0xdc 7 9 0 16 0x8000_0000_0000_0000 0x1234_5678_fedc_ba98 6 0 ∷
    -- BE 32
    line 0xdc 8 10 0 32 0x102_0304_0506_0708 0x1234_5678_fedc_ba98 6 0x807_0605 ∷
    line 0xdc 9 0 0 32 0x8765_4321_89ab_cdef 0x1234_5678_fedc_ba98 6 0xefcd_ab89 ∷
    line 0xdc 0 3 0 32 128 0x1234_5678_fedc_ba98 6 0x8000_0000 ∷
    line 0xdc 1 4 0 32 0x8000_0000_0000_0000 0x1234_5678_fedc_ba98 6 0 ∷
    -- BE 64
    line 0xdc 2 5 0 64 0x102_0304_0506_0708 0x1234_5678_fedc_ba98 6 0x807_0605_0403_0201 ∷
    line 0xdc 3 6 0 64 0x8765_4321_89ab_cdef 0x1234_5678_fedc_ba98 6 0xefcd_ab89_2143_6587 ∷
    line 0xdc 4 7 0 64 128 0x1234_5678_fedc_ba98 6 0x8000_0000_0000_0000 ∷
    line 0xdc 5 8 0 64 0x8000_0000_0000_0000 0x1234_5678_fedc_ba98 6 128 ∷
    -- JA
    line 0x05 6 9 3 5 5 0x1234_5678_fedc_ba98 9 5 ∷
    line 0x05 7 10 0xffff_fffc 5 0x1234_5678_fedc_ba98 0x1234_5678_fedc_ba98 2 0x1234_5678_fedc_ba98 ∷
    line 0x05 8 0 0x7fff 5 0x7fff_ffff_ffff_ffff 0x1234_5678_fedc_ba98 0x8005 0x7fff_ffff_ffff_ffff ∷
    line 0x05 9 1 0xffff_fffa 5 0 0x1234_5678_fedc_ba98 0 0 ∷
    line 0x05 0 4 3 5 0xfedc_ba98_1234_5678 0x1234_5678_fedc_ba98 9 0xfedc_ba98_1234_5678 ∷
    line 0x05 1 5 0xffff_fffc 5 0x8765_4321_89ab_cdef 0x1234_5678_fedc_ba98 2 0x8765_4321_89ab_cdef ∷
    -- JEQ K
    line 0x15 2 6 0x7fff 0xffff_ffff 0xffff_ffff_ffff_ffff 0x1234_5678_fedc_ba98 0x8005 0xffff_ffff_ffff_ffff ∷
    line 0x15 3 7 0xffff_fffa 0xffff_ffff 0xffff_ffff 0x1234_5678_fedc_ba98 6 0xffff_ffff ∷
    line 0x15 4 8 3 0xffff_ffff 0 0x1234_5678_fedc_ba98 6 0 ∷
    line 0x15 5 9 0xffff_fffc 5 0xffff_ffff_ffff_ffff 0x1234_5678_fedc_ba98 6 0xffff_ffff_ffff_ffff ∷
    line 0x15 6 10 0x7fff 5 0x1_0000_0003 0x1234_5678_fedc_ba98 6 0x1_0000_0003 ∷
    line 0x15 7 0 0xffff_fffa 0x8000_0000 0x8000_0000_0000_0000 0x1234_5678_fedc_ba98 6 0x8000_0000_0000_0000 ∷
    line 0x15 8 1 3 0x8000_0000 0x7fff_ffff_7fff_ffff 0x1234_5678_fedc_ba98 6 0x7fff_ffff_7fff_ffff ∷
    line 0x15 9 2 0xffff_fffc 3 6 0x1234_5678_fedc_ba98 6 6 ∷
    -- JEQ X
    line 0x1d 0 5 0x7fff 5 0xffff_ffff_ffff_ffff 0 6 0xffff_ffff_ffff_ffff ∷
    line 0x1d 1 6 0xffff_fffa 5 0 0xffff_ffff_ffff_ffff 6 0 ∷
    line 0x1d 2 7 3 5 3 3 9 3 ∷
    line 0x1d 3 8 0xffff_fffc 5 0x8000_0000_0000_0000 0x7fff_ffff_ffff_ffff 6 0x8000_0000_0000_0000 ∷
    line 0x1d 4 9 0x7fff 5 0x1_7fff_ffff 0x1_8000_0000 6 0x1_7fff_ffff ∷
    line 0x1d 5 10 0xffff_fffa 5 0x2_0000_0005 0x1_0000_0005 6 0x2_0000_0005 ∷
    line 0x1d 6 0 3 5 0x4_0000_0006 0x4_0000_0003 6 0x4_0000_0006 ∷
    line 0x1d 7 7 0xffff_fffc 5 0x8765_4321_89ab_cdef 0x8765_4321_89ab_cdef 2 0x8765_4321_89ab_cdef ∷
    -- JGT K
    line 0x25 8 2 0x7fff 0xffff_ffff 0xffff_ffff_ffff_ffff 0x1234_5678_fedc_ba98 6 0xffff_ffff_ffff_ffff ∷
    line 0x25 9 3 0xffff_fffa 0xffff_ffff 0xffff_ffff 0x1234_5678_fedc_ba98 6 0xffff_ffff ∷
    line 0x25 0 6 3 0xffff_ffff 0 0x1234_5678_fedc_ba98 6 0 ∷
    line 0x25 1 7 0xffff_fffc 5 0xffff_ffff_ffff_ffff 0x1234_5678_fedc_ba98 2 0xffff_ffff_ffff_ffff ∷
    line 0x25 2 8 0x7fff 5 0x1_0000_0003 0x1234_5678_fedc_ba98 0x8005 0x1_0000_0003 ∷
    line 0x25 3 9 0xffff_fffa 0x8000_0000 0x8000_0000_0000_0000 0x1234_5678_fedc_ba98 6 0x8000_0000_0000_0000 ∷
    line 0x25 4 10 3 0x8000_0000 0x7fff_ffff_7fff_ffff 0x1234_5678_fedc_ba98 6 0x7fff_ffff_7fff_ffff ∷
    line 0x25 5 0 0xffff_fffc 3 6 0x1234_5678_fedc_ba98 2 6 ∷
    -- JGT X
    line 0x2d 6 1 0x7fff 5 0xffff_ffff_ffff_ffff 0 0x8005 0xffff_ffff_ffff_ffff ∷
    line 0x2d 7 2 0xffff_fffa 5 0 0xffff_ffff_ffff_ffff 6 0 ∷
    line 0x2d 8 3 3 5 3 3 6 3 ∷
    line 0x2d 9 4 0xffff_fffc 5 0x8000_0000_0000_0000 0x7fff_ffff_ffff_ffff 2 0x8000_0000_0000_0000 ∷
    line 0x2d 0 7 0x7fff 5 0x1_7fff_ffff 0x1_8000_0000 6 0x1_7fff_ffff ∷
    line 0x2d 1 8 0xffff_fffa 5 0x2_0000_0005 0x1_0000_0005 0 0x2_0000_0005 ∷
    line 0x2d 2 9 3 5 0x4_0000_0006 0x4_0000_0003 9 0x4_0000_0006 ∷
    line 0x2d 3 3 0xffff_fffc 5 0x8765_4321_89ab_cdef 0x8765_4321_89ab_cdef 6 0x8765_4321_89ab_cdef ∷
    -- JGE K
    line 0x35 4 0 0x7fff 0xffff_ffff 0xffff_ffff_ffff_ffff 0x1234_5678_fedc_ba98 0x8005 0xffff_ffff_ffff_ffff ∷
    line 0x35 5 1 0xffff_fffa 0xffff_ffff 0xffff_ffff 0x1234_5678_fedc_ba98 6 0xffff_ffff ∷
    line 0x35 6 2 3 0xffff_ffff 0 0x1234_5678_fedc_ba98 6 0 ∷
    line 0x35 7 3 0xffff_fffc 5 0xffff_ffff_ffff_ffff 0x1234_5678_fedc_ba98 2 0xffff_ffff_ffff_ffff ∷
    line 0x35 8 4 0x7fff 5 0x1_0000_0003 0x1234_5678_fedc_ba98 0x8005 0x1_0000_0003 ∷
    line 0x35 9 5 0xffff_fffa 0x8000_0000 0x8000_0000_0000_0000 0x1234_5678_fedc_ba98 6 0x8000_0000_0000_0000 ∷
    line 0x35 0 8 3 0x8000_0000 0x7fff_ffff_7fff_ffff 0x1234_5678_fedc_ba98 6 0x7fff_ffff_7fff_ffff ∷
    line 0x35 1 9 0xffff_fffc 3 6 0x1234_5678_fedc_ba98 2 6 ∷
    -- JGE X
    line 0x3d 2 10 0x7fff 5 0xffff_ffff_ffff_ffff 0 0x8005 0xffff_ffff_ffff_ffff ∷
    line 0x3d 3 0 0xffff_fffa 5 0 0xffff_ffff_ffff_ffff 6 0 ∷
    line 0x3d 4 1 3 5 3 3 9 3 ∷
    line 0x3d 5 2 0xffff_fffc 5 0x8000_0000_0000_0000 0x7fff_ffff_ffff_ffff 2 0x8000_0000_0000_0000 ∷
    line 0x3d 6 3 0x7fff 5 0x1_7fff_ffff 0x1_8000_0000 6 0x1_7fff_ffff ∷
    line 0x3d 7 4 0xffff_fffa 5 0x2_0000_0005 0x1_0000_0005 0 0x2_0000_0005 ∷
    line 0x3d 8 5 3 5 0x4_0000_0006 0x4_0000_0003 9 0x4_0000_0006 ∷
    line 0x3d 9 9 0xffff_fffc 5 0x8765_4321_89ab_cdef 0x8765_4321_89ab_cdef 2 0x8765_4321_89ab_cdef ∷
    -- JSET K
    line 0x45 0 9 0x7fff 0xffff_ffff 0xffff_ffff_ffff_ffff 0x1234_5678_fedc_ba98 0x8005 0xffff_ffff_ffff_ffff ∷
    line 0x45 1 10 0xffff_fffa 0xffff_ffff 0xffff_ffff 0x1234_5678_fedc_ba98 0 0xffff_ffff ∷
    line 0x45 2 0 3 0xffff_ffff 0 0x1234_5678_fedc_ba98 6 0 ∷
    line 0x45 3 1 0xffff_fffc 5 0xffff_ffff_ffff_ffff 0x1234_5678_fedc_ba98 2 0xffff_ffff_ffff_ffff ∷
    line 0x45 4 2 0x7fff 5 0x1_0000_0003 0x1234_5678_fedc_ba98 0x8005 0x1_0000_0003 ∷
    line 0x45 5 3 0xffff_fffa 0x8000_0000 0x8000_0000_0000_0000 0x1234_5678_fedc_ba98 0 0x8000_0000_0000_0000 ∷
    line 0x45 6 4 3 0x8000_0000 0x7fff_ffff_7fff_ffff 0x1234_5678_fedc_ba98 9 0x7fff_ffff_7fff_ffff ∷
    line 0x45 7 5 0xffff_fffc 3 6 0x1234_5678_fedc_ba98 2 6 ∷
    -- JSET X
    line 0x4d 8 6 0x7fff 5 0xffff_ffff_ffff_ffff 0 6 0xffff_ffff_ffff_ffff ∷
    line 0x4d 9 7 0xffff_fffa 5 0 0xffff_ffff_ffff_ffff 6 0 ∷
    line 0x4d 0 10 3 5 3 3 9 3 ∷
    line 0x4d 1 0 0xffff_fffc 5 0x8000_0000_0000_0000 0x7fff_ffff_ffff_ffff 6 0x8000_0000_0000_0000 ∷
    line 0x4d 2 1 0x7fff 5 0x1_7fff_ffff 0x1_8000_0000 0x8005 0x1_7fff_ffff ∷
    line 0x4d 3 2 0xffff_fffa 5 0x2_0000_0005 0x1_0000_0005 0 0x2_0000_0005 ∷
    line 0x4d 4 3 3 5 0x4_0000_0006 0x4_0000_0003 9 0x4_0000_0006 ∷
    line 0x4d 5 5 0xffff_fffc 5 0x8765_4321_89ab_cdef 0x8765_4321_89ab_cdef 2 0x8765_4321_89ab_cdef ∷
    -- JNE K
    line 0x55 6 5 0x7fff 0xffff_ffff 0xffff_ffff_ffff_ffff 0x1234_5678_fedc_ba98 6 0xffff_ffff_ffff_ffff ∷
    line 0x55 7 6 0xffff_fffa 0xffff_ffff 0xffff_ffff 0x1234_5678_fedc_ba98 0 0xffff_ffff ∷
    line 0x55 8 7 3 0xffff_ffff 0 0x1234_5678_fedc_ba98 9 0 ∷
    line 0x55 9 8 0xffff_fffc 5 0xffff_ffff_ffff_ffff 0x1234_5678_fedc_ba98 2 0xffff_ffff_ffff_ffff ∷
    line 0x55 0 1 0x7fff 5 0x1_0000_0003 0x1234_5678_fedc_ba98 0x8005 0x1_0000_0003 ∷
    line 0x55 1 2 0xffff_fffa 0x8000_0000 0x8000_0000_0000_0000 0x1234_5678_fedc_ba98 0 0x8000_0000_0000_0000 ∷
    line 0x55 2 3 3 0x8000_0000 0x7fff_ffff_7fff_ffff 0x1234_5678_fedc_ba98 9 0x7fff_ffff_7fff_ffff ∷
    line 0x55 3 4 0xffff_fffc 3 6 0x1234_5678_fedc_ba98 2 6 ∷
    -- JNE X
    line 0x5d 4 5 0x7fff 5 0xffff_ffff_ffff_ffff 0 0x8005 0xffff_ffff_ffff_ffff ∷
    line 0x5d 5 6 0xffff_fffa 5 0 0xffff_ffff_ffff_ffff 0 0 ∷
    line 0x5d 6 7 3 5 3 3 6 3 ∷
    line 0x5d 7 8 0xffff_fffc 5 0x8000_0000_0000_0000 0x7fff_ffff_ffff_ffff 2 0x8000_0000_0000_0000 ∷
    line 0x5d 8 9 0x7fff 5 0x1_7fff_ffff 0x1_8000_0000 0x8005 0x1_7fff_ffff ∷
    line 0x5d 9 10 0xffff_fffa 5 0x2_0000_0005 0x1_0000_0005 0 0x2_0000_0005 ∷
    line 0x5d 0 2 3 5 0x4_0000_0006 0x4_0000_0003 9 0x4_0000_0006 ∷
    line 0x5d 1 1 0xffff_fffc 5 0x8765_4321_89ab_cdef 0x8765_4321_89ab_cdef 6 0x8765_4321_89ab_cdef ∷
    -- JSGT K
    line 0x65 2 4 0x7fff 0xffff_ffff 0xffff_ffff_ffff_ffff 0x1234_5678_fedc_ba98 6 0xffff_ffff_ffff_ffff ∷
    line 0x65 3 5 0xffff_fffa 0xffff_ffff 0xffff_ffff 0x1234_5678_fedc_ba98 0 0xffff_ffff ∷
    line 0x65 4 6 3 0xffff_ffff 0 0x1234_5678_fedc_ba98 9 0 ∷
    line 0x65 5 7 0xffff_fffc 5 0xffff_ffff_ffff_ffff 0x1234_5678_fedc_ba98 6 0xffff_ffff_ffff_ffff ∷
    line 0x65 6 8 0x7fff 5 0x1_0000_0003 0x1234_5678_fedc_ba98 0x8005 0x1_0000_0003 ∷
    line 0x65 7 9 0xffff_fffa 0x8000_0000 0x8000_0000_0000_0000 0x1234_5678_fedc_ba98 6 0x8000_0000_0000_0000 ∷
    line 0x65 8 10 3 0x8000_0000 0x7fff_ffff_7fff_ffff 0x1234_5678_fedc_ba98 9 0x7fff_ffff_7fff_ffff ∷
    line 0x65 9 0 0xffff_fffc 3 6 0x1234_5678_fedc_ba98 2 6 ∷
    -- JSGT X
    line 0x6d 0 3 0x7fff 5 0xffff_ffff_ffff_ffff 0 6 0xffff_ffff_ffff_ffff ∷
    line 0x6d 1 4 0xffff_fffa 5 0 0xffff_ffff_ffff_ffff 0 0 ∷
    line 0x6d 2 5 3 5 3 3 6 3 ∷
    line 0x6d 3 6 0xffff_fffc 5 0x8000_0000_0000_0000 0x7fff_ffff_ffff_ffff 6 0x8000_0000_0000_0000 ∷
    line 0x6d 4 7 0x7fff 5 0x1_7fff_ffff 0x1_8000_0000 6 0x1_7fff_ffff ∷
    line 0x6d 5 8 0xffff_fffa 5 0x2_0000_0005 0x1_0000_0005 0 0x2_0000_0005 ∷
    line 0x6d 6 9 3 5 0x4_0000_0006 0x4_0000_0003 9 0x4_0000_0006 ∷
    line 0x6d 7 7 0xffff_fffc 5 0x8765_4321_89ab_cdef 0x8765_4321_89ab_cdef 6 0x8765_4321_89ab_cdef ∷
    -- JSGE K
    line 0x75 8 0 0x7fff 0xffff_ffff 0xffff_ffff_ffff_ffff 0x1234_5678_fedc_ba98 0x8005 0xffff_ffff_ffff_ffff ∷
    line 0x75 9 1 0xffff_fffa 0xffff_ffff 0xffff_ffff 0x1234_5678_fedc_ba98 0 0xffff_ffff ∷
    line 0x75 0 4 3 0xffff_ffff 0 0x1234_5678_fedc_ba98 9 0 ∷
    line 0x75 1 5 0xffff_fffc 5 0xffff_ffff_ffff_ffff 0x1234_5678_fedc_ba98 6 0xffff_ffff_ffff_ffff ∷
    line 0x75 2 6 0x7fff 5 0x1_0000_0003 0x1234_5678_fedc_ba98 0x8005 0x1_0000_0003 ∷
    line 0x75 3 7 0xffff_fffa 0x8000_0000 0x8000_0000_0000_0000 0x1234_5678_fedc_ba98 6 0x8000_0000_0000_0000 ∷
    line 0x75 4 8 3 0x8000_0000 0x7fff_ffff_7fff_ffff 0x1234_5678_fedc_ba98 9 0x7fff_ffff_7fff_ffff ∷
    line 0x75 5 9 0xffff_fffc 3 6 0x1234_5678_fedc_ba98 2 6 ∷
    -- JSGE X
    line 0x7d 6 10 0x7fff 5 0xffff_ffff_ffff_ffff 0 6 0xffff_ffff_ffff_ffff ∷
    line 0x7d 7 0 0xffff_fffa 5 0 0xffff_ffff_ffff_ffff 0 0 ∷
    line 0x7d 8 1 3 5 3 3 9 3 ∷
    line 0x7d 9 2 0xffff_fffc 5 0x8000_0000_0000_0000 0x7fff_ffff_ffff_ffff 6 0x8000_0000_0000_0000 ∷
    line 0x7d 0 5 0x7fff 5 0x1_7fff_ffff 0x1_8000_0000 6 0x1_7fff_ffff ∷
    line 0x7d 1 6 0xffff_fffa 5 0x2_0000_0005 0x1_0000_0005 0 0x2_0000_0005 ∷
    line 0x7d 2 7 3 5 0x4_0000_0006 0x4_0000_0003 9 0x4_0000_0006 ∷
    line 0x7d 3 3 0xffff_fffc 5 0x8765_4321_89ab_cdef 0x8765_4321_89ab_cdef 2 0x8765_4321_89ab_cdef ∷
    -- JLT K
    line 0xa5 4 9 0x7fff 0xffff_ffff 0xffff_ffff_ffff_ffff 0x1234_5678_fedc_ba98 6 0xffff_ffff_ffff_ffff ∷
    line 0xa5 5 10 0xffff_fffa 0xffff_ffff 0xffff_ffff 0x1234_5678_fedc_ba98 0 0xffff_ffff ∷
    line 0xa5 6 0 3 0xffff_ffff 0 0x1234_5678_fedc_ba98 9 0 ∷
    line 0xa5 7 1 0xffff_fffc 5 0xffff_ffff_ffff_ffff 0x1234_5678_fedc_ba98 6 0xffff_ffff_ffff_ffff ∷
    line 0xa5 8 2 0x7fff 5 0x1_0000_0003 0x1234_5678_fedc_ba98 6 0x1_0000_0003 ∷
    line 0xa5 9 3 0xffff_fffa 0x8000_0000 0x8000_0000_0000_0000 0x1234_5678_fedc_ba98 0 0x8000_0000_0000_0000 ∷
    line 0xa5 0 6 3 0x8000_0000 0x7fff_ffff_7fff_ffff 0x1234_5678_fedc_ba98 9 0x7fff_ffff_7fff_ffff ∷
    line 0xa5 1 7 0xffff_fffc 3 6 0x1234_5678_fedc_ba98 6 6 ∷
    -- JLT X
    line 0xad 2 8 0x7fff 5 0xffff_ffff_ffff_ffff 0 6 0xffff_ffff_ffff_ffff ∷
    line 0xad 3 9 0xffff_fffa 5 0 0xffff_ffff_ffff_ffff 0 0 ∷
    line 0xad 4 10 3 5 3 3 6 3 ∷
    line 0xad 5 0 0xffff_fffc 5 0x8000_0000_0000_0000 0x7fff_ffff_ffff_ffff 6 0x8000_0000_0000_0000 ∷
    line 0xad 6 1 0x7fff 5 0x1_7fff_ffff 0x1_8000_0000 0x8005 0x1_7fff_ffff ∷
    line 0xad 7 2 0xffff_fffa 5 0x2_0000_0005 0x1_0000_0005 6 0x2_0000_0005 ∷
    line 0xad 8 3 3 5 0x4_0000_0006 0x4_0000_0003 6 0x4_0000_0006 ∷
    line 0xad 9 9 0xffff_fffc 5 0x8765_4321_89ab_cdef 0x8765_4321_89ab_cdef 6 0x8765_4321_89ab_cdef ∷
    -- JLE K
    line 0xb5 0 7 0x7fff 0xffff_ffff 0xffff_ffff_ffff_ffff 0x1234_5678_fedc_ba98 0x8005 0xffff_ffff_ffff_ffff ∷
    line 0xb5 1 8 0xffff_fffa 0xffff_ffff 0xffff_ffff 0x1234_5678_fedc_ba98 0 0xffff_ffff ∷
    line 0xb5 2 9 3 0xffff_ffff 0 0x1234_5678_fedc_ba98 9 0 ∷
    line 0xb5 3 10 0xffff_fffc 5 0xffff_ffff_ffff_ffff 0x1234_5678_fedc_ba98 6 0xffff_ffff_ffff_ffff ∷
    line 0xb5 4 0 0x7fff 5 0x1_0000_0003 0x1234_5678_fedc_ba98 6 0x1_0000_0003 ∷
    line 0xb5 5 1 0xffff_fffa 0x8000_0000 0x8000_0000_0000_0000 0x1234_5678_fedc_ba98 0 0x8000_0000_0000_0000 ∷
    line 0xb5 6 2 3 0x8000_0000 0x7fff_ffff_7fff_ffff 0x1234_5678_fedc_ba98 9 0x7fff_ffff_7fff_ffff ∷
    line 0xb5 7 3 0xffff_fffc 3 6 0x1234_5678_fedc_ba98 6 6 ∷
    -- JLE X
    line 0xbd 8 4 0x7fff 5 0xffff_ffff_ffff_ffff 0 6 0xffff_ffff_ffff_ffff ∷
    line 0xbd 9 5 0xffff_fffa 5 0 0xffff_ffff_ffff_ffff 0 0 ∷
    line 0xbd 0 8 3 5 3 3 9 3 ∷
    line 0xbd 1 9 0xffff_fffc 5 0x8000_0000_0000_0000 0x7fff_ffff_ffff_ffff 6 0x8000_0000_0000_0000 ∷
    line 0xbd 2 10 0x7fff 5 0x1_7fff_ffff 0x1_8000_0000 0x8005 0x1_7fff_ffff ∷
    line 0xbd 3 0 0xffff_fffa 5 0x2_0000_0005 0x1_0000_0005 6 0x2_0000_0005 ∷
    line 0xbd 4 1 3 5 0x4_0000_0006 0x4_0000_0003 6 0x4_0000_0006 ∷
    line 0xbd 5 5 0xffff_fffc 5 0x8765_4321_89ab_cdef 0x8765_4321_89ab_cdef 2 0x8765_4321_89ab_cdef ∷
    -- JSLT K
    line 0xc5 6 3 0x7fff 0xffff_ffff 0xffff_ffff_ffff_ffff 0x1234_5678_fedc_ba98 6 0xffff_ffff_ffff_ffff ∷
    line 0xc5 7 4 0xffff_fffa 0xffff_ffff 0xffff_ffff 0x1234_5678_fedc_ba98 6 0xffff_ffff ∷
    line 0xc5 8 5 3 0xffff_ffff 0 0x1234_5678_fedc_ba98 6 0 ∷
    line 0xc5 9 6 0xffff_fffc 5 0xffff_ffff_ffff_ffff 0x1234_5678_fedc_ba98 2 0xffff_ffff_ffff_ffff ∷
    line 0xc5 0 9 0x7fff 5 0x1_0000_0003 0x1234_5678_fedc_ba98 6 0x1_0000_0003 ∷
    line 0xc5 1 10 0xffff_fffa 0x8000_0000 0x8000_0000_0000_0000 0x1234_5678_fedc_ba98 0 0x8000_0000_0000_0000 ∷
    line 0xc5 2 0 3 0x8000_0000 0x7fff_ffff_7fff_ffff 0x1234_5678_fedc_ba98 6 0x7fff_ffff_7fff_ffff ∷
    line 0xc5 3 1 0xffff_fffc 3 6 0x1234_5678_fedc_ba98 6 6 ∷
    -- JSLT X
    line 0xcd 4 2 0x7fff 5 0xffff_ffff_ffff_ffff 0 0x8005 0xffff_ffff_ffff_ffff ∷
    line 0xcd 5 3 0xffff_fffa 5 0 0xffff_ffff_ffff_ffff 6 0 ∷
    line 0xcd 6 4 3 5 3 3 6 3 ∷
    line 0xcd 7 5 0xffff_fffc 5 0x8000_0000_0000_0000 0x7fff_ffff_ffff_ffff 2 0x8000_0000_0000_0000 ∷
    line 0xcd 8 6 0x7fff 5 0x1_7fff_ffff 0x1_8000_0000 0x8005 0x1_7fff_ffff ∷
    line 0xcd 9 7 0xffff_fffa 5 0x2_0000_0005 0x1_0000_0005 6 0x2_0000_0005 ∷
    line 0xcd 0 10 3 5 0x4_0000_0006 0x4_0000_0003 6 0x4_0000_0006 ∷
    line 0xcd 1 1 0xffff_fffc 5 0x8765_4321_89ab_cdef 0x8765_4321_89ab_cdef 6 0x8765_4321_89ab_cdef ∷
    -- JSLE K
    line 0xd5 2 1 0x7fff 0xffff_ffff 0xffff_ffff_ffff_ffff 0x1234_5678_fedc_ba98 0x8005 0xffff_ffff_ffff_ffff ∷
    line 0xd5 3 2 0xffff_fffa 0xffff_ffff 0xffff_ffff 0x1234_5678_fedc_ba98 6 0xffff_ffff ∷
    line 0xd5 4 3 3 0xffff_ffff 0 0x1234_5678_fedc_ba98 6 0 ∷
    line 0xd5 5 4 0xffff_fffc 5 0xffff_ffff_ffff_ffff 0x1234_5678_fedc_ba98 2 0xffff_ffff_ffff_ffff ∷
    line 0xd5 6 5 0x7fff 5 0x1_0000_0003 0x1234_5678_fedc_ba98 6 0x1_0000_0003 ∷
    line 0xd5 7 6 0xffff_fffa 0x8000_0000 0x8000_0000_0000_0000 0x1234_5678_fedc_ba98 0 0x8000_0000_0000_0000 ∷
    line 0xd5 8 7 3 0x8000_0000 0x7fff_ffff_7fff_ffff 0x1234_5678_fedc_ba98 6 0x7fff_ffff_7fff_ffff ∷
    line 0xd5 9 8 0xffff_fffc 3 6 0x1234_5678_fedc_ba98 6 6 ∷
    -- JSLE X
    line 0xdd 0 1 0x7fff 5 0xffff_ffff_ffff_ffff 0 0x8005 0xffff_ffff_ffff_ffff ∷
    line 0xdd 1 2 0xffff_fffa 5 0 0xffff_ffff_ffff_ffff 6 0 ∷
    line 0xdd 2 3 3 5 3 3 9 3 ∷
    line 0xdd 3 4 0xffff_fffc 5 0x8000_0000_0000_0000 0x7fff_ffff_ffff_ffff 2 0x8000_0000_0000_0000 ∷
    line 0xdd 4 5 0x7fff 5 0x1_7fff_ffff 0x1_8000_0000 0x8005 0x1_7fff_ffff ∷
    line 0xdd 5 6 0xffff_fffa 5 0x2_0000_0005 0x1_0000_0005 6 0x2_0000_0005 ∷
    line 0xdd 6 7 3 5 0x4_0000_0006 0x4_0000_0003 6 0x4_0000_0006 ∷
    line 0xdd 7 7 0xffff_fffc 5 0x8765_4321_89ab_cdef 0x8765_4321_89ab_cdef 2 0x8765_4321_89ab_cdef ∷
    -- JEQ32 K
    line 0x16 8 9 0x7fff 0xffff_ffff 0xffff_ffff_ffff_ffff 0x1234_5678_fedc_ba98 0x8005 0xffff_ffff_ffff_ffff ∷
    line 0x16 9 10 0xffff_fffa 0xffff_ffff 0xffff_ffff 0x1234_5678_fedc_ba98 0 0xffff_ffff ∷
    line 0x16 0 2 3 0xffff_ffff 0 0x1234_5678_fedc_ba98 6 0 ∷
    line 0x16 1 3 0xffff_fffc 5 0xffff_ffff_ffff_ffff 0x1234_5678_fedc_ba98 6 0xffff_ffff_ffff_ffff ∷
    line 0x16 2 4 0x7fff 5 0x1_0000_0003 0x1234_5678_fedc_ba98 6 0x1_0000_0003 ∷
    line 0x16 3 5 0xffff_fffa 0x8000_0000 0x8000_0000_0000_0000 0x1234_5678_fedc_ba98 6 0x8000_0000_0000_0000 ∷
    line 0x16 4 6 3 0x8000_0000 0x7fff_ffff_7fff_ffff 0x1234_5678_fedc_ba98 6 0x7fff_ffff_7fff_ffff ∷
    line 0x16 5 7 0xffff_fffc 3 6 0x1234_5678_fedc_ba98 6 6 ∷
    -- JEQ32 X
    line 0x1e 6 8 0x7fff 5 0xffff_ffff_ffff_ffff 0 6 0xffff_ffff_ffff_ffff ∷
    line 0x1e 7 9 0xffff_fffa 5 0 0xffff_ffff_ffff_ffff 6 0 ∷
    line 0x1e 8 10 3 5 3 3 9 3 ∷
    line 0x1e 9 0 0xffff_fffc 5 0x8000_0000_0000_0000 0x7fff_ffff_ffff_ffff 6 0x8000_0000_0000_0000 ∷
    line 0x1e 0 3 0x7fff 5 0x1_7fff_ffff 0x1_8000_0000 6 0x1_7fff_ffff ∷
    line 0x1e 1 4 0xffff_fffa 5 0x2_0000_0005 0x1_0000_0005 0 0x2_0000_0005 ∷
    line 0x1e 2 5 3 5 0x4_0000_0006 0x4_0000_0003 6 0x4_0000_0006 ∷
    line 0x1e 3 3 0xffff_fffc 5 0x8765_4321_89ab_cdef 0x8765_4321_89ab_cdef 2 0x8765_4321_89ab_cdef ∷
    -- JGT32 K
    line 0x26 4 7 0x7fff 0xffff_ffff 0xffff_ffff_ffff_ffff 0x1234_5678_fedc_ba98 6 0xffff_ffff_ffff_ffff ∷
    line 0x26 5 8 0xffff_fffa 0xffff_ffff 0xffff_ffff 0x1234_5678_fedc_ba98 6 0xffff_ffff ∷
    line 0x26 6 9 3 0xffff_ffff 0 0x1234_5678_fedc_ba98 6 0 ∷
    line 0x26 7 10 0xffff_fffc 5 0xffff_ffff_ffff_ffff 0x1234_5678_fedc_ba98 2 0xffff_ffff_ffff_ffff ∷
    line 0x26 8 0 0x7fff 5 0x1_0000_0003 0x1234_5678_fedc_ba98 6 0x1_0000_0003 ∷
    line 0x26 9 1 0xffff_fffa 0x8000_0000 0x8000_0000_0000_0000 0x1234_5678_fedc_ba98 6 0x8000_0000_0000_0000 ∷
    line 0x26 0 4 3 0x8000_0000 0x7fff_ffff_7fff_ffff 0x1234_5678_fedc_ba98 6 0x7fff_ffff_7fff_ffff ∷
    line 0x26 1 5 0xffff_fffc 3 6 0x1234_5678_fedc_ba98 2 6 ∷
    -- JGT32 X
    line 0x2e 2 6 0x7fff 5 0xffff_ffff_ffff_ffff 0 0x8005 0xffff_ffff_ffff_ffff ∷
    line 0x2e 3 7 0xffff_fffa 5 0 0xffff_ffff_ffff_ffff 6 0 ∷
    line 0x2e 4 8 3 5 3 3 6 3 ∷
    line 0x2e 5 9 0xffff_fffc 5 0x8000_0000_0000_0000 0x7fff_ffff_ffff_ffff 6 0x8000_0000_0000_0000 ∷
    line 0x2e 6 10 0x7fff 5 0x1_7fff_ffff 0x1_8000_0000 6 0x1_7fff_ffff ∷
    line 0x2e 7 0 0xffff_fffa 5 0x2_0000_0005 0x1_0000_0005 6 0x2_0000_0005 ∷
    line 0x2e 8 1 3 5 0x4_0000_0006 0x4_0000_0003 9 0x4_0000_0006 ∷
    line 0x2e 9 9 0xffff_fffc 5 0x8765_4321_89ab_cdef 0x8765_4321_89ab_cdef 6 0x8765_4321_89ab_cdef ∷
    -- JGE32 K
    line 0x36 0 5 0x7fff 0xffff_ffff 0xffff_ffff_ffff_ffff 0x1234_5678_fedc_ba98 0x8005 0xffff_ffff_ffff_ffff ∷
    line 0x36 1 6 0xffff_fffa 0xffff_ffff 0xffff_ffff 0x1234_5678_fedc_ba98 0 0xffff_ffff ∷
    line 0x36 2 7 3 0xffff_ffff 0 0x1234_5678_fedc_ba98 6 0 ∷
    line 0x36 3 8 0xffff_fffc 5 0xffff_ffff_ffff_ffff 0x1234_5678_fedc_ba98 2 0xffff_ffff_ffff_ffff ∷
    line 0x36 4 9 0x7fff 5 0x1_0000_0003 0x1234_5678_fedc_ba98 6 0x1_0000_0003 ∷
    line 0x36 5 10 0xffff_fffa 0x8000_0000 0x8000_0000_0000_0000 0x1234_5678_fedc_ba98 6 0x8000_0000_0000_0000 ∷
    line 0x36 6 0 3 0x8000_0000 0x7fff_ffff_7fff_ffff 0x1234_5678_fedc_ba98 6 0x7fff_ffff_7fff_ffff ∷
    line 0x36 7 1 0xffff_fffc 3 6 0x1234_5678_fedc_ba98 2 6 ∷
    -- JGE32 X
    line 0x3e 8 2 0x7fff 5 0xffff_ffff_ffff_ffff 0 0x8005 0xffff_ffff_ffff_ffff ∷
    line 0x3e 9 3 0xffff_fffa 5 0 0xffff_ffff_ffff_ffff 6 0 ∷
    line 0x3e 0 6 3 5 3 3 9 3 ∷
    line 0x3e 1 7 0xffff_fffc 5 0x8000_0000_0000_0000 0x7fff_ffff_ffff_ffff 6 0x8000_0000_0000_0000 ∷
    line 0x3e 2 8 0x7fff 5 0x1_7fff_ffff 0x1_8000_0000 6 0x1_7fff_ffff ∷
    line 0x3e 3 9 0xffff_fffa 5 0x2_0000_0005 0x1_0000_0005 0 0x2_0000_0005 ∷
    line 0x3e 4 10 3 5 0x4_0000_0006 0x4_0000_0003 9 0x4_0000_0006 ∷
    line 0x3e 5 5 0xffff_fffc 5 0x8765_4321_89ab_cdef 0x8765_4321_89ab_cdef 2 0x8765_4321_89ab_cdef ∷
    -- JSET32 K
    line 0x46 6 1 0x7fff 0xffff_ffff 0xffff_ffff_ffff_ffff 0x1234_5678_fedc_ba98 0x8005 0xffff_ffff_ffff_ffff ∷
    line 0x46 7 2 0xffff_fffa 0xffff_ffff 0xffff_ffff 0x1234_5678_fedc_ba98 0 0xffff_ffff ∷
    line 0x46 8 3 3 0xffff_ffff 0 0x1234_5678_fedc_ba98 6 0 ∷
    line 0x46 9 4 0xffff_fffc 5 0xffff_ffff_ffff_ffff 0x1234_5678_fedc_ba98 2 0xffff_ffff_ffff_ffff ∷
    line 0x46 0 7 0x7fff 5 0x1_0000_0003 0x1234_5678_fedc_ba98 0x8005 0x1_0000_0003 ∷
    line 0x46 1 8 0xffff_fffa 0x8000_0000 0x8000_0000_0000_0000 0x1234_5678_fedc_ba98 6 0x8000_0000_0000_0000 ∷
    line 0x46 2 9 3 0x8000_0000 0x7fff_ffff_7fff_ffff 0x1234_5678_fedc_ba98 6 0x7fff_ffff_7fff_ffff ∷
    line 0x46 3 10 0xffff_fffc 3 6 0x1234_5678_fedc_ba98 2 6 ∷
    -- JSET32 X
    line 0x4e 4 0 0x7fff 5 0xffff_ffff_ffff_ffff 0 6 0xffff_ffff_ffff_ffff ∷
    line 0x4e 5 1 0xffff_fffa 5 0 0xffff_ffff_ffff_ffff 6 0 ∷
    line 0x4e 6 2 3 5 3 3 9 3 ∷
    line 0x4e 7 3 0xffff_fffc 5 0x8000_0000_0000_0000 0x7fff_ffff_ffff_ffff 6 0x8000_0000_0000_0000 ∷
    line 0x4e 8 4 0x7fff 5 0x1_7fff_ffff 0x1_8000_0000 6 0x1_7fff_ffff ∷
    line 0x4e 9 5 0xffff_fffa 5 0x2_0000_0005 0x1_0000_0005 0 0x2_0000_0005 ∷
    line 0x4e 0 8 3 5 0x4_0000_0006 0x4_0000_0003 9 0x4_0000_0006 ∷
    line 0x4e 1 1 0xffff_fffc 5 0x8765_4321_89ab_cdef 0x8765_4321_89ab_cdef 2 0x8765_4321_89ab_cdef ∷
    -- JNE32 K
    line 0x56 2 10 0x7fff 0xffff_ffff 0xffff_ffff_ffff_ffff 0x1234_5678_fedc_ba98 6 0xffff_ffff_ffff_ffff ∷
    line 0x56 3 0 0xffff_fffa 0xffff_ffff 0xffff_ffff 0x1234_5678_fedc_ba98 6 0xffff_ffff ∷
    line 0x56 4 1 3 0xffff_ffff 0 0x1234_5678_fedc_ba98 9 0 ∷
    line 0x56 5 2 0xffff_fffc 5 0xffff_ffff_ffff_ffff 0x1234_5678_fedc_ba98 2 0xffff_ffff_ffff_ffff ∷
    line 0x56 6 3 0x7fff 5 0x1_0000_0003 0x1234_5678_fedc_ba98 0x8005 0x1_0000_0003 ∷
    line 0x56 7 4 0xffff_fffa 0x8000_0000 0x8000_0000_0000_0000 0x1234_5678_fedc_ba98 0 0x8000_0000_0000_0000 ∷
    line 0x56 8 5 3 0x8000_0000 0x7fff_ffff_7fff_ffff 0x1234_5678_fedc_ba98 9 0x7fff_ffff_7fff_ffff ∷
    line 0x56 9 6 0xffff_fffc 3 6 0x1234_5678_fedc_ba98 2 6 ∷
    -- JNE32 X
    line 0x5e 0 9 0x7fff 5 0xffff_ffff_ffff_ffff 0 0x8005 0xffff_ffff_ffff_ffff ∷
    line 0x5e 1 10 0xffff_fffa 5 0 0xffff_ffff_ffff_ffff 0 0 ∷
    line 0x5e 2 0 3 5 3 3 6 3 ∷
    line 0x5e 3 1 0xffff_fffc 5 0x8000_0000_0000_0000 0x7fff_ffff_ffff_ffff 2 0x8000_0000_0000_0000 ∷
    line 0x5e 4 2 0x7fff 5 0x1_7fff_ffff 0x1_8000_0000 0x8005 0x1_7fff_ffff ∷
    line 0x5e 5 3 0xffff_fffa 5 0x2_0000_0005 0x1_0000_0005 6 0x2_0000_0005 ∷
    line 0x5e 6 4 3 5 0x4_0000_0006 0x4_0000_0003 9 0x4_0000_0006 ∷
    line 0x5e 7 7 0xffff_fffc 5 0x8765_4321_89ab_cdef 0x8765_4321_89ab_cdef 6 0x8765_4321_89ab_cdef ∷
    -- JSGT32 K
    line 0x66 8 6 0x7fff 0xffff_ffff 0xffff_ffff_ffff_ffff 0x1234_5678_fedc_ba98 6 0xffff_ffff_ffff_ffff ∷
    line 0x66 9 7 0xffff_fffa 0xffff_ffff 0xffff_ffff 0x1234_5678_fedc_ba98 6 0xffff_ffff ∷
    line 0x66 0 10 3 0xffff_ffff 0 0x1234_5678_fedc_ba98 9 0 ∷
    line 0x66 1 0 0xffff_fffc 5 0xffff_ffff_ffff_ffff 0x1234_5678_fedc_ba98 6 0xffff_ffff_ffff_ffff ∷
    line 0x66 2 1 0x7fff 5 0x1_0000_0003 0x1234_5678_fedc_ba98 6 0x1_0000_0003 ∷
    line 0x66 3 2 0xffff_fffa 0x8000_0000 0x8000_0000_0000_0000 0x1234_5678_fedc_ba98 0 0x8000_0000_0000_0000 ∷
    line 0x66 4 3 3 0x8000_0000 0x7fff_ffff_7fff_ffff 0x1234_5678_fedc_ba98 9 0x7fff_ffff_7fff_ffff ∷
    line 0x66 5 4 0xffff_fffc 3 6 0x1234_5678_fedc_ba98 2 6 ∷
    -- JSGT32 X
    line 0x6e 6 5 0x7fff 5 0xffff_ffff_ffff_ffff 0 6 0xffff_ffff_ffff_ffff ∷
    line 0x6e 7 6 0xffff_fffa 5 0 0xffff_ffff_ffff_ffff 0 0 ∷
    line 0x6e 8 7 3 5 3 3 6 3 ∷
    line 0x6e 9 8 0xffff_fffc 5 0x8000_0000_0000_0000 0x7fff_ffff_ffff_ffff 2 0x8000_0000_0000_0000 ∷
    line 0x6e 0 1 0x7fff 5 0x1_7fff_ffff 0x1_8000_0000 0x8005 0x1_7fff_ffff ∷
    line 0x6e 1 2 0xffff_fffa 5 0x2_0000_0005 0x1_0000_0005 6 0x2_0000_0005 ∷
    line 0x6e 2 3 3 5 0x4_0000_0006 0x4_0000_0003 9 0x4_0000_0006 ∷
    line 0x6e 3 3 0xffff_fffc 5 0x8765_4321_89ab_cdef 0x8765_4321_89ab_cdef 6 0x8765_4321_89ab_cdef ∷
    -- JSGE32 K
    line 0x76 4 5 0x7fff 0xffff_ffff 0xffff_ffff_ffff_ffff 0x1234_5678_fedc_ba98 0x8005 0xffff_ffff_ffff_ffff ∷
    line 0x76 5 6 0xffff_fffa 0xffff_ffff 0xffff_ffff 0x1234_5678_fedc_ba98 0 0xffff_ffff ∷
    line 0x76 6 7 3 0xffff_ffff 0 0x1234_5678_fedc_ba98 9 0 ∷
    line 0x76 7 8 0xffff_fffc 5 0xffff_ffff_ffff_ffff 0x1234_5678_fedc_ba98 6 0xffff_ffff_ffff_ffff ∷
    line 0x76 8 9 0x7fff 5 0x1_0000_0003 0x1234_5678_fedc_ba98 6 0x1_0000_0003 ∷
    line 0x76 9 10 0xffff_fffa 0x8000_0000 0x8000_0000_0000_0000 0x1234_5678_fedc_ba98 0 0x8000_0000_0000_0000 ∷
    line 0x76 0 2 3 0x8000_0000 0x7fff_ffff_7fff_ffff 0x1234_5678_fedc_ba98 9 0x7fff_ffff_7fff_ffff ∷
    line 0x76 1 3 0xffff_fffc 3 6 0x1234_5678_fedc_ba98 2 6 ∷
    -- JSGE32 X
    line 0x7e 2 4 0x7fff 5 0xffff_ffff_ffff_ffff 0 6 0xffff_ffff_ffff_ffff ∷
    line 0x7e 3 5 0xffff_fffa 5 0 0xffff_ffff_ffff_ffff 0 0 ∷
    line 0x7e 4 6 3 5 3 3 9 3 ∷
    line 0x7e 5 7 0xffff_fffc 5 0x8000_0000_0000_0000 0x7fff_ffff_ffff_ffff 2 0x8000_0000_0000_0000 ∷
    line 0x7e 6 8 0x7fff 5 0x1_7fff_ffff 0x1_8000_0000 0x8005 0x1_7fff_ffff ∷
    line 0x7e 7 9 0xffff_fffa 5 0x2_0000_0005 0x1_0000_0005 0 0x2_0000_0005 ∷
    line 0x7e 8 10 3 5 0x4_0000_0006 0x4_0000_0003 9 0x4_0000_0006 ∷
    line 0x7e 9 9 0xffff_fffc 5 0x8765_4321_89ab_cdef 0x8765_4321_89ab_cdef 2 0x8765_4321_89ab_cdef ∷
    -- JLT32 K
    line 0xa6 0 3 0x7fff 0xffff_ffff 0xffff_ffff_ffff_ffff 0x1234_5678_fedc_ba98 6 0xffff_ffff_ffff_ffff ∷
    line 0xa6 1 4 0xffff_fffa 0xffff_ffff 0xffff_ffff 0x1234_5678_fedc_ba98 6 0xffff_ffff ∷
    line 0xa6 2 5 3 0xffff_ffff 0 0x1234_5678_fedc_ba98 9 0 ∷
    line 0xa6 3 6 0xffff_fffc 5 0xffff_ffff_ffff_ffff 0x1234_5678_fedc_ba98 6 0xffff_ffff_ffff_ffff ∷
    line 0xa6 4 7 0x7fff 5 0x1_0000_0003 0x1234_5678_fedc_ba98 0x8005 0x1_0000_0003 ∷
    line 0xa6 5 8 0xffff_fffa 0x8000_0000 0x8000_0000_0000_0000 0x1234_5678_fedc_ba98 0 0x8000_0000_0000_0000 ∷
    line 0xa6 6 9 3 0x8000_0000 0x7fff_ffff_7fff_ffff 0x1234_5678_fedc_ba98 9 0x7fff_ffff_7fff_ffff ∷
    line 0xa6 7 10 0xffff_fffc 3 6 0x1234_5678_fedc_ba98 6 6 ∷
    -- JLT32 X
    line 0xae 8 0 0x7fff 5 0xffff_ffff_ffff_ffff 0 6 0xffff_ffff_ffff_ffff ∷
    line 0xae 9 1 0xffff_fffa 5 0 0xffff_ffff_ffff_ffff 0 0 ∷
    line 0xae 0 4 3 5 3 3 6 3 ∷
    line 0xae 1 5 0xffff_fffc 5 0x8000_0000_0000_0000 0x7fff_ffff_ffff_ffff 2 0x8000_0000_0000_0000 ∷
    line 0xae 2 6 0x7fff 5 0x1_7fff_ffff 0x1_8000_0000 0x8005 0x1_7fff_ffff ∷
    line 0xae 3 7 0xffff_fffa 5 0x2_0000_0005 0x1_0000_0005 6 0x2_0000_0005 ∷
    line 0xae 4 8 3 5 0x4_0000_0006 0x4_0000_0003 6 0x4_0000_0006 ∷
    line 0xae 5 5 0xffff_fffc 5 0x8765_4321_89ab_cdef 0x8765_4321_89ab_cdef 6 0x8765_4321_89ab_cdef ∷
    -- JLE32 K
    line 0xb6 6 10 0x7fff 0xffff_ffff 0xffff_ffff_ffff_ffff 0x1234_5678_fedc_ba98 0x8005 0xffff_ffff_ffff_ffff ∷
    line 0xb6 7 0 0xffff_fffa 0xffff_ffff 0xffff_ffff 0x1234_5678_fedc_ba98 0 0xffff_ffff ∷
    line 0xb6 8 1 3 0xffff_ffff 0 0x1234_5678_fedc_ba98 9 0 ∷
    line 0xb6 9 2 0xffff_fffc 5 0xffff_ffff_ffff_ffff 0x1234_5678_fedc_ba98 6 0xffff_ffff_ffff_ffff ∷
    line 0xb6 0 5 0x7fff 5 0x1_0000_0003 0x1234_5678_fedc_ba98 0x8005 0x1_0000_0003 ∷
    line 0xb6 1 6 0xffff_fffa 0x8000_0000 0x8000_0000_0000_0000 0x1234_5678_fedc_ba98 0 0x8000_0000_0000_0000 ∷
    line 0xb6 2 7 3 0x8000_0000 0x7fff_ffff_7fff_ffff 0x1234_5678_fedc_ba98 9 0x7fff_ffff_7fff_ffff ∷
    line 0xb6 3 8 0xffff_fffc 3 6 0x1234_5678_fedc_ba98 6 6 ∷
    -- JLE32 X
    line 0xbe 4 9 0x7fff 5 0xffff_ffff_ffff_ffff 0 6 0xffff_ffff_ffff_ffff ∷
    line 0xbe 5 10 0xffff_fffa 5 0 0xffff_ffff_ffff_ffff 0 0 ∷
    line 0xbe 6 0 3 5 3 3 9 3 ∷
    line 0xbe 7 1 0xffff_fffc 5 0x8000_0000_0000_0000 0x7fff_ffff_ffff_ffff 2 0x8000_0000_0000_0000 ∷
    line 0xbe 8 2 0x7fff 5 0x1_7fff_ffff 0x1_8000_0000 0x8005 0x1_7fff_ffff ∷
    line 0xbe 9 3 0xffff_fffa 5 0x2_0000_0005 0x1_0000_0005 0 0x2_0000_0005 ∷
    line 0xbe 0 6 3 5 0x4_0000_0006 0x4_0000_0003 6 0x4_0000_0006 ∷
    line 0xbe 1 1 0xffff_fffc 5 0x8765_4321_89ab_cdef 0x8765_4321_89ab_cdef 2 0x8765_4321_89ab_cdef ∷
    -- JSLT32 K
    line 0xc6 2 8 0x7fff 0xffff_ffff 0xffff_ffff_ffff_ffff 0x1234_5678_fedc_ba98 6 0xffff_ffff_ffff_ffff ∷
    line 0xc6 3 9 0xffff_fffa 0xffff_ffff 0xffff_ffff 0x1234_5678_fedc_ba98 6 0xffff_ffff ∷
    line 0xc6 4 10 3 0xffff_ffff 0 0x1234_5678_fedc_ba98 6 0 ∷
    line 0xc6 5 0 0xffff_fffc 5 0xffff_ffff_ffff_ffff 0x1234_5678_fedc_ba98 2 0xffff_ffff_ffff_ffff ∷
    line 0xc6 6 1 0x7fff 5 0x1_0000_0003 0x1234_5678_fedc_ba98 0x8005 0x1_0000_0003 ∷
    line 0xc6 7 2 0xffff_fffa 0x8000_0000 0x8000_0000_0000_0000 0x1234_5678_fedc_ba98 6 0x8000_0000_0000_0000 ∷
    line 0xc6 8 3 3 0x8000_0000 0x7fff_ffff_7fff_ffff 0x1234_5678_fedc_ba98 6 0x7fff_ffff_7fff_ffff ∷
    line 0xc6 9 4 0xffff_fffc 3 6 0x1234_5678_fedc_ba98 6 6 ∷
    -- JSLT32 X
    line 0xce 0 7 0x7fff 5 0xffff_ffff_ffff_ffff 0 0x8005 0xffff_ffff_ffff_ffff ∷
    line 0xce 1 8 0xffff_fffa 5 0 0xffff_ffff_ffff_ffff 6 0 ∷
    line 0xce 2 9 3 5 3 3 6 3 ∷
    line 0xce 3 10 0xffff_fffc 5 0x8000_0000_0000_0000 0x7fff_ffff_ffff_ffff 6 0x8000_0000_0000_0000 ∷
    line 0xce 4 0 0x7fff 5 0x1_7fff_ffff 0x1_8000_0000 6 0x1_7fff_ffff ∷
    line 0xce 5 1 0xffff_fffa 5 0x2_0000_0005 0x1_0000_0005 6 0x2_0000_0005 ∷
    line 0xce 6 2 3 5 0x4_0000_0006 0x4_0000_0003 6 0x4_0000_0006 ∷
    line 0xce 7 7 0xffff_fffc 5 0x8765_4321_89ab_cdef 0x8765_4321_89ab_cdef 6 0x8765_4321_89ab_cdef ∷
    -- JSLE32 K
    line 0xd6 8 4 0x7fff 0xffff_ffff 0xffff_ffff_ffff_ffff 0x1234_5678_fedc_ba98 0x8005 0xffff_ffff_ffff_ffff ∷
    line 0xd6 9 5 0xffff_fffa 0xffff_ffff 0xffff_ffff 0x1234_5678_fedc_ba98 0 0xffff_ffff ∷
    line 0xd6 0 8 3 0xffff_ffff 0 0x1234_5678_fedc_ba98 6 0 ∷
    line 0xd6 1 9 0xffff_fffc 5 0xffff_ffff_ffff_ffff 0x1234_5678_fedc_ba98 2 0xffff_ffff_ffff_ffff ∷
    line 0xd6 2 10 0x7fff 5 0x1_0000_0003 0x1234_5678_fedc_ba98 0x8005 0x1_0000_0003 ∷
    line 0xd6 3 0 0xffff_fffa 0x8000_0000 0x8000_0000_0000_0000 0x1234_5678_fedc_ba98 6 0x8000_0000_0000_0000 ∷
    line 0xd6 4 1 3 0x8000_0000 0x7fff_ffff_7fff_ffff 0x1234_5678_fedc_ba98 6 0x7fff_ffff_7fff_ffff ∷
    line 0xd6 5 2 0xffff_fffc 3 6 0x1234_5678_fedc_ba98 6 6 ∷
    -- JSLE32 X
    line 0xde 6 3 0x7fff 5 0xffff_ffff_ffff_ffff 0 0x8005 0xffff_ffff_ffff_ffff ∷
    line 0xde 7 4 0xffff_fffa 5 0 0xffff_ffff_ffff_ffff 6 0 ∷
    line 0xde 8 5 3 5 3 3 9 3 ∷
    line 0xde 9 6 0xffff_fffc 5 0x8000_0000_0000_0000 0x7fff_ffff_ffff_ffff 6 0x8000_0000_0000_0000 ∷
    line 0xde 0 9 0x7fff 5 0x1_7fff_ffff 0x1_8000_0000 6 0x1_7fff_ffff ∷
    line 0xde 1 10 0xffff_fffa 5 0x2_0000_0005 0x1_0000_0005 0 0x2_0000_0005 ∷
    line 0xde 2 0 3 5 0x4_0000_0006 0x4_0000_0003 6 0x4_0000_0006 ∷
    line 0xde 3 3 0xffff_fffc 5 0x8765_4321_89ab_cdef 0x8765_4321_89ab_cdef 2 0x8765_4321_89ab_cdef ∷
    []

pub tested : map given table ≡ map expected table
unfolding table kind_of alu_value neg_value mul_value shift_value le_value reversed be_value met
tested = refl
