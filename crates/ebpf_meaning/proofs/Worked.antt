-- Worked steps: one table under one theorem about the definitions, which antt computes. Each is a whole step, from the opcode to all eleven
-- registers and the next slot.
use mathlib.Core.Path.{◌≡◌, refl}
use mathlib.Core.List.{List, [], ◌∷◌, ◌++◌, map}
use Prim.Native.Nat.{ℕ}
use Rattle.ebpf.specs.Opcode.{kind_of}
use Rattle.ebpf.specs.declared.insn.Insn.{Insn}
use Rattle.ebpf.specs.declared.kind.Lookup.{Lookup}
use Rattle.ebpf.specs.declared.kind.Lookup.TheVariants.{Known, Unimplemented, Unknown}
use Rattle.ebpf_meaning.specs.Values.{alu_value, neg_value, mul_value, shift_value, le_value, reversed, be_value, met}
use Rattle.ebpf_meaning.specs.Step.{act, regs_behind, next_slot}

-- slot 5 has this opcode, off and imm, its dst is r1 and its src r2: what these hold before it; what r1 holds behind it, and the next slot
pub record Line : Type 0 where
  pub opc : ℕ
  pub off : ℕ
  pub imm : ℕ
  pub dst : ℕ
  pub src : ℕ
  pub value : ℕ
  pub next : ℕ

abbrev registers : (r1 r2 : ℕ) → List ℕ
registers r1 r2 = 100 ∷ r1 ∷ r2 ∷ 103 ∷ 104 ∷ 105 ∷ 106 ∷ 107 ∷ 108 ∷ 109 ∷ 110 ∷ []

-- the next slot and the registers behind slot 5
abbrev pub stepped : Lookup → Insn → List ℕ → List ℕ
stepped (Known k) i r = let a = act k i r in next_slot 5 a ∷ regs_behind i r a
stepped Unimplemented i r = []
stepped Unknown i r = []

abbrev given : Line → List ℕ
given l = stepped (kind_of l.opc) (record { opc = l.opc; dst = 1; src = 2; off = l.off; imm = l.imm }) (registers l.dst l.src)

abbrev expected : Line → List ℕ
expected l = l.next ∷ registers l.value l.src

-- arithmetic, moves and swaps; by imm, and by src, where imm is 5 and is not to be looked at
abbrev by_imm : (opc dst imm value : ℕ) → Line
by_imm o a i v = record { opc = o; off = 0; imm = i; dst = a; src = 102; value = v; next = 6 }

abbrev by_src : (opc dst src value : ℕ) → Line
by_src o a b v = record { opc = o; off = 0; imm = 5; dst = a; src = b; value = v; next = 6 }

-- a jump by off that leaves the registers as they are
abbrev jumps : (opc off imm dst src next : ℕ) → Line
jumps o x i a b n = record { opc = o; off = x; imm = i; dst = a; src = b; value = a; next = n }

-- a conditional jump by 3 slots, on src: the next slot for -1 and 0, for 0 and -1, for 0 twice, for -1 twice
abbrev tested : (minus_one zero : ℕ) → (opc : ℕ) → (first second third fourth : ℕ) → List Line
tested m z o a b c d = jumps o 3 5 m z a ∷ jumps o 3 5 z m b ∷ jumps o 3 5 z z c ∷ jumps o 3 5 m m d ∷ []

-- at 64 bits, and at 32, where the upper halves would decide otherwise
abbrev wide : (opc first second third fourth : ℕ) → List Line
wide = tested 0xffff_ffff_ffff_ffff 0

abbrev narrow : (opc first second third fourth : ℕ) → List Line
narrow = tested 0x7_ffff_ffff 0x9_0000_0000

pub arithmetic : List Line
arithmetic =
    -- ADD, SUB: they wrap; imm is extended by its sign; at 32 bits the upper half becomes zero
    by_src 0x0f 0xffff_ffff_ffff_ffff 2 1 ∷
    by_src 0x0c 0x1_ffff_ffff 0x5_0000_0002 1 ∷
    by_imm 0x07 0 0xffff_ffff 0xffff_ffff_ffff_ffff ∷
    by_imm 0x04 0x7_0000_0000 0xffff_ffff 0xffff_ffff ∷
    by_src 0x1f 0 1 0xffff_ffff_ffff_ffff ∷
    by_imm 0x17 5 0xffff_ffff 6 ∷
    by_imm 0x14 0x7_0000_0000 1 0xffff_ffff ∷
    -- OR, AND, XOR
    by_imm 0x47 1 0x8000_0000 0xffff_ffff_8000_0001 ∷
    by_imm 0x44 0x3_0000_0001 0x8000_0000 0x8000_0001 ∷
    by_imm 0x57 0x1234_5678_9abc_deff 0xffff_fff0 0x1234_5678_9abc_def0 ∷
    by_src 0x5c 0xffff_ffff_ffff_ffff 0xffff_ffff_0f0f_0f0f 0x0f0f_0f0f ∷
    by_imm 0xa7 0 0xffff_ffff 0xffff_ffff_ffff_ffff ∷
    by_src 0xac 0x1_0000_00ff 0x2_0000_0f0f 0x0ff0 ∷
    -- NEG
    by_imm 0x87 1 0 0xffff_ffff_ffff_ffff ∷
    by_imm 0x87 0 0 0 ∷
    by_imm 0x87 0x8000_0000_0000_0000 0 0x8000_0000_0000_0000 ∷
    by_imm 0x84 0x5_0000_0001 0 0xffff_ffff ∷
    by_imm 0x84 0x5_0000_0000 0 0 ∷
    -- MUL
    by_src 0x2f 0x1_0000_0001 0x1_0000_0001 0x2_0000_0001 ∷
    by_src 0x2c 0x1_0001 0x1_0001 0x2_0001 ∷
    by_imm 0x27 7 0xffff_ffff 0xffff_ffff_ffff_fff9 ∷
    by_imm 0x24 7 0xffff_ffff 0xffff_fff9 ∷
    -- DIV, and by zero, at 32 bits by a src whose lower half is zero
    by_src 0x3f 0xffff_ffff_ffff_ffff 2 0x7fff_ffff_ffff_ffff ∷
    by_src 0x3c 0x9_0000_0007 0x5_0000_0002 3 ∷
    by_imm 0x37 0xffff_ffff_ffff_ffff 0xffff_ffff 1 ∷
    by_imm 0x37 0xffff_ffff 0xffff_ffff 0 ∷
    by_imm 0x34 0xffff_ffff 0xffff_ffff 1 ∷
    by_src 0x3f 7 0 0 ∷
    by_src 0x3c 0x1_0000_0007 0x9_0000_0000 0 ∷
    by_imm 0x37 7 0 0 ∷
    by_imm 0x34 7 0 0 ∷
    -- MOD
    by_src 0x9f 0xffff_ffff_ffff_ffff 16 15 ∷
    by_src 0x9c 0x1_0000_0007 0x5_0000_0004 3 ∷
    by_imm 0x97 0xffff_ffff_ffff_ffff 0xffff_ffff 0 ∷
    by_imm 0x94 0x1_0000_0007 4 3 ∷
    -- MOD by zero: at 64 bits dst stays, at 32 bits its upper half becomes zero
    by_src 0x9f 0x1_0000_0007 0 0x1_0000_0007 ∷
    by_imm 0x97 0x1_0000_0007 0 0x1_0000_0007 ∷
    by_src 0x9c 0x1_0000_0007 0 7 ∷
    by_src 0x9c 0x1_0000_0007 0x9_0000_0000 7 ∷
    by_imm 0x94 0x1_0000_0007 0 7 ∷
    -- LSH, RSH, ARSH: the count is masked; ARSH fills with the sign, of the lower half at 32 bits
    by_imm 0x67 1 65 2 ∷
    by_src 0x6f 1 64 1 ∷
    by_src 0x6f 0x8000_0000_0000_0001 1 2 ∷
    by_imm 0x64 1 33 2 ∷
    by_src 0x6c 0x1_8000_0001 1 2 ∷
    by_src 0x7f 0x10 68 1 ∷
    by_src 0x7c 0x1_8000_0000 31 1 ∷
    by_imm 0x74 0x1_0000_0010 32 0x10 ∷
    by_imm 0xc7 0x8000_0000_0000_0000 4 0xf800_0000_0000_0000 ∷
    by_imm 0xc7 0x8000_0000 4 0x0800_0000 ∷
    by_src 0xcf 0xffff_ffff_ffff_ffff 0xffff_ffff_ffff_ffff 0xffff_ffff_ffff_ffff ∷
    by_imm 0xc4 0x8000_0000 4 0xf800_0000 ∷
    by_imm 0xc4 0x1_4000_0000 4 0x0400_0000 ∷
    by_src 0xcc 0xffff_ffff_8000_0000 32 0x8000_0000 ∷
    -- MOV
    by_imm 0xb7 1 0xffff_fffe 0xffff_ffff_ffff_fffe ∷
    by_imm 0xb4 1 0xffff_fffe 0xffff_fffe ∷
    by_src 0xbf 1 0x1_0000_0002 0x1_0000_0002 ∷
    by_src 0xbc 1 0x1_0000_0002 2 ∷ []

-- LE and BE of 16, 32 and 64 bits
pub swaps : List Line
swaps =
    by_imm 0xd4 0x0102_0304_0506_0708 16 0x0708 ∷
    by_imm 0xd4 0x0102_0304_0506_0708 32 0x0506_0708 ∷
    by_imm 0xd4 0x0102_0304_0506_0708 64 0x0102_0304_0506_0708 ∷
    by_imm 0xdc 0x0102_0304_0506_0708 16 0x0807 ∷
    by_imm 0xdc 0x0102_0304_0506_0708 32 0x0807_0605 ∷
    by_imm 0xdc 0x0102_0304_0506_0708 64 0x0807_0605_0403_0201 ∷ []

-- taken, the next slot is 9, and else 6
pub conditions : List Line
conditions =
    -- JEQ, JNE, JSET
    wide 0x1d 6 6 9 9
    ++ narrow 0x1e 6 6 9 9
    ++ wide 0x5d 9 9 6 6
    ++ narrow 0x5e 9 9 6 6
    ++ wide 0x4d 6 6 6 9
    ++ narrow 0x4e 6 6 6 9
    -- unsigned: JGT, JGE, JLT, JLE
    ++ wide 0x2d 9 6 6 6
    ++ narrow 0x2e 9 6 6 6
    ++ wide 0x3d 9 6 9 9
    ++ narrow 0x3e 9 6 9 9
    ++ wide 0xad 6 9 6 6
    ++ narrow 0xae 6 9 6 6
    ++ wide 0xbd 6 9 9 9
    ++ narrow 0xbe 6 9 9 9
    -- signed: JSGT, JSGE, JSLT, JSLE
    ++ wide 0x6d 6 9 6 6
    ++ narrow 0x6e 6 9 6 6
    ++ wide 0x7d 6 9 9 9
    ++ narrow 0x7e 6 9 9 9
    ++ wide 0xcd 9 6 6 6
    ++ narrow 0xce 9 6 6 6
    ++ wide 0xdd 9 6 9 9
    ++ narrow 0xde 9 6 9 9

pub jumping : List Line
jumping =
    -- JSET on bits that are both set, and on none
    jumps 0x4d 3 5 6 3 9 ∷
    jumps 0x4d 3 5 4 3 6 ∷
    -- by imm, extended by its sign: JEQ -1 at 64 bits and at 32, JLE -1, JSGT -1
    jumps 0x15 3 0xffff_ffff 0xffff_ffff_ffff_ffff 102 9 ∷
    jumps 0x15 3 0xffff_ffff 0xffff_ffff 102 6 ∷
    jumps 0x16 3 0xffff_ffff 0x7_ffff_ffff 102 9 ∷
    jumps 0xb5 3 0xffff_ffff 0x8000_0000_0000_0000 102 9 ∷
    jumps 0x65 3 0xffff_ffff 0 102 9 ∷
    -- back by 2, taken and not
    jumps 0x15 0xffff_fffe 7 7 102 4 ∷
    jumps 0x15 0xffff_fffe 7 8 102 6 ∷
    -- JA: on by 3, by none, to itself, to slot 0
    jumps 0x05 3 0 7 102 9 ∷
    jumps 0x05 0 0 7 102 6 ∷
    jumps 0x05 0xffff_ffff 0 7 102 5 ∷
    jumps 0x05 0xffff_fffa 0 7 102 0 ∷ []

pub table : List Line
table = arithmetic ++ (swaps ++ (conditions ++ jumping))

pub worked : map given table ≡ map expected table
unfolding arithmetic swaps conditions jumping table kind_of alu_value neg_value mul_value shift_value le_value reversed be_value met
worked = refl
