-- The numbers that the handlers write for what the definitions name, opcodes and immediates.
use mathlib.Core.Path.{◌≡◌, refl, ap}
use mathlib.Core.Bool.{Bool, true, false}
use mathlib.Core.List.{List, [], ◌∷◌, ◌++◌}
use Prim.Native.Nat.{ℕ, ◌+◌, ◌*◌, ◌/◌, ◌%◌, ◌^◌, ◌<◌}
use native.Mathlib.Omega.{arith}
use lib.Bits.{bit_and}
use lib.Dec.{eqb}
use borrow.Author.Tests.{ne_eqb}
use Rattle.base.proofs.Table.{agree}
use Rattle.base.specs.Pick.{pick}
use Rattle.base.specs.declared.Size.{Size}
use Rattle.base.specs.declared.Size.TheVariants.{S8, S16, S32, S64}
use Rattle.base.specs.declared.Width.{Width}
use Rattle.base.specs.declared.Width.TheVariants.{W32, W64}
use Rattle.ebpf.specs.Kinds.{condition_of}
use Rattle.ebpf.specs.Opcode.{kind_of}
use Rattle.ebpf.specs.declared.insn.Insn.{Insn}
use Rattle.ebpf.specs.declared.kind.Source.{Source}
use Rattle.ebpf.specs.declared.kind.Source.TheVariants.{Imm, Reg}
use Rattle.ebpf.specs.declared.kind.Lookup.{Lookup}
use Rattle.ebpf.specs.declared.kind.Lookup.TheVariants.{Known, Unimplemented, Unknown}
use Rattle.ebpf.specs.declared.kind.Kind.TheVariants.{LdAbs, LdInd, LdDwImm, LdReg, StImm, StReg, Alu, Shift, Neg, MulDivMod, Mov, Le, Be, Ja, Jump, Call, Exit}
use Rattle.ebpf.specs.declared.kind.AluOp.{AluOp}
use Rattle.ebpf.specs.declared.kind.AluOp.TheVariants.{Add, Sub, Or, And, Xor}
use Rattle.x86.specs.Instr.{Plain, op, imm_bits, store_imm, TEST, CMP}
use Rattle.x86.specs.Encode.{alu_imm_opcode, imm_bytes, encode_plain, prefix66, rex, wide_size, store_imm_opcode, memory}
use Rattle.jit.specs.declared.Mode.{Mode}
use Rattle.jit.specs.Compact.{compact_off}
use Rattle.jit.specs.Slots.{reg_of, alu_of, test_of, mov_code}
use Rattle.jit.proofs.Constants.{loaded-half}

-- the five operations have one opcode with an immediate
pub alu_imm : (o : AluOp) → alu_imm_opcode (alu_of o) ≡ 0x81
alu_imm Add = refl
alu_imm Sub = refl
alu_imm Or = refl
alu_imm And = refl
alu_imm Xor = refl

-- of an immediate as much is stored as the size takes
pub trimmed : (z : Size) (base disp imm : ℕ) → imm < 2 ^ 32 → encode_plain (store_imm z base disp imm) ≡ encode_plain (store_imm z base disp (imm % 2 ^ imm_bits z))
trimmed z base disp imm h =
    ap (λ (l : List ℕ). prefix66 z ++ (rex (wide_size z) 0 base ++ (store_imm_opcode z ∷ (memory 0 base disp ++ l)))) (by z)
  where
    by : (z : Size) → imm_bytes z imm ≡ imm_bytes z (imm % 2 ^ imm_bits z)
    by S8 = ap (λ (x : ℕ). x ∷ []) (omega arith)
    by S16 =
        let a : imm % 256 ≡ imm % 65536 % 256 = omega arith in
        let q : imm / 256 ≡ 256 * (imm / 65536) + imm % 65536 / 256 = omega arith in
        let b : imm / 256 % 256 ≡ imm % 65536 / 256 % 256 = rw q (omega arith) in
        rw (a, b)
    by S32 = let a : imm % 4294967296 ≡ imm = omega arith in rw a
    by S64 = let a : imm % 4294967296 ≡ imm = omega arith in rw a

-- of the conditions JSET alone tests
pub test-is : (o : ℕ) → o < 256 → test_of (condition_of o) ≡ pick (eqb (bit_and o 0xf0) 0x40) TEST CMP
test-is o h = agree (λ o. test_of (condition_of o)) (λ o. pick (eqb (bit_and o 0xf0) 0x40) TEST CMP) 256 refl o h

-- MOV64_IMM has one opcode, and no other MOV loads a constant
abbrev is_mov64_imm : Lookup → Bool
is_mov64_imm Unknown = false
is_mov64_imm Unimplemented = false
is_mov64_imm (Known (LdAbs z)) = false
is_mov64_imm (Known (LdInd z)) = false
is_mov64_imm (Known LdDwImm) = false
is_mov64_imm (Known (LdReg z)) = false
is_mov64_imm (Known (StImm z)) = false
is_mov64_imm (Known (StReg z)) = false
is_mov64_imm (Known (Alu o w s)) = false
is_mov64_imm (Known (Shift o w s)) = false
is_mov64_imm (Known (Neg w)) = false
is_mov64_imm (Known (MulDivMod o w s)) = false
is_mov64_imm (Known (Mov W32 s)) = false
is_mov64_imm (Known (Mov W64 Imm)) = true
is_mov64_imm (Known (Mov W64 Reg)) = false
is_mov64_imm (Known Le) = false
is_mov64_imm (Known Be) = false
is_mov64_imm (Known Ja) = false
is_mov64_imm (Known (Jump c w s)) = false
is_mov64_imm (Known Call) = false
is_mov64_imm (Known Exit) = false

one-opcode : (o : ℕ) → o < 256 → is_mov64_imm (kind_of o) ≡ eqb o 0xb7
unfolding kind_of
one-opcode o h = agree (λ o. is_mov64_imm (kind_of o)) (λ o. eqb o 0xb7) 256 refl o h

pub other-mov : (m : Mode) (o : ℕ) (w : Width) (s : Source) (i : Insn) → o < 256 → ¬ (o ≡ 0xb7) → kind_of o ≡ Known (Mov w s)
    → mov_code (compact_off m) w s i ≡ mov_code m w s i
other-mov m o W64 Imm i h n e =
    let is : is_mov64_imm (kind_of o) ≡ true = rw e in
    let z : ◌≡◌ {A = ℕ} 0 1 = cc (one-opcode o h, ne_eqb o 0xb7 n) in absurd (omega arith)
other-mov m o W32 Imm i h n e = ap (λ (p : Plain). op p ∷ []) (loaded-half m (reg_of i.dst) i.imm)
other-mov m o w Reg i h n e = refl
