-- What is true of every step: modulo by zero, at both widths; that imm does not count by register; that what is written at a width is a number of
-- that width, so that at 32 bits the upper half is cleared; that the registers stay eleven numbers of 64 bits; how many opcodes act.
use mathlib.Core.Path.{◌≡◌, refl, ◌∙◌}
use mathlib.Core.Bool.{Bool, true, false}
use mathlib.Core.List.{List, [], ◌∷◌, sum}
use Prim.Native.Nat.{ℕ, zero, suc, ◌+◌, ◌*◌, ◌-◌, ◌/◌, ◌%◌, ◌^◌, ◌≤◌, ◌<◌}
use native.Mathlib.Omega.{arith}
use native.Mathlib.Nat.{div-le_self, mod-le, mod-eq_of_lt, lt_of_lt_of_le, mul-le-mul_right, pow-suc, pow-le-pow_right}
use lib.Bits.{and_le_l, or_lt, xor_lt}
use lib.Dec.{ltb, eqb}
use lib.ListN.{get_or, set, length-set}
use lib.Pow.{pow_mono, shr_lt, shr_le}
use lib.Seq.{set-get_or}
use Rattle.base.specs.Pick.{pick}
use Rattle.base.specs.Table.{values}
use Rattle.base.specs.Widths.{bits}
use Rattle.base.specs.declared.Width.{Width}
use Rattle.base.specs.declared.Width.TheVariants.{W32, W64}
use Rattle.ebpf.specs.Opcode.{kind_of}
use Rattle.ebpf.specs.declared.insn.Insn.{Insn}
use Rattle.ebpf.specs.declared.kind.Source.{Source}
use Rattle.ebpf.specs.declared.kind.Source.TheVariants.{Imm, Reg}
use Rattle.ebpf.specs.declared.kind.AluOp.{AluOp}
use Rattle.ebpf.specs.declared.kind.AluOp.TheVariants.{Add, Sub, Or, And, Xor}
use Rattle.ebpf.specs.declared.kind.ShiftOp.{ShiftOp}
use Rattle.ebpf.specs.declared.kind.ShiftOp.TheVariants.{Lsh, Rsh, Arsh}
use Rattle.ebpf.specs.declared.kind.MulOp.{MulOp}
use Rattle.ebpf.specs.declared.kind.MulOp.TheVariants.{Mul, Div, Mod}
use Rattle.ebpf.specs.declared.kind.Condition.{Condition}
use Rattle.ebpf.specs.declared.kind.Lookup.{Lookup}
use Rattle.ebpf.specs.declared.kind.Lookup.TheVariants.{Known, Unimplemented, Unknown}
use Rattle.ebpf.specs.declared.kind.Kind.{Kind}
use Rattle.ebpf.specs.declared.kind.Kind.TheVariants.{LdAbs, LdInd, LdDwImm, LdReg, StImm, StReg, Alu, Shift, Neg, MulDivMod, Mov, Le, Be, Ja, Jump, Call, Exit}
use Rattle.ebpf_meaning.specs.Values.{cut, immediate, alu_value, neg_value, mul_value, negative, shift_value, le_value, reversed, be_value}
use Rattle.ebpf_meaning.specs.Step.{Registers, dst_of, src_of, Act, writes, branches, other, act, regs_behind}

-- Modulo by zero: at 32 bits dst becomes its own lower half, at 64 bits nothing changes.
module _ (s : Source) (i : Insn) (r : List ℕ) where
  pub mod32-by-zero : src_of W32 s i r ≡ 0 → act (MulDivMod Mod W32 s) i r ≡ writes (get_or r i.dst 0 % 2 ^ 32)
  unfolding mul_value
  mod32-by-zero e = rw e

  pub mod64-by-zero : Registers r → src_of W64 s i r ≡ 0 → regs_behind i r (act (MulDivMod Mod W64 s) i r) ≡ r
  unfolding mul_value
  mod64-by-zero p e = rw (e, mod-eq_of_lt (p.words i.dst)) (set-get_or r i.dst 0)

-- By register imm does not count, in MUL, DIV and MOD as in all else.
abbrev with_imm : ℕ → Insn → Insn
with_imm x i = record { opc = i.opc; dst = i.dst; src = i.src; off = i.off; imm = x }

module _ (i : Insn) (r : List ℕ) (x : ℕ) where
  pub mul-by-register : (o : MulOp) (w : Width) → act (MulDivMod o w Reg) (with_imm x i) r ≡ act (MulDivMod o w Reg) i r
  mul-by-register o w = refl

  pub alu-by-register : (o : AluOp) (w : Width) → act (Alu o w Reg) (with_imm x i) r ≡ act (Alu o w Reg) i r
  alu-by-register o w = refl

  pub shift-by-register : (o : ShiftOp) (w : Width) → act (Shift o w Reg) (with_imm x i) r ≡ act (Shift o w Reg) i r
  shift-by-register o w = refl

  pub mov-by-register : (w : Width) → act (Mov w Reg) (with_imm x i) r ≡ act (Mov w Reg) i r
  mov-by-register w = refl

  pub jump-by-register : (c : Condition) (w : Width) → act (Jump c w Reg) (with_imm x i) r ≡ act (Jump c w Reg) i r
  jump-by-register c w = refl

-- Operands are numbers of their width.
pub cut-lt : (w : Width) (x : ℕ) → cut w x < 2 ^ bits w
cut-lt W32 x = omega arith
cut-lt W64 x = omega arith

pub immediate-lt : (w : Width) (x : ℕ) → x < 2 ^ 32 → immediate w x < 2 ^ bits w
immediate-lt w x h = by w (ltb x (2 ^ 31))
  where
    by : (w : Width) (b : Bool) → pick b x (x + (2 ^ bits w - 2 ^ 32)) < 2 ^ bits w
    by W32 true = omega arith
    by W32 false = omega arith
    by W64 true = omega arith
    by W64 false = omega arith

src-lt : (w : Width) (s : Source) (i : Insn) (r : List ℕ) → i.imm < 2 ^ 32 → src_of w s i r < 2 ^ bits w
src-lt w Imm i r h = immediate-lt w i.imm h
src-lt w Reg i r h = cut-lt w (get_or r i.src 0)

-- So are results.
alu_lt : (o : AluOp) (w : Width) (a b : ℕ) → a < 2 ^ bits w → b < 2 ^ bits w → alu_value o w a b < 2 ^ bits w
unfolding alu_value
alu_lt Add w a b h g = cut-lt w _
alu_lt Sub w a b h g = cut-lt w _
alu_lt Or w a b h g = or_lt (bits w) a b h g
alu_lt And w a b h g = omega (arith, and_le_l a b)
alu_lt Xor w a b h g = xor_lt (bits w) a b h g

pick-lt : (t : Bool) {x y n : ℕ} → x < n → y < n → pick t x y < n
pick-lt true h g = h
pick-lt false h g = g

pub mul-lt : (o : MulOp) (w : Width) (a b : ℕ) → a < 2 ^ bits w → mul_value o w a b < 2 ^ bits w
unfolding mul_value
mul-lt Mul w a b h = cut-lt w _
mul-lt Div w a b h = pick-lt (eqb b 0) (omega arith) (omega (arith, div-le_self a b))
mul-lt Mod w a b h = pick-lt (eqb b 0) h (omega (arith, mod-le a b))

shift-lt : (o : ShiftOp) (w : Width) (a b : ℕ) → a < 2 ^ bits w → shift_value o w a b < 2 ^ bits w
unfolding shift_value
shift-lt Lsh w a b h = cut-lt w _
shift-lt Rsh w a b h = omega (arith, shr_le a (b % bits w))
shift-lt Arsh w a b h = by (negative w a)
  where
    count : (w : Width) → b % bits w ≤ bits w
    count W32 = omega arith
    count W64 = omega arith

    filled : (n c : ℕ) → c ≤ n → a < 2 ^ n → a / 2 ^ c + (2 ^ n - 2 ^ (n - c)) < 2 ^ n
    filled n c g l =
        let e : n - c + c ≡ n = omega arith in
        let s : a / 2 ^ c < 2 ^ (n - c) = shr_lt (n - c) c (rw e l) in
        let m : 2 ^ (n - c) ≤ 2 ^ n = pow_mono (omega arith) in
        omega arith

    by : (t : Bool) → a / 2 ^ (b % bits w) + pick t (2 ^ bits w - 2 ^ (bits w - b % bits w)) 0 < 2 ^ bits w
    by true = filled (bits w) (b % bits w) (count w) h
    by false = omega (arith, shr_le a (b % bits w))

reversed-lt : (n x : ℕ) → reversed n x < 256 ^ n
unfolding reversed
reversed-lt zero x = omega arith
reversed-lt (suc n) x =
    let m : x % 256 * 256 ^ n ≤ 255 * 256 ^ n = mul-le-mul_right (256 ^ n) (omega arith) in
    omega (arith, m, reversed-lt n (x / 256), pow-suc 256 n)

be-lt : (n a : ℕ) → n ≤ 64 → be_value n a < 2 ^ 64
unfolding be_value
be-lt n a h = let m : n / 8 ≤ 8 = omega arith in lt_of_lt_of_le (reversed-lt (n / 8) a) (pow-le-pow_right {n = 256} (omega arith) m)

le-lt : (n a : ℕ) → a < 2 ^ 64 → le_value n a < 2 ^ 64
unfolding le_value
le-lt n a h = omega (arith, mod-le a (2 ^ n))

neg-lt : (w : Width) (a : ℕ) → neg_value w a < 2 ^ bits w
unfolding neg_value
neg-lt w a = cut-lt w _

-- the width at which a kind writes, where it has one
abbrev pub width_of : Kind → Width
width_of (LdAbs z) = W64
width_of (LdInd z) = W64
width_of LdDwImm = W64
width_of (LdReg z) = W64
width_of (StImm z) = W64
width_of (StReg z) = W64
width_of (Alu o w s) = w
width_of (Shift o w s) = w
width_of (Neg w) = w
width_of (MulDivMod o w s) = w
width_of (Mov w s) = w
width_of Le = W64
width_of Be = W64
width_of Ja = W64
width_of (Jump c w s) = W64
width_of Call = W64
width_of Exit = W64

abbrev pub Below : Width → Act → Type 0
Below w (writes v) = v < 2 ^ bits w
Below w (branches t x) = Unit {0}
Below w other = Unit {0}

-- a swap being of 64 bits at most
pub result-below : (k : Kind) (i : Insn) (r : List ℕ) → i.imm < 2 ^ 32 → (k ≡ Be → i.imm ≤ 64) → Below (width_of k) (act k i r)
result-below (LdAbs z) i r h g = tt
result-below (LdInd z) i r h g = tt
result-below LdDwImm i r h g = tt
result-below (LdReg z) i r h g = tt
result-below (StImm z) i r h g = tt
result-below (StReg z) i r h g = tt
result-below (Alu o w s) i r h g = alu_lt o w (dst_of w i r) (src_of w s i r) (cut-lt w _) (src-lt w s i r h)
result-below (Shift o w s) i r h g = shift-lt o w (dst_of w i r) (src_of w s i r) (cut-lt w _)
result-below (Neg w) i r h g = neg-lt w (dst_of w i r)
result-below (MulDivMod o w s) i r h g = mul-lt o w (dst_of w i r) (src_of w s i r) (cut-lt w _)
result-below (Mov w s) i r h g = src-lt w s i r h
result-below Le i r h g = le-lt i.imm (dst_of W64 i r) (cut-lt W64 _)
result-below Be i r h g = be-lt i.imm (dst_of W64 i r) (g refl)
result-below Ja i r h g = tt
result-below (Jump c w s) i r h g = tt
result-below Call i r h g = tt
result-below Exit i r h g = tt

-- So the registers stay eleven numbers of 64 bits.
set_words : (r : List ℕ) (d v : ℕ) → v < 2 ^ 64 → ((k : ℕ) → get_or r k 0 < 2 ^ 64) → (k : ℕ) → get_or (set r d v) k 0 < 2 ^ 64
set_words [] d v h g k = g k
set_words (x ∷ r) zero v h g zero = h
set_words (x ∷ r) zero v h g (suc k) = g (suc k)
set_words (x ∷ r) (suc d) v h g zero = g zero
set_words (x ∷ r) (suc d) v h g (suc k) = set_words r d v h (λ j. g (suc j)) k

word : (w : Width) (n : ℕ) → n < 2 ^ bits w → n < 2 ^ 64
word W32 n h = omega arith
word W64 n h = h

pub stay-registers : (k : Kind) (i : Insn) (r : List ℕ) → i.imm < 2 ^ 32 → (k ≡ Be → i.imm ≤ 64) → Registers r
    → Registers (regs_behind i r (act k i r))
stay-registers k i r h g p = by (width_of k) (act k i r) (result-below k i r h g)
  where
    by : (w : Width) (a : Act) → Below w a → Registers (regs_behind i r a)
    by w (writes v) b = record { eleven = length-set r i.dst v ∙ p.eleven; words = set_words r i.dst v (word w v b) p.words }
    by w (branches t x) b = p
    by w other b = p

-- Of the 120 opcodes that are known 52 write dst, 45 jump, and 23 are left to others.
abbrev acts : Lookup → (writing branching others : ℕ) → ℕ
acts (Known k) a b c = by (act k (record { opc = 0; dst = 0; src = 0; off = 0; imm = 0 }) [])
  where
    by : Act → ℕ
    by (writes v) = a
    by (branches t x) = b
    by other = c
acts Unimplemented a b c = 0
acts Unknown a b c = 0

abbrev counted : (writing branching others : ℕ) → ℕ
counted a b c = sum ◌+◌ 0 (values (λ (o : ℕ). acts (kind_of o) a b c) 0 256)

pub counts : (counted 1 0 0 ≡ 52) × (counted 0 1 0 ≡ 45) × (counted 0 0 1 ≡ 23)
unfolding kind_of sum
counts = (refl, refl, refl)
