-- What the processor computes is what RFC 9669 says, number by number: arithmetic, counts, operands that are cut, the eleven conditions by the
-- flags of their comparison, byte swaps.
use mathlib.Core.Path.{◌≡◌, refl, ap, sym, ◌∙◌}
use mathlib.Core.Bool.{Bool, true, false, not, ◌&&◌, ◌||◌}
use Prim.Native.Nat.{ℕ, zero, suc, ◌+◌, ◌*◌, ◌-◌, ◌/◌, ◌%◌, ◌^◌, ◌<◌, ◌≤◌}
use native.Mathlib.Omega.{arith}
use native.Mathlib.Nat.{mod-mod}
use lib.Pow.{field, mod-mod-pow}
use lib.Dec.{leb, ltb, eqb, eqb→eq, leb→le}
use borrow.Author.Tests.{ltb-true, ltb-false}
use Rattle.base.specs.Pick.{pick}
use Rattle.base.proofs.Tests.{true-T, leb-true, leb-false, leb_no, eqb-true, eqb-false}
use Rattle.base.specs.declared.Width.{Width}
use Rattle.base.specs.declared.Width.TheVariants.{W32, W64}
use Rattle.ebpf.specs.declared.kind.AluOp.{AluOp}
use Rattle.ebpf.specs.declared.kind.AluOp.TheVariants.{Add, Sub, Or, And, Xor}
use Rattle.ebpf.specs.declared.kind.ShiftOp.{ShiftOp}
use Rattle.ebpf.specs.declared.kind.ShiftOp.TheVariants.{Lsh, Rsh, Arsh}
use Rattle.ebpf.specs.declared.kind.Condition.{Condition}
use Rattle.ebpf.specs.declared.kind.Condition.TheVariants.{Jeq, Jgt, Jge, Jset, Jne, Jsgt, Jsge, Jlt, Jle, Jslt, Jsle}
use Rattle.jit.specs.Slots.{alu_of, shift_of, cond_of, test_of}
use Rattle.x86_machine.specs.Machine.{bits, result, shifted, counted, swapped, rolled, kept_above16, negative, same, holds, alu_status, over_difference, Status}
use Rattle.ebpf_meaning.specs.Values.{immediate, alu_value, shift_value, reversed, be_value, signed, met}

pub alu-value : (o : AluOp) (w : Width) (a b : ℕ) → result (alu_of o) w a b ≡ alu_value o w a b
unfolding result alu_value
alu-value Add w a b = refl
alu-value Sub w a b = refl
alu-value Or w a b = refl
alu-value And w a b = refl
alu-value Xor w a b = refl

-- a count, of which the processor takes a byte and then the RFC's bits
pub shift-value : (o : ShiftOp) (w : Width) (a c b : ℕ) → counted w c ≡ b % bits w → shifted (shift_of o) w a (counted w c) ≡ shift_value o w a b
unfolding shifted shift_value
shift-value Lsh w a c b e = rw e
shift-value Rsh w a c b e = rw e
shift-value Arsh w a c b e = rw e

pub count-reg : (w : Width) (x : ℕ) → counted w (x % 2 ^ 64 % 2 ^ 8) ≡ x % 2 ^ bits w % bits w
count-reg W32 x = omega arith
count-reg W64 x = omega arith

pub count-imm : (w : Width) (x : ℕ) → counted w (x % 256) ≡ immediate w x % bits w
count-imm w x = by w (ltb x (2 ^ 31)) refl
  where
    by : (w : Width) (t : Bool) → ltb x (2 ^ 31) ≡ t → counted w (x % 256) ≡ pick t x (x + (2 ^ bits w - 2 ^ 32)) % bits w
    by W32 true e = omega arith
    by W32 false e = omega arith
    by W64 true e = omega arith
    by W64 false e = omega arith

-- a number that was brought over at 64 bits, cut to the width
pub cut-64 : (w : Width) (x : ℕ) → x % 2 ^ 64 % 2 ^ bits w ≡ x % 2 ^ bits w
cut-64 W32 x = omega arith
cut-64 W64 x = omega arith

pub cut_imm : (w : Width) (x : ℕ) → x < 2 ^ 32 → immediate W64 x % 2 ^ bits w ≡ immediate w x
cut_imm w x h = by w (ltb x (2 ^ 31)) refl
  where
    by : (w : Width) (t : Bool) → ltb x (2 ^ 31) ≡ t → pick t x (x + (2 ^ 64 - 2 ^ 32)) % 2 ^ bits w ≡ pick t x (x + (2 ^ bits w - 2 ^ 32))
    by W32 true e = omega arith
    by W32 false e = omega arith
    by W64 true e = omega (arith, ltb-true x (2 ^ 31) e)
    by W64 false e = omega arith

pub mod-zero : (w : Width) → zero % 2 ^ bits w ≡ 0
mod-zero W32 = refl
mod-zero W64 = refl

pub lt-word : (w : Width) (x : ℕ) → x < 2 ^ bits w → x < 2 ^ 64
lt-word W32 x h = omega arith
lt-word W64 x h = h

-- Tests and orders.
lt-or : (x y : ℕ) → not (ltb x y) ≡ leb y x
lt-or x y = by (leb y x) refl
  where
    by : (t : Bool) → leb y x ≡ t → not (ltb x y) ≡ t
    by true e = ap not (leb-false (suc x) y (let h = leb→le y x (true-T _ e) in omega arith))
    by false e = ap not (leb-true (suc x) y (let h = leb_no y x e in omega arith))

eqb-as : (x y a b : ℕ) → (x ≡ y → a ≡ b) → (a ≡ b → x ≡ y) → eqb x y ≡ eqb a b
eqb-as x y a b f g = by (eqb a b) refl
  where
    by : (t : Bool) → eqb a b ≡ t → eqb x y ≡ t
    by true e = eqb-true x y (g (eqb→eq a b (true-T _ e)))
    by false e = eqb-false x y (λ z. let q : true ≡ false = sym (eqb-true a b (f z)) ∙ e in let n : ◌≡◌ {A = ℕ} 0 1 = cc in omega arith)

-- x ≤ y is x = y or x < y
le-or : (x y : ℕ) → (ltb x y || eqb x y) ≡ leb x y
le-or x y = by (ltb x y) (leb x y) refl refl
  where
    by : (s t : Bool) → ltb x y ≡ s → leb x y ≡ t → (s || eqb x y) ≡ t
    by true true p q = refl
    by true false p q = let h = leb_no x y q in absurd (omega (arith, ltb-true x y p))
    by false true p q = let h = leb→le x y (true-T _ q) in eqb-true x y (omega (arith, ltb-false x y p))
    by false false p q = eqb-false x y (λ e. let h = leb_no x y q in omega arith)

or_comm : (a b : Bool) → (a || b) ≡ (b || a)
or_comm true true = refl
or_comm true false = refl
or_comm false true = refl
or_comm false false = refl

not-not : (a : Bool) → not (not a) ≡ a
not-not true = refl
not-not false = refl

-- a sign, and an order, as a fact
abbrev Sign : Bool → Width → ℕ → Type 0
Sign true w x = 2 ^ bits w ≤ 2 * x
Sign false w x = 2 * x < 2 ^ bits w

sign : (t : Bool) (w : Width) (x : ℕ) → negative w x ≡ t → Sign t w x
sign true w x e = leb→le _ _ (true-T _ e)
sign false w x e = leb_no _ _ e

abbrev Less : Bool → ℕ → ℕ → Type 0
Less true x y = x < y
Less false x y = y ≤ x

less : (t : Bool) (x y : ℕ) → Less t x y → t ≡ ltb x y
less true x y h = sym (leb-true (suc x) y h)
less false x y h = sym (leb-false (suc x) y (omega arith))

abbrev minus : Width → ℕ → ℕ → ℕ
minus w a b = (a + 2 ^ bits w - b) % 2 ^ bits w

-- Conditions. Of a difference: ZF is equality, CF the unsigned order, and SF with OF the signed one.
module _ (a b : ℕ) where
  zero_flag : (w : Width) → a < 2 ^ bits w → b < 2 ^ bits w → eqb (minus w a b) 0 ≡ eqb a b
  zero_flag W32 h g = eqb-as (minus W32 a b) 0 a b (λ z. omega arith) (λ z. omega arith)
  zero_flag W64 h g = eqb-as (minus W64 a b) 0 a b (λ z. omega arith) (λ z. omega arith)

  signed_same : (w : Width) → a < 2 ^ bits w → b < 2 ^ bits w → eqb a b ≡ eqb (signed w a) (signed w b)
  signed_same W32 h g = eqb-as a b (signed W32 a) (signed W32 b) (λ z. omega arith) (λ z. omega arith)
  signed_same W64 h g = eqb-as a b (signed W64 a) (signed W64 b) (λ z. omega arith) (λ z. omega arith)

  -- the three signs
  signs : (w : Width) → a < 2 ^ bits w → b < 2 ^ bits w → (p q s : Bool) → Sign p w a → Sign q w b → Sign s w (minus w a b)
      → Less (not (same s (not (same p q) && not (same p s)))) (signed w a) (signed w b)
  signs W32 h g true true true x y z = omega arith
  signs W32 h g true true false x y z = omega arith
  signs W32 h g true false true x y z = omega arith
  signs W32 h g true false false x y z = omega arith
  signs W32 h g false true true x y z = omega arith
  signs W32 h g false true false x y z = omega arith
  signs W32 h g false false true x y z = omega arith
  signs W32 h g false false false x y z = omega arith
  signs W64 h g true true true x y z = omega arith
  signs W64 h g true true false x y z = omega arith
  signs W64 h g true false true x y z = omega arith
  signs W64 h g true false false x y z = omega arith
  signs W64 h g false true true x y z = omega arith
  signs W64 h g false true false x y z = omega arith
  signs W64 h g false false true x y z = omega arith
  signs W64 h g false false false x y z = omega arith

  signed-less : (w : Width) → a < 2 ^ bits w → b < 2 ^ bits w
      → not (same (negative w (minus w a b)) (over_difference w a b (minus w a b))) ≡ ltb (signed w a) (signed w b)
  signed-less w h g =
      let p = negative w a in
      let q = negative w b in
      let s = negative w (minus w a b) in
      less (not (same s (not (same p q) && not (same p s)))) (signed w a) (signed w b)
      (signs w h g p q s (sign p w a refl) (sign q w b refl) (sign s w (minus w a b) refl))

  -- THE CONDITIONS: what the processor's flags say behind the slot's comparison is what RFC 9669 says.
  module _ (w : Width) (ha : a < 2 ^ bits w) (hb : b < 2 ^ bits w) where
    sleq : (eqb (minus w a b) 0 || not (same (negative w (minus w a b)) (over_difference w a b (minus w a b)))) ≡ leb (signed w a) (signed w b)
    sleq =
        rw (zero_flag w ha hb, signed-less w ha hb, signed_same w ha hb)
        (or_comm (eqb (signed w a) (signed w b)) (ltb (signed w a) (signed w b)) ∙ le-or (signed w a) (signed w b))

    not-leb : (x y : ℕ) → not (leb x y) ≡ ltb y x
    not-leb x y = ap not (sym (lt-or y x)) ∙ not-not (ltb y x)

    pub condition : (c : Condition) (f : Status) → holds (cond_of c) (alu_status (test_of c) w a b f) ≡ met c w a b
    unfolding result met
    condition Jeq f = zero_flag w ha hb
    condition Jgt f = ap not (ap (λ (t : Bool). ltb a b || t) (zero_flag w ha hb) ∙ le-or a b) ∙ not-leb a b
    condition Jge f = lt-or a b
    condition Jset f = refl
    condition Jne f = ap not (zero_flag w ha hb)
    condition Jsgt f = ap not sleq ∙ not-leb (signed w a) (signed w b)
    condition Jsge f = sym (not-not _) ∙ ap not (signed-less w ha hb) ∙ lt-or (signed w a) (signed w b)
    condition Jlt f = refl
    condition Jle f = ap (λ (t : Bool). ltb a b || t) (zero_flag w ha hb) ∙ le-or a b
    condition Jslt f = signed-less w ha hb
    condition Jsle f = sleq

-- Byte swaps.
pub swap-16 : (x : ℕ) → kept_above16 x (rolled x 8) % 2 ^ 32 % 2 ^ 16 ≡ be_value 16 x
unfolding rolled be_value reversed
swap-16 x =
    let low : x * 2 ^ 8 % 2 ^ 16 ≡ x % 256 * 256 = omega arith in
    let high : x % 2 ^ 16 / 2 ^ 8 ≡ x / 256 % 256 = field x 8 8 in
    let cut : (x / 2 ^ 16 * 2 ^ 16 + (x % 256 * 256 + x / 256 % 256)) % 2 ^ 32 % 2 ^ 16 ≡ x % 256 * 256 + x / 256 % 256 =
    kept (x / 2 ^ 16) (x % 256 * 256 + x / 256 % 256) (omega arith) in
    rw (low, high) (cut ∙ omega arith)
  where
    kept : (h v : ℕ) → v < 2 ^ 16 → (h * 2 ^ 16 + v) % 2 ^ 32 % 2 ^ 16 ≡ v
    kept h v l = omega arith

pub swap_32 : (x : ℕ) → swapped 4 (x % 2 ^ 32) ≡ be_value 32 x
unfolding swapped be_value reversed
swap_32 x =
    let one : x % 2 ^ 32 / 256 ≡ x / 256 % 2 ^ 24 = field x 24 8 in
    let two : x / 256 % 2 ^ 24 / 256 ≡ x / 256 / 256 % 2 ^ 16 = field (x / 256) 16 8 in
    let three : x / 256 / 256 % 2 ^ 16 / 256 ≡ x / 256 / 256 / 256 % 256 = field (x / 256 / 256) 8 8 in
    let low : x % 2 ^ 32 % 256 ≡ x % 256 = mod-mod-pow x 24 8 in
    let mid : x / 256 % 2 ^ 24 % 256 ≡ x / 256 % 256 = mod-mod-pow (x / 256) 16 8 in
    let high : x / 256 / 256 % 2 ^ 16 % 256 ≡ x / 256 / 256 % 256 = mod-mod-pow (x / 256 / 256) 8 8 in
    let top : x / 256 / 256 / 256 % 256 % 256 ≡ x / 256 / 256 / 256 % 256 = mod-mod (x / 256 / 256 / 256) 256 in
    rw (one, two, three, low, mid, high, top)

pub swap_64 : (x : ℕ) → swapped 8 x ≡ be_value 64 x
unfolding swapped be_value reversed
swap_64 x = refl
