-- The registers stay numbers of 64 bits: whatever an instruction that raises no fault writes is below 2 ^ 64; and what it computes at 32 bits
-- is below 2 ^ 32, so that writing it clears the upper half.
use mathlib.Core.Path.{◌≡◌, ◌∙◌}
use mathlib.Core.Bool.{Bool, true, false}
use mathlib.Core.List.{List, [], ◌∷◌}
use Prim.Native.Nat.{ℕ, zero, suc, ◌+◌, ◌*◌, ◌-◌, ◌/◌, ◌%◌, ◌^◌, ◌≤◌, ◌<◌}
use native.Mathlib.Omega.{arith}
use native.Mathlib.Nat.{lt_of_le_of_lt, div-lt_iff_lt-mul, mod-lt, mul-le-mul, mul-le-mul_right, mul-mod_left, suc-mul}
use lib.Bits.{and_le_l, or_lt, xor_lt}
use lib.Dec.{leb, ltb, eqb, lit<}
use lib.Pow.{pow_pos, pow_mono, pow-add, shr_lt, shr_le, mod-pow-add}
use Rattle.base.specs.Pick.{pick}
use Rattle.base.proofs.Tests.{leb_no, or-false-l, or-false-r}
use Rattle.base.specs.declared.Width.{Width}
use Rattle.base.specs.declared.Width.TheVariants.{W32, W64}
use Rattle.base.specs.declared.Size.{Size}
use Rattle.base.specs.declared.Size.TheVariants.{S8, S16, S32, S64}
use Rattle.x86.specs.Registers.{RAX}
use Rattle.x86.specs.Instr.{Alu, ADD, OR, AND, SUB, XOR, CMP, MOV, TEST, Shift, SHL, SHR, SAR, Unary, NEG, MUL, DIV, Plain, push, pop, alu, alu_imm, shift_imm}
use Rattle.x86.specs.Instr.{shift_cl, unary, mov_imm, rol16, bswap, load, store, store_imm}
use Rattle.x86.proofs.WellFormed.{WfPlain}
use Rattle.x86_machine.specs.Machine.{Regs, bits, rd, put, puts, Write, Input, extended, negative, result, alu_writes, counted, in_cl, shifted, rolled}
use Rattle.x86_machine.specs.Machine.{swapped, swap_bytes, dividend, divides, size_bits, unary_writes, unary_faults, writes_of, faults_of}

-- what is read at a width
pub rd-lt : (w : Width) (g : Regs) (r : ℕ) → rd w g r < 2 ^ bits w
unfolding rd
rd-lt W32 g r = omega arith
rd-lt W64 g r = omega arith

-- the results of an operation, at its width
result-lt : (o : Alu) (w : Width) (a b : ℕ) → a < 2 ^ bits w → b < 2 ^ bits w → result o w a b < 2 ^ bits w
unfolding result
result-lt ADD W32 a b h g = omega arith
result-lt ADD W64 a b h g = omega arith
result-lt OR w a b h g = or_lt (bits w) a b h g
result-lt AND w a b h g = omega (arith, and_le_l a b)
result-lt SUB W32 a b h g = omega arith
result-lt SUB W64 a b h g = omega arith
result-lt XOR w a b h g = xor_lt (bits w) a b h g
result-lt CMP W32 a b h g = omega arith
result-lt CMP W64 a b h g = omega arith
result-lt MOV w a b h g = g
result-lt TEST w a b h g = omega (arith, and_le_l a b)

extended_lt : (w : Width) (x : ℕ) → x < 2 ^ 32 → extended w x < 2 ^ bits w
extended_lt w x h = by w (ltb x (2 ^ 31))
  where
    by : (w : Width) (b : Bool) → pick b x (x + (2 ^ bits w - 2 ^ 32)) < 2 ^ bits w
    by W32 true = omega arith
    by W32 false = omega arith
    by W64 true = omega arith
    by W64 false = omega arith

-- a sign that fills leaves the width
filled-lt : (w a c : ℕ) → c ≤ w → a < 2 ^ w → a / 2 ^ c + (2 ^ w - 2 ^ (w - c)) < 2 ^ w
filled-lt w a c h g =
    let e : w - c + c ≡ w = omega arith in
    let s : a / 2 ^ c < 2 ^ (w - c) = shr_lt (w - c) c (rw e g) in
    let m : 2 ^ (w - c) ≤ 2 ^ w = pow_mono (omega arith) in
    omega arith

shifted-lt : (o : Shift) (w : Width) (a c : ℕ) → c ≤ bits w → a < 2 ^ bits w → shifted o w a c < 2 ^ bits w
unfolding shifted
shifted-lt SHL W32 a c h g = omega arith
shifted-lt SHL W64 a c h g = omega arith
shifted-lt SHR w a c h g = omega (arith, shr_le a c)
shifted-lt SAR w a c h g = by (negative w a)
  where
    by : (b : Bool) → a / 2 ^ c + pick b (2 ^ bits w - 2 ^ (bits w - c)) 0 < 2 ^ bits w
    by true = filled-lt (bits w) a c h g
    by false = omega (arith, shr_le a c)

counted-le : (w : Width) (c : ℕ) → counted w c ≤ bits w
counted-le W32 c = omega arith
counted-le W64 c = omega arith

-- a rotation: what goes up has k zeros below, and what comes in is below 2 ^ k
rolled-parts : (a j k : ℕ) → a * 2 ^ k % 2 ^ (j + k) + a % 2 ^ (k + j) / 2 ^ j < 2 ^ (j + k)
rolled-parts a j k =
    let m = a * 2 ^ k / 2 ^ k % 2 ^ j in
    let e : a * 2 ^ k % 2 ^ (j + k) ≡ m * 2 ^ k = mod-pow-add (a * 2 ^ k) j k ∙ rw (mul-mod_left a (2 ^ k)) (omega arith) in
    let t : suc m * 2 ^ k ≤ 2 ^ j * 2 ^ k = mul-le-mul_right (2 ^ k) (mod-lt (a * 2 ^ k / 2 ^ k) (pow_pos j)) in
    let s : a % 2 ^ (k + j) / 2 ^ j < 2 ^ k = shr_lt k j (mod-lt a (pow_pos (k + j))) in
    omega (arith, e, t, s, suc-mul m (2 ^ k), pow-add 2 j k)

rolled-lt : (a c : ℕ) → rolled a c < 2 ^ 16
unfolding rolled
rolled-lt a c =
    let k = c % 16 in
    let e : 16 - k + k ≡ 16 = omega arith in
    let f : k + (16 - k) ≡ 16 = omega arith in
    rw (e, f) at (rolled-parts a (16 - k) k)

swapped-lt : (w : Width) (x : ℕ) → swapped (swap_bytes w) x < 2 ^ bits w
unfolding swapped
swapped-lt W32 x = omega arith
swapped-lt W64 x = omega arith

-- the upper half of a product
upper_lt : (w : Width) (a b : ℕ) → a < 2 ^ bits w → b < 2 ^ bits w → a * b / 2 ^ bits w < 2 ^ bits w
upper_lt W32 a b h g =
    let m : a * b ≤ (2 ^ 32 - 1) * (2 ^ 32 - 1) = mul-le-mul {n₂ = 2 ^ 32 - 1} {m₂ = 2 ^ 32 - 1} (omega arith) (omega arith) in
    (div-lt_iff_lt-mul {k = 2 ^ 32} (omega arith)).1 (lt_of_le_of_lt m (lit< tt))
upper_lt W64 a b h g =
    let m : a * b ≤ (2 ^ 64 - 1) * (2 ^ 64 - 1) = mul-le-mul {n₂ = 2 ^ 64 - 1} {m₂ = 2 ^ 64 - 1} (omega arith) (omega arith) in
    (div-lt_iff_lt-mul {k = 2 ^ 64} (omega arith)).1 (lt_of_le_of_lt m (lit< tt))

word : (w : Width) (n : ℕ) → n < 2 ^ bits w → n < 2 ^ 64
word W32 n h = omega arith
word W64 n h = h

mod-word : (w : Width) (n : ℕ) → n % 2 ^ bits w < 2 ^ 64
mod-word W32 n = omega arith
mod-word W64 n = omega arith

-- What is written.
abbrev Below : List Write → Type 0
Below [] = Unit {0}
Below (a ∷ l) = (a.to < 2 ^ 64) × Below l

alu-below : (o : Alu) (d v : ℕ) → v < 2 ^ 64 → Below (alu_writes o d v)
alu-below ADD d v h = (h, tt)
alu-below OR d v h = (h, tt)
alu-below AND d v h = (h, tt)
alu-below SUB d v h = (h, tt)
alu-below XOR d v h = (h, tt)
alu-below CMP d v h = tt
alu-below MOV d v h = (h, tt)
alu-below TEST d v h = tt

not-zero : (x : ℕ) → eqb x 0 ≡ false → zero < x
not-zero zero e = let z : ◌≡◌ {A = ℕ} 0 1 = cc in absurd (omega arith)
not-zero (suc x) e = omega arith

unary-below : (o : Unary) (w : Width) (g : Regs) (r : ℕ) → unary_faults o w g r ≡ false → Below (unary_writes o w g r)
unfolding divides
unary-below NEG w g r f = (mod-word w _, tt)
unary-below MUL w g r f = (mod-word w _, (word w _ (upper_lt w (rd w g RAX) (rd w g r) (rd-lt w g RAX) (rd-lt w g r)), tt))
unary-below DIV w g r f =
    let d = rd w g r in
    let q = dividend w g / d in
    let p : zero < d = not-zero d (or-false-l (eqb d 0) (leb (2 ^ bits w) q) f) in
    (word w q (leb_no (2 ^ bits w) q (or-false-r (eqb d 0) (leb (2 ^ bits w) q) f)), (word w _ (omega (arith, mod-lt (dividend w g) p, rd-lt w g r)), tt))

loaded-lt : (z : Size) (v : ℕ) → v % 2 ^ size_bits z < 2 ^ 64
loaded-lt S8 v = omega arith
loaded-lt S16 v = omega arith
loaded-lt S32 v = omega arith
loaded-lt S64 v = omega arith

written : (p : Plain) (g : Regs) (u : Input) → WfPlain p → faults_of p g ≡ false → Below (writes_of p g u)
written (push r) g u h f = (omega arith, tt)
written (pop r) g u h f = (omega arith, (omega arith, tt))
written (alu o w s d) g u h f = alu-below o d _ (word w _ (result-lt o w (rd w g d) (rd w g s) (rd-lt w g d) (rd-lt w g s)))
written (alu_imm o w d i) g u h f = alu-below o d _ (word w _ (result-lt o w (rd w g d) (extended w i) (rd-lt w g d) (extended_lt w i h.1)))
written (shift_imm o w d i) g u h f = (word w _ (shifted-lt o w (rd w g d) (counted w i) (counted-le w i) (rd-lt w g d)), tt)
written (shift_cl o w d) g u h f = (word w _ (shifted-lt o w (rd w g d) (counted w (in_cl g)) (counted-le w (in_cl g)) (rd-lt w g d)), tt)
written (unary o w r) g u h f = unary-below o w g r f
written (mov_imm w d i) g u h f = (mod-word w i, tt)
written (rol16 d i) g u h f = (omega (arith, rolled-lt (rd W64 g d) (i % 32), rd-lt W64 g d), tt)
written (bswap w d) g u h f = (word w _ (swapped-lt w (rd w g d)), tt)
written (load z b d x) g u h f = (loaded-lt z u.value, tt)
written (store z s b x) g u h f = tt
written (store_imm z b x i) g u h f = tt

puts-words : (l : List Write) (g : Regs) → Below l → ((r : ℕ) → g r < 2 ^ 64) → (r : ℕ) → puts l g r < 2 ^ 64
puts-words [] g b h r = h r
puts-words (a ∷ l) g b h r = puts-words l (put g a.key a.to) b.1 (λ q. by (eqb q a.key) q) r
  where
    by : (t : Bool) (q : ℕ) → pick t a.to (g q) < 2 ^ 64
    by true q = b.0
    by false q = h q

-- So registers that are words stay words.
pub stay-words : (p : Plain) (g : Regs) (u : Input) → WfPlain p → faults_of p g ≡ false → ((r : ℕ) → g r < 2 ^ 64) → (r : ℕ)
    → puts (writes_of p g u) g r < 2 ^ 64
stay-words p g u h f w = puts-words (writes_of p g u) g (written p g u h f) w
