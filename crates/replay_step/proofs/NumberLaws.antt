-- Laws of numbers that a step rests on: offsets, extended and added; numbers of 32 bits moved up, whose order is the same.
use Rattle.std.proofs.Common.{◌≡◌, ℕ, zero, suc, ◌+◌, ◌-◌, ◌*◌, ◌%◌, ◌^◌, ◌<◌, ◌≤◌, Bool, true, false, not, eqb, ltb, leb, List, get_or, sym, refl, ap, ◌∙◌, arith, ltb-false, ltb-true, le-ltb, lt-ltb, eq-eqb, ne_eqb, eqb-true, le-leb, leb-false, leb-true}
use borrow.Author.Tests.{eqb-false, lt-leb}
use lib.Bits.{bit_and, and_block}
use Rattle.base.specs.Pick.{pick}
use Rattle.base.specs.declared.Width.TheVariants.{W32, W64}
use Rattle.ebpf.specs.Insn.{extend, insn_at}
use Rattle.ebpf.specs.declared.kind.Condition.{Condition}
use Rattle.ebpf.specs.declared.kind.Condition.TheVariants.{Jeq, Jgt, Jge, Jset, Jne, Jsgt, Jsge, Jlt, Jle, Jslt, Jsle}
use Rattle.ebpf_meaning.specs.Values.{immediate, met, signed, cut}
use Rattle.replay_step.specs.Classes.{raised}

-- an offset of 16 bits, as a number of 32 and then of 64
pub off-extended : (x r : ℕ) → x < 2 ^ 16 → r < 2 ^ 64 → (r + 32768) % 2 ^ 64 ≡ (x + 32768) % 65536 → r ≡ immediate W64 (extend x)
off-extended x r h g e = by (ltb x 32768) refl
  where
    by : (t : Bool) → ltb x 32768 ≡ t → r ≡ immediate W64 (pick t x (x + 4294901760))
    by true q = let l = ltb-true x 32768 q in rw (lt-ltb x (2 ^ 31) (omega arith)) (omega (arith, e))
    by false q = let l = ltb-false x 32768 q in rw (le-ltb (x + 4294901760) (2 ^ 31) (omega arith)) (omega (arith, e))

-- an offset that is added at 64 bits and cut to 32 is added at 32
pub off-added : (b off r : ℕ) → r ≡ (b + immediate W64 off) % 2 ^ 64 → r % 2 ^ 32 ≡ (b + off) % 2 ^ 32
off-added b off r e = by (ltb off (2 ^ 31)) e
  where
    by : (t : Bool) → r ≡ (b + pick t off (off + (2 ^ 64 - 2 ^ 32))) % 2 ^ 64 → r % 2 ^ 32 ≡ (b + off) % 2 ^ 32
    by true q = omega (arith, q)
    by false q = omega (arith, q)

-- imm at 32 bits is the lower half of imm at 64
pub imm_cut : (x : ℕ) → x < 2 ^ 32 → immediate W32 x ≡ cut W32 (immediate W64 x)
imm_cut x h = by (ltb x (2 ^ 31))
  where
    by : (t : Bool) → pick t x (x + (2 ^ 32 - 2 ^ 32)) ≡ pick t x (x + (2 ^ 64 - 2 ^ 32)) % 2 ^ 32
    by true = omega arith
    by false = omega arith

-- the order of numbers that are moved up
ltb-scale : (a b : ℕ) → ltb a b ≡ ltb (a * 2 ^ 32) (b * 2 ^ 32)
ltb-scale a b = by (ltb a b) refl
  where
    by : (t : Bool) → ltb a b ≡ t → t ≡ ltb (a * 2 ^ 32) (b * 2 ^ 32)
    by true q = let l = ltb-true a b q in sym (lt-ltb (a * 2 ^ 32) (b * 2 ^ 32) (omega arith))
    by false q = let l = ltb-false a b q in sym (le-ltb (a * 2 ^ 32) (b * 2 ^ 32) (omega arith))

leb-scale : (a b : ℕ) → leb a b ≡ leb (a * 2 ^ 32) (b * 2 ^ 32)
leb-scale a b = by (leb a b) refl
  where
    by : (t : Bool) → leb a b ≡ t → t ≡ leb (a * 2 ^ 32) (b * 2 ^ 32)
    by true q = let l = leb-true a b q in sym (le-leb (a * 2 ^ 32) (b * 2 ^ 32) (omega arith))
    by false q = let l = leb-false a b q in sym (lt-leb (a * 2 ^ 32) (b * 2 ^ 32) (omega arith))

eqb-scale : (a b : ℕ) → eqb a b ≡ eqb (a * 2 ^ 32) (b * 2 ^ 32)
eqb-scale a b = by (eqb a b) refl
  where
    by : (t : Bool) → eqb a b ≡ t → t ≡ eqb (a * 2 ^ 32) (b * 2 ^ 32)
    by true q = let l = eqb-true a b q in sym (eq-eqb (a * 2 ^ 32) (b * 2 ^ 32) (omega arith))
    by false q = sym (ne_eqb (a * 2 ^ 32) (b * 2 ^ 32) (λ z. eqb-false a b q (omega (arith, z))))

signed-scale : (a : ℕ) → a < 2 ^ 32 → signed W32 a * 2 ^ 32 ≡ signed W64 (a * 2 ^ 32)
signed-scale a h = omega arith

and-scale : (a b : ℕ) → bit_and a b * 2 ^ 32 ≡ bit_and (a * 2 ^ 32) (b * 2 ^ 32)
and-scale a b =
    let e : bit_and (a * 2 ^ 32 + 0) (b * 2 ^ 32 + 0) ≡ bit_and a b * 2 ^ 32 + bit_and 0 0 = and_block 32 a b 0 0 (omega arith) (omega arith) in
    let p : a * 2 ^ 32 + 0 ≡ a * 2 ^ 32 = omega arith in
    let q : b * 2 ^ 32 + 0 ≡ b * 2 ^ 32 = omega arith in
    let z : bit_and a b * 2 ^ 32 + bit_and 0 0 ≡ bit_and a b * 2 ^ 32 = omega arith in
    sym z ∙ (sym e ∙ rw (p, q))

scaled : (c : Condition) (a b : ℕ) → a < 2 ^ 32 → b < 2 ^ 32 → met c W32 a b ≡ met c W64 (a * 2 ^ 32) (b * 2 ^ 32)
unfolding met
scaled Jeq a b h g = eqb-scale a b
scaled Jgt a b h g = ltb-scale b a
scaled Jge a b h g = leb-scale b a
scaled Jset a b h g = ap not (eqb-scale (bit_and a b) 0 ∙ ap (λ (x : ℕ). eqb x 0) (and-scale a b))
scaled Jne a b h g = ap not (eqb-scale a b)
scaled Jsgt a b h g = rw (← signed-scale a h, ← signed-scale b g) (ltb-scale (signed W32 b) (signed W32 a))
scaled Jsge a b h g = rw (← signed-scale a h, ← signed-scale b g) (leb-scale (signed W32 b) (signed W32 a))
scaled Jlt a b h g = ltb-scale a b
scaled Jle a b h g = leb-scale a b
scaled Jslt a b h g = rw (← signed-scale a h, ← signed-scale b g) (ltb-scale (signed W32 a) (signed W32 b))
scaled Jsle a b h g = rw (← signed-scale a h, ← signed-scale b g) (leb-scale (signed W32 a) (signed W32 b))

-- a condition at 32 bits is the condition at 64 of the operands moved up
pub met-raised : (c : Condition) (x y : ℕ) → met c W32 (cut W32 x) (cut W32 y) ≡ met c W64 (raised x) (raised y)
met-raised c x y = scaled c (x % 2 ^ 32) (y % 2 ^ 32) (omega arith) (omega arith)

-- a number that is none of the first so many, as the last arm of a `match` has it
abbrev pub Past : (m n : ℕ) → Type 0
Past zero n = Unit {0}
Past (suc m) n = Past m n × (¬ (n ≡ m))

pub past : (m n : ℕ) → Past m n → m ≤ n
past zero n h = omega arith
past (suc m) n h =
    let l : m ≤ n = past m n h.0 in
    let d : ¬ (n ≡ m) = h.1 in
    omega (arith, l, d)

-- imm is a number of 32 bits
pub imm_lt : (program : List ℕ) (slot : ℕ) → ((k : ℕ) → get_or program k 0 < 256) → (insn_at program slot).imm < 2 ^ 32
unfolding insn_at
imm_lt program slot h =
    omega (arith, h (8 * slot + 4), h (8 * slot + 4 + 1), h (8 * slot + 4 + 2), h (8 * slot + 4 + 3))
