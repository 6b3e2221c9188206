-- The laws of specs/Numerals.antt: what the functions meet, that a numeral is read back as its number, and how long it can be.
use mathlib.Core.Path.{◌≡◌, ◌∙◌, refl, ap, sym}
use mathlib.Core.List.{List, [], ◌∷◌, ◌++◌}
use Prim.Native.Nat.{ℕ, zero, suc, ◌+◌, ◌*◌, ◌-◌, ◌/◌, ◌%◌, ◌≤◌, ◌<◌, ◌^◌}
use native.Mathlib.Omega.{arith}
use lib.Dec.{ltb}
use lib.ListN.{length, length-append}
use borrow.Author.Tests.{lt-ltb, le-ltb, ltb-true, ltb-false}
use mathlib.Core.Bool.{Bool, true, false, true≢false}
use lib.IntN.{pos, negsuc}
use lib.Signed.{lt_z}
use mir.Syntax.{w64}
use mir.Val.{sel, to_z}
use Rattle.std.specs.Int.RustNames.{unsigned_abs}
use native.Mathlib.Nat.{pow-zero, pow-suc, one-le-pow, mul-le-mul_right, mod-lt, div-lt_iff_lt-mul, le-div_iff_mul-le, div-add-mod'}
use Rattle.base.specs.Pick.{pick}
use Rattle.base.proofs.Table.{agree}
use Rattle.text.specs.Text.{ascii}
use Rattle.text.specs.Numerals.{behind, decimal, digit_of, extended, glyph, hex, most_digits, numeral, signed}

module _ (b : ℕ) (more : 1 < b) where
  -- what is divided has fewer digits
  fewer : (most n : ℕ) → n < b ^ suc most → n / b < b ^ most
  fewer most n h = let p : 0 < b = omega arith in (div-lt_iff_lt-mul p).1 (rw (pow-suc b most) at h)

  -- no more digits come of it that more may come
  pub enough : (most n : ℕ) → n < b ^ suc most → numeral b (suc (suc most)) n ≡ numeral b (suc most) n
  enough zero n h = rw (lt-ltb n b (omega (arith, rw (pow-suc b 0, pow-zero b) at h)))
  enough (suc most) n h =
      ap (λ (ds : List ℕ). pick (ltb n b) (glyph n ∷ []) (ds ++ (glyph (n % b) ∷ []))) (enough most (n / b) (fewer (suc most) n h))

  -- one digit; or those of what is divided, and the last
  pub one-digit : (most n : ℕ) → n < b → numeral b (suc most) n ≡ glyph n ∷ []
  one-digit most n h = rw (lt-ltb n b h)

  pub last-digit : (most n : ℕ) → b ≤ n → n < b ^ suc most → numeral b (suc most) n ≡ numeral b (suc most) (n / b) ++ (glyph (n % b) ∷ [])
  last-digit zero n f h = absurd (omega (arith, rw (pow-suc b 0, pow-zero b) at h))
  last-digit (suc most) n f h = rw (le-ltb n b f, enough most (n / b) (fewer (suc most) n h))

-- A number in two's complement, as what is signed says its sign and its distance from 0.
module _ (plus minus : List ℕ) (x : ℕ) (h : x < 2 ^ 64) where
  pub behind-minus : lt_z (to_z w64 x) (pos 0) ≡ true → minus ++ decimal (unsigned_abs (to_z w64 x)) ≡ behind plus minus x
  behind-minus = by (ltb x (2 ^ 63))
    where
      by : (t : Bool) → lt_z (sel t (pos x) (negsuc (2 ^ 64 - suc x))) (pos 0) ≡ true
          → minus ++ decimal (unsigned_abs (sel t (pos x) (negsuc (2 ^ 64 - suc x)))) ≡ pick t (plus ++ decimal x) (minus ++ decimal (2 ^ 64 - x))
      by true e = absurd (omega (arith, ltb-true x 0 e))
      by false e = let one : suc (2 ^ 64 - suc x) ≡ 2 ^ 64 - x = omega arith in rw one

  pub behind-plus : lt_z (to_z w64 x) (pos 0) ≡ false → plus ++ decimal (unsigned_abs (to_z w64 x)) ≡ behind plus minus x
  behind-plus = by (ltb x (2 ^ 63))
    where
      by : (t : Bool) → lt_z (sel t (pos x) (negsuc (2 ^ 64 - suc x))) (pos 0) ≡ false
          → plus ++ decimal (unsigned_abs (sel t (pos x) (negsuc (2 ^ 64 - suc x)))) ≡ pick t (plus ++ decimal x) (minus ++ decimal (2 ^ 64 - x))
      by true e = refl
      by false e = absurd (true≢false e)

-- A numeral, read back.
abbrev pub read_from : ℕ → ℕ → List ℕ → ℕ
read_from b n [] = n
read_from b n (c ∷ cs) = read_from b (n * b + digit_of c) cs

abbrev pub read : ℕ → List ℕ → ℕ
read b cs = read_from b 0 cs

pub digit_glyph : (d : ℕ) → d < 16 → digit_of (glyph d) ≡ d
unfolding digit_of
digit_glyph d h = agree (λ k. digit_of (glyph k)) (λ k. k) 16 refl d h

read-last : (b n c : ℕ) (cs : List ℕ) → read_from b n (cs ++ (c ∷ [])) ≡ read_from b n cs * b + digit_of c
read-last b n c [] = refl
read-last b n c (d ∷ cs) = read-last b (n * b + digit_of d) c cs

module _ (b : ℕ) (more : 1 < b) (most16 : b ≤ 16) where
  read-digit : (most n : ℕ) → (n / b < b ^ most → read b (numeral b most (n / b)) ≡ n / b) → n < b ^ suc most → read b (numeral b (suc most) n) ≡ n
  read-digit most n ih h = by (ltb n b) refl
    where
      by : (t : Bool) → ltb n b ≡ t → read b (numeral b (suc most) n) ≡ n
      by true e = let g : n < b = ltb-true _ _ e in rw (e, digit_glyph n (omega arith)) (omega arith)
      by false e =
          let p : 0 < b = omega arith in
          let m = mod-lt n {m = b} p in
          rw (e, read-last b 0 (glyph (n % b)) (numeral b most (n / b)), ih (fewer b more most n h), digit_glyph (n % b) (omega arith)) (div-add-mod' n b)

  pub read_back : (most n : ℕ) → n < b ^ most → read b (numeral b most n) ≡ n
  read_back zero n h = omega (arith, rw (pow-zero b) at h)
  read_back (suc most) n h = read-digit most n (read_back most (n / b)) h

pub decimal-back : (n : ℕ) → n < 2 ^ 64 → read 10 (decimal n) ≡ n
unfolding decimal
decimal-back n h = read_back 10 (omega arith) (omega arith) 20 n (omega arith)

-- two numbers of twenty digits at most have two numerals
pub decimal-one : (m n : ℕ) → m < 10 ^ 20 → n < 10 ^ 20 → decimal m ≡ decimal n → m ≡ n
unfolding decimal
decimal-one m n f h e =
    sym (read_back 10 (omega arith) (omega arith) 20 m f) ∙ ap (λ (t : List ℕ). read 10 t) e ∙ read_back 10 (omega arith) (omega arith) 20 n h

pub hex-back : (n : ℕ) → n < 2 ^ 64 → read 16 (hex n) ≡ n
unfolding hex
hex-back n h = read_back 16 (omega arith) (omega arith) 16 n (omega arith)

-- Each character of a numeral is a digit of its base.
abbrev pub Digits : ℕ → List ℕ → Type 0
Digits b [] = Unit {0}
Digits b (c ∷ cs) = (digit_of c < b) × Digits b cs

pub digits_append : (b : ℕ) (xs ys : List ℕ) → Digits b xs → Digits b ys → Digits b (xs ++ ys)
digits_append b [] ys p q = q
digits_append b (x ∷ xs) ys p q = (p.0, digits_append b xs ys p.1 q)

module _ (b : ℕ) (more : 1 < b) (most16 : b ≤ 16) where
  digit-below : (d : ℕ) → d < b → digit_of (glyph d) < b
  digit-below d h = rw (digit_glyph d (omega arith)) h

  pub numeral-digits : (most n : ℕ) → Digits b (numeral b most n)
  numeral-digits zero n = tt
  numeral-digits (suc most) n = by (ltb n b) refl (numeral-digits most (n / b))
    where
      by : (t : Bool) → ltb n b ≡ t → Digits b (numeral b most (n / b))
          → Digits b (pick t (glyph n ∷ []) (numeral b most (n / b) ++ (glyph (n % b) ∷ [])))
      by true e h = (digit-below n (ltb-true _ _ e), tt)
      by false e h =
          let p : 0 < b = omega arith in
          digits_append b (numeral b most (n / b)) (glyph (n % b) ∷ []) h (digit-below (n % b) (mod-lt n {m = b} p), tt)

-- .. and it has at least one
pub numeral-some : (b most n : ℕ) → 1 ≤ length (numeral b (suc most) n)
numeral-some b most n = by (ltb n b)
  where
    by : (t : Bool) → 1 ≤ length (pick t (glyph n ∷ []) (numeral b most (n / b) ++ (glyph (n % b) ∷ [])))
    by true = omega arith
    by false = omega (arith, length-append (numeral b most (n / b)) (glyph (n % b) ∷ []))

pub hex-digits : (n : ℕ) → Digits 16 (hex n)
unfolding hex
hex-digits n = numeral-digits 16 (omega arith) (omega arith) 16 n

pub hex-some : (n : ℕ) → 1 ≤ length (hex n)
unfolding hex
hex-some n = numeral-some 16 15 n

pub decimal-digits : (n : ℕ) → Digits 10 (decimal n)
unfolding decimal
decimal-digits n = numeral-digits 10 (omega arith) (omega arith) 20 n

-- A numeral has no more digits than it may have, whatever the number.
pub numeral-most : (b most n : ℕ) → length (numeral b most n) ≤ most
numeral-most b zero n = omega arith
numeral-most b (suc most) n = by (ltb n b) (numeral-most b most (n / b))
  where
    by : (t : Bool) → length (numeral b most (n / b)) ≤ most → length (pick t (glyph n ∷ []) (numeral b most (n / b) ++ (glyph (n % b) ∷ []))) ≤ suc most
    by true h = omega arith
    by false h = omega (arith, length-append (numeral b most (n / b)) (glyph (n % b) ∷ []))

-- .. and no more than the number needs
pub few-digits : (b most k n : ℕ) → 1 < b → n < b ^ suc k → length (numeral b most n) ≤ suc k
few-digits b zero k n more h = omega arith
few-digits b (suc most) zero n more h =
    rw (lt-ltb n b (omega (arith, rw (pow-suc b 0, pow-zero b) at h))) (omega arith)
few-digits b (suc most) (suc k) n more h = by (ltb n b) (few-digits b most k (n / b) more (fewer b more (suc k) n h))
  where
    by : (t : Bool) → length (numeral b most (n / b)) ≤ suc k
        → length (pick t (glyph n ∷ []) (numeral b most (n / b) ++ (glyph (n % b) ∷ []))) ≤ suc (suc k)
    by true g = omega arith
    by false g = omega (arith, length-append (numeral b most (n / b)) (glyph (n % b) ∷ []))

-- .. and as many as it needs
pub many-digits : (b most k n : ℕ) → 1 < b → k < most → b ^ k ≤ n → suc k ≤ length (numeral b most n)
many-digits b zero k n more f h = absurd (omega arith)
many-digits b (suc most) zero n more f h = numeral-some b most n
many-digits b (suc most) (suc k) n more f h =
    let p : 0 < b = omega arith in
    let power : b ^ k * b ≤ n = rw (pow-suc b k) at h in
    let some : b ≤ n = omega (arith, mul-le-mul_right b (one-le-pow k b p), power) in
    let front = many-digits b most k (n / b) more (omega arith) ((le-div_iff_mul-le p).1 power) in
    rw (le-ltb n b some) (omega (arith, front, length-append (numeral b most (n / b)) (glyph (n % b) ∷ [])))

-- a larger number has no fewer
pub no-fewer : (b most m n : ℕ) → 0 < b → m ≤ n → length (numeral b most m) ≤ length (numeral b most n)
no-fewer b zero m n p h = omega arith
no-fewer b (suc most) m n p h =
    let less : m / b ≤ n / b = (le-div_iff_mul-le p).1 (omega (arith, div-add-mod' m b, h)) in
    by (ltb m b) (ltb n b) refl refl (no-fewer b most (m / b) (n / b) p less)
  where
    by : (s t : Bool) → ltb m b ≡ s → ltb n b ≡ t → length (numeral b most (m / b)) ≤ length (numeral b most (n / b))
        → length (pick s (glyph m ∷ []) (numeral b most (m / b) ++ (glyph (m % b) ∷ [])))
        ≤ length (pick t (glyph n ∷ []) (numeral b most (n / b) ++ (glyph (n % b) ∷ [])))
    by true true e f g = omega arith
    by true false e f g = omega (arith, length-append (numeral b most (n / b)) (glyph (n % b) ∷ []))
    by false true e f g = absurd (omega (arith, ltb-false m b e, ltb-true n b f))
    by false false e f g =
        omega (arith, g, length-append (numeral b most (m / b)) (glyph (m % b) ∷ []), length-append (numeral b most (n / b)) (glyph (n % b) ∷ []))

pub few-hex : (k n : ℕ) → n < 16 ^ suc k → length (hex n) ≤ suc k
unfolding hex
few-hex k n h = few-digits 16 16 k n (omega arith) h

pub many-hex : (k n : ℕ) → k < 16 → 16 ^ k ≤ n → suc k ≤ length (hex n)
unfolding hex
many-hex k n f h = many-digits 16 16 k n (omega arith) f h

pub hex-no-fewer : (m n : ℕ) → m ≤ n → length (hex m) ≤ length (hex n)
unfolding hex
hex-no-fewer m n h = no-fewer 16 16 m n (omega arith) h

pub hex-most : (n : ℕ) → length (hex n) ≤ 16
unfolding hex
hex-most n = numeral-most 16 16 n

pub few-decimal : (k n : ℕ) → n < 10 ^ suc k → length (decimal n) ≤ suc k
unfolding decimal
few-decimal k n h = few-digits 10 most_digits k n (omega arith) h

pub decimal-most : (n : ℕ) → length (decimal n) ≤ 20
unfolding decimal
decimal-most n = numeral-most 10 20 n

pub signed-most : (x : ℕ) → length (signed x) ≤ 21
signed-most x = by (ltb x (2 ^ 63))
  where
    by : (t : Bool) → length (pick t (decimal x) (ascii "-" ++ decimal (2 ^ 64 - x))) ≤ 21
    by true = omega (arith, decimal-most x)
    by false = omega (arith, decimal-most (2 ^ 64 - x))

pub extended-plus : (x : ℕ) → x < 2 ^ 31 → signed (extended x) ≡ decimal x
extended-plus x h = rw (lt-ltb x (2 ^ 31) h, lt-ltb x (2 ^ 63) (omega arith))

pub extended-minus : (x : ℕ) → 2 ^ 31 ≤ x → x < 2 ^ 32 → signed (extended x) ≡ ascii "-" ++ decimal (2 ^ 32 - x)
extended-minus x h g =
    let e : 2 ^ 64 - (x + 0xffffffff00000000) ≡ 2 ^ 32 - x = omega arith in
    rw (le-ltb x (2 ^ 31) h, le-ltb (x + 0xffffffff00000000) (2 ^ 63) (omega arith), e)
