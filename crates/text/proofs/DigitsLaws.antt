-- What the functions of src/digits.rt count on: digits come off a number one by one from its end, and what is stored ahead of them joins them.
use mathlib.Core.Path.{◌≡◌, ◌∙◌, refl, ap, sym}
use mathlib.Core.List.{List, [], ◌∷◌, ◌++◌, append_assoc}
use Prim.Native.Nat.{ℕ, zero, suc, ◌+◌, ◌*◌, ◌-◌, ◌/◌, ◌%◌, ◌≤◌, ◌<◌, ◌^◌}
use native.Mathlib.Omega.{arith}
use native.Mathlib.Nat.{add-zero, add-mul, mul-add, mul-suc, mul_assoc, mul-le-mul, mul-le-mul_left, le_trans, lt_of_le_of_lt, pow-suc, pow-le-pow_right}
use native.Mathlib.Nat.{div-le_self, div-lt_self, div-lt_iff_lt-mul, le-div_iff_mul-le, div-eq_of_lt, div-add-mod, mul-add-div}
use native.Mathlib.Nat.{mod-lt, mod-eq_of_lt, mul-add-mod_self_left}
use lib.ListN.{length, length-append, set, get_or}
use lib.Seq.{sets, length-sets, set_comm}
use Rattle.base.specs.Pick.{pick}
use Rattle.base.proofs.Table.{rule, agree}
use mathlib.Core.Bool.{Bool, true, false}
use lib.Dec.{ltb}
use borrow.Author.Tests.{ltb-true, ltb-false}
use Rattle.text.specs.Text.{Says}
use Rattle.text.specs.Numerals.{glyph, hex, most_digits, numeral, pairs}
use Rattle.text.proofs.NumeralLaws.{enough, one-digit, last-digit, numeral-most, few-hex, many-hex}

-- the table has two digits at each number
pair-at : (k : ℕ) → k < 256 → get_or pairs k 0 ≡ glyph (k / 16) + 256 * glyph (k % 16)
unfolding pairs
pair-at k h = rule (λ k. glyph (k / 16) + 256 * glyph (k % 16)) (λ k x. x) 0 pairs 256 refl refl k h

glyph-small : (d : ℕ) → d < 16 → glyph d < 256
glyph-small d h = omega (arith, ltb-true (glyph d) 256 (agree (λ k. ltb (glyph k) 256) (λ k. true) 16 refl d h))

-- .. which a store takes apart
first_of : (first last : ℕ) → first < 16 → last < 16 → get_or pairs (16 * first + last) 0 % 256 ≡ glyph first
first_of first last f h =
    let d : (16 * first + last) / 16 ≡ first = omega arith in
    rw (pair-at (16 * first + last) (omega arith), d) (omega (arith, glyph-small first f))

last_of : (first last : ℕ) → first < 16 → last < 16 → get_or pairs (16 * first + last) 0 / 256 ≡ glyph last
last_of first last f h =
    let d : (16 * first + last) / 16 ≡ first = omega arith in
    let m : (16 * first + last) % 16 ≡ last = omega arith in
    rw (pair-at (16 * first + last) (omega arith), d, m) (omega (arith, glyph-small first f))

pub pairs-many : length pairs ≡ 256
unfolding pairs
pairs-many = refl

-- a store ahead of others, and a row of them
set-ahead : (l : List ℕ) (k j a : ℕ) (ys : List ℕ) → k < j → set (sets l j ys) k a ≡ sets (set l k a) j ys
set-ahead l k j a [] h = refl
set-ahead l k j a (y ∷ ys) h =
    set-ahead (set l j y) k (suc j) a ys (omega arith) ∙ ap (λ (t : List ℕ). sets t (suc j) ys) (set_comm l j k y a (λ e. omega (arith, e, h)))

pub sets-ahead : (l : List ℕ) (k : ℕ) (xs ys : List ℕ) → sets (sets l (k + length xs) ys) k xs ≡ sets l k (xs ++ ys)
sets-ahead l k [] ys = ap (λ (n : ℕ). sets l n ys) (add-zero k)
sets-ahead l k (a ∷ xs) ys =
    let e : k + suc (length xs) ≡ suc k + length xs = omega arith in
    rw (e, set-ahead l k (suc k + length xs) a ys (omega arith)) (sets-ahead (set l k a) (suc k) xs ys)

-- The powers of a base, and what is below them.
pub square-some : (b : ℕ) → 1 < b → 0 < b * b
square-some b more = omega (arith, mul-le-mul more more)

pub square-small : (b : ℕ) → b ≤ 16 → b * b ≤ 256
square-small b h = mul-le-mul h h

pub cube-small : (b : ℕ) → b ≤ 16 → b * b * b ≤ 4096
cube-small b h = mul-le-mul (square-small b h) h

pub fourth-small : (b : ℕ) → b ≤ 16 → b * b * b * b ≤ 65536
fourth-small b h = mul-le-mul (cube-small b h) h

module _ (b : ℕ) (more : 1 < b) where
  positive : 0 < b
  positive = omega arith

  pub square-below : (n : ℕ) → n < b * b → n / b < b
  square-below n h = (div-lt_iff_lt-mul positive).1 h

  pub square_above : (n : ℕ) → b * b ≤ n → b ≤ n / b
  square_above n h = (le-div_iff_mul-le positive).1 h

  pub cube-below : (n : ℕ) → n < b * b * b → n / b / b < b
  cube-below n h = square-below (n / b) ((div-lt_iff_lt-mul positive).1 h)

  pub cube-above : (n : ℕ) → b * b * b ≤ n → b ≤ n / b / b
  cube-above n h = square_above (n / b) ((le-div_iff_mul-le positive).1 h)

  pub fourth-below : (n : ℕ) → n < b * b * b * b → n / b / b / b < b
  fourth-below n h = cube-below (n / b) ((div-lt_iff_lt-mul positive).1 h)

  pub fourth-above : (n : ℕ) → b * b * b * b ≤ n → b ≤ n / b / b / b
  fourth-above n h = cube-above (n / b) ((le-div_iff_mul-le positive).1 h)

-- A number of one digit, the second of two in the table.
pub single-is : (table : List ℕ) (d : ℕ) → table ≡ pairs → d < 16 → get_or table d 0 / 256 ≡ glyph d
single-is table d e h =
    let f : get_or pairs (16 * 0 + d) 0 / 256 ≡ glyph d = last_of 0 d (omega arith) h in
    let place : 16 * 0 + d ≡ d = omega arith in
    rw e (rw place at f)

pub single-fits : (table : List ℕ) (d : ℕ) → table ≡ pairs → d < 16 → get_or table d 0 / 256 < 256
single-fits table d e h = rw (single-is table d e h) (glyph-small d h)

-- A number of two digits, and its place in the table.
module _ (b : ℕ) (more : 1 < b) (most : b ≤ 16) (n : ℕ) (h : n < b * b) where
  first : n / b < 16
  first = omega (arith, square-below b more n h)

  last : n % b < 16
  last = let p : 0 < b = omega arith in omega (arith, mod-lt n {m = b} p)

  place : n + (16 - b) * (n / b) ≡ 16 * (n / b) + n % b
  place =
      let all : 16 - b + b ≡ 16 = omega arith in
      let sum : (16 - b) * (n / b) + b * (n / b) ≡ 16 * (n / b) = sym (add-mul (16 - b) b (n / b)) ∙ ap (λ (k : ℕ). k * (n / b)) all in
      omega (arith, sum, div-add-mod n b)

  pub pair_inside : n + (16 - b) * (n / b) < 256
  pair_inside = omega (arith, place, first, last)

  pub pair-less : (16 - b) * (n / b) ≤ 256
  pair-less = omega (arith, pair_inside)

  pub pair_fits : (table : List ℕ) → table ≡ pairs → get_or table (n + (16 - b) * (n / b)) 0 / 256 < 256
  pair_fits table e = rw (e, place, last_of (n / b) (n % b) first last) (glyph-small (n % b) last)

  pub pair-stored : (l table : List ℕ) (at : ℕ) → table ≡ pairs
      → set (set l at (get_or table (n + (16 - b) * (n / b)) 0 % 256)) (at + 1) (get_or table (n + (16 - b) * (n / b)) 0 / 256)
      ≡ sets l at (glyph (n / b) ∷ glyph (n % b) ∷ [])
  pair-stored l table at e =
      let next : at + 1 ≡ suc at = omega arith in
      rw (e, place, first_of (n / b) (n % b) first last, last_of (n / b) (n % b) first last, next) refl

-- The last two digits of any number.
module _ (b : ℕ) (more : 1 < b) (n : ℕ) where
  two-last : n % (b * b) ≡ b * (n / b % b) + n % b
  two-last =
      let p : 0 < b = omega arith in
      let r = mod-lt n {m = b} p in
      let x = mod-lt (n / b) {m = b} p in
      let small : b * suc (n / b % b) ≤ b * b = mul-le-mul_left b x in
      let below : b * (n / b % b) + n % b < b * b = omega (arith, small, mul-suc b (n / b % b), r) in
      let front = ap (λ (k : ℕ). b * k) (div-add-mod (n / b) b) in
      let whole : b * b * (n / b / b) + (b * (n / b % b) + n % b) ≡ n =
      omega (arith, div-add-mod n b, front, mul-add b (b * (n / b / b)) (n / b % b), mul_assoc b b (n / b / b)) in
      ap (λ (k : ℕ). k % (b * b)) (sym whole)
      ∙ mul-add-mod_self_left (b * b) (n / b / b) (b * (n / b % b) + n % b)
      ∙ mod-eq_of_lt below

  pub both_first : n % (b * b) / b ≡ n / b % b
  both_first =
      let p : 0 < b = omega arith in
      rw two-last (mul-add-div p (n / b % b) (n % b) ∙ rw (div-eq_of_lt (mod-lt n {m = b} p)) (omega arith))

  pub both-last : n % (b * b) % b ≡ n % b
  both-last =
      let p : 0 < b = omega arith in
      rw two-last (mul-add-mod_self_left b (n / b % b) (n % b) ∙ mod-eq_of_lt (mod-lt n {m = b} p))

  pub both_small : n % (b * b) < b * b
  both_small = mod-lt n {m = b * b} (square-some b more)

-- In the loop that counts: what is counted, and what is left to count.
pub record Counting (b n rest count : ℕ) : Type 0 where
  pub below : rest ≤ n
  pub sum : length (numeral b most_digits n) ≡ count + length (numeral b most_digits rest)

pub digit : (b n : ℕ) → 1 < b → b ≤ 16 → n % b < 16
digit b n more most = let p : 0 < b = omega arith in omega (arith, mod-lt n {m = b} p)

module _ (b : ℕ) (more : 1 < b) where
  abbrev digits : ℕ → List ℕ
  digits n = numeral b most_digits n

  pub some-digit : (n : ℕ) → 1 ≤ length (digits n)
  some-digit n = by (ltb n b)
    where
      by : (t : Bool) → 1 ≤ length (pick t (glyph n ∷ []) (numeral b 19 (n / b) ++ glyph (n % b) ∷ []))
      by true = omega arith
      by false = omega (arith, length-append (numeral b 19 (n / b)) (glyph (n % b) ∷ []))

  pub one_more : (n : ℕ) → b ≤ n → n < b ^ most_digits → length (digits n) ≡ length (digits (n / b)) + 1
  one_more n h f = rw (last-digit b more 19 n h f, length-append (digits (n / b)) (glyph (n % b) ∷ []))

  -- what is at least b after divisions was so before
  before : (n : ℕ) → b ≤ n / b → b ≤ n
  before n h = le_trans h (div-le_self n b)

  pub two-more : (n : ℕ) → b ≤ n / b → n < b ^ most_digits → digits n ≡ digits (n / b / b) ++ (glyph (n / b % b) ∷ glyph (n % b) ∷ [])
  two-more n h f =
      rw (last-digit b more 19 n (before n h) f, last-digit b more 19 (n / b) h (lt_of_le_of_lt (div-le_self n b) f))
      (append_assoc (digits (n / b / b)) (glyph (n / b % b) ∷ []) (glyph (n % b) ∷ []))

  pub two_digits : (n : ℕ) → b ≤ n → n / b < b → n < b ^ most_digits → digits n ≡ glyph (n / b) ∷ glyph (n % b) ∷ []
  two_digits n h g f = rw (last-digit b more 19 n h f, one-digit b more 19 (n / b) g)

  pub four-more : (n : ℕ) → b ≤ n / b / b / b → n < b ^ most_digits → length (digits n) ≡ 4 + length (digits (n / b / b / b / b))
  four-more n h f =
      let second = before (n / b / b) h in
      let first = before (n / b) second in
      let f₁ = lt_of_le_of_lt (div-le_self n b) f in
      let f₂ = lt_of_le_of_lt (div-le_self (n / b) b) f₁ in
      let f₃ = lt_of_le_of_lt (div-le_self (n / b / b) b) f₂ in
      omega (arith, one_more n (before n first) f, one_more (n / b) first f₁, one_more (n / b / b) second f₂, one_more (n / b / b / b) h f₃)

  -- division makes it less
  pub less : (n : ℕ) → b ≤ n → n / b < n
  less n h = div-lt_self (omega arith) more

  pub four-less : (n : ℕ) → b ≤ n / b / b / b → n / b / b / b / b < n
  four-less n h =
      let first = before (n / b) (before (n / b / b) h) in
      lt_of_le_of_lt (div-le_self (n / b / b / b) b)
      (lt_of_le_of_lt (div-le_self (n / b / b) b) (lt_of_le_of_lt (div-le_self (n / b) b) (less n (before n first))))

  pub counting : {n rest count : ℕ} → n < b ^ most_digits → b ≤ rest / b / b / b → Counting b n rest count → Counting b n (rest / b / b / b / b) (count + 4)
  counting {n} {rest} f h i =
      record {
        below = omega (arith, four-less rest h, i.below);
        sum = omega (arith, four-more rest h (lt_of_le_of_lt i.below f), i.sum);
      }

  pub few : {n rest count : ℕ} → Counting b n rest count → count ≤ most_digits
  few {n} {rest} i = omega (arith, i.sum, numeral-most b most_digits n)

  counted : {n rest count : ℕ} (k : ℕ) → Counting b n rest count → length (digits rest) ≡ k → (count + k ≡ length (digits n)) × (count + k ≤ most_digits)
  counted {n} k i e = (omega (arith, i.sum, e), omega (arith, i.sum, e, numeral-most b most_digits n))

  module _ {n rest count : ℕ} (f : n < b ^ most_digits) (i : Counting b n rest count) where
    short : rest < b ^ most_digits
    short = lt_of_le_of_lt i.below f

    short-1 : rest / b < b ^ most_digits
    short-1 = lt_of_le_of_lt (div-le_self rest b) short

    short-2 : rest / b / b < b ^ most_digits
    short-2 = lt_of_le_of_lt (div-le_self (rest / b) b) short-1

    pub counted-1 : rest < b → (count + 1 ≡ length (digits n)) × (count + 1 ≤ most_digits)
    counted-1 h = counted 1 i (ap length (one-digit b more 19 rest h))

    pub counted-2 : b ≤ rest → rest / b < b → (count + 2 ≡ length (digits n)) × (count + 2 ≤ most_digits)
    counted-2 g h = counted 2 i (omega (arith, one_more rest g short, ap length (one-digit b more 19 (rest / b) h)))

    pub counted-3 : b ≤ rest / b → rest / b / b < b → (count + 3 ≡ length (digits n)) × (count + 3 ≤ most_digits)
    counted-3 g h =
        counted 3 i
        (omega (arith, one_more rest (before rest g) short, one_more (rest / b) g short-1, ap length (one-digit b more 19 (rest / b / b) h)))

    pub counted-4 : b ≤ rest / b / b → rest / b / b / b < b → (count + 4 ≡ length (digits n)) × (count + 4 ≤ most_digits)
    counted-4 g h =
        let second = before (rest / b) g in
        counted 4 i
        (omega (
          arith,
          one_more rest (before rest second) short,
          one_more (rest / b) second short-1,
          one_more (rest / b / b) g short-2,
          ap length (one-digit b more 19 (rest / b / b / b) h),
        ))

-- In the loop that writes a numeral from its end: what is written ahead of `left` completes it.
pub record Ending (b : ℕ) (l₀ : List ℕ) (end n : ℕ) (l : List ℕ) (rest left : ℕ) : Type 0 where
  pub below : rest ≤ n
  pub kept : length l ≡ length l₀
  pub inside : left ≤ end
  pub place : left ≡ end - length (numeral b most_digits n) + length (numeral b most_digits rest)
  pub leads : (l' : List ℕ) → l' ≡ sets l (end - length (numeral b most_digits n)) (numeral b most_digits rest)
      → l' ≡ sets l₀ (end - length (numeral b most_digits n)) (numeral b most_digits n)

module _ {b : ℕ} (more : 1 < b) {l₀ l : List ℕ} {end n rest left : ℕ} (i : Ending b l₀ end n l rest left)
    (f : n < b ^ most_digits) where
  short-rest : rest < b ^ most_digits
  short-rest = lt_of_le_of_lt i.below f

  -- two digits more, and those of what is divided are ahead of them
  pub ending : {l₁ : List ℕ} → b ≤ rest / b
      → l₁ ≡ sets l (left - 2) (glyph (rest % (b * b) / b) ∷ glyph (rest % (b * b) % b) ∷ [])
      → Ending b l₀ end n l₁ (rest / b / b) (left - 2)
  ending {l₁} h given =
      let e = rw (both_first b more rest, both-last b more rest) at given in
      let two = two-more b more rest h short-rest in
      let size : length (numeral b most_digits rest) ≡ length (numeral b most_digits (rest / b / b)) + 2 =
      ap length two ∙ length-append (numeral b most_digits (rest / b / b)) _ in
      let place : left - 2 ≡ end - length (numeral b most_digits n) + length (numeral b most_digits (rest / b / b)) = omega (arith, i.place, size) in
      record {
        below = le_trans (div-le_self (rest / b) b) (le_trans (div-le_self rest b) i.below);
        kept = ap length e ∙ length-sets l (left - 2) (glyph (rest / b % b) ∷ glyph (rest % b) ∷ []) ∙ i.kept;
        inside = omega (arith, i.inside);
        place = place;
        leads = λ l' q. i.leads l' (q ∙ rw (e, place, two) (sets-ahead l _ (numeral b most_digits (rest / b / b)) _));
      }

  pub two-left : b ≤ rest / b → 2 ≤ left
  two-left h =
      omega (
        arith,
        i.place,
        ap length (two-more b more rest h short-rest) ∙ length-append (numeral b most_digits (rest / b / b)) _,
      )

  -- the last two, or one
  pub ended-2 : b ≤ rest → rest / b < b → sets l (left - 2) (glyph (rest / b) ∷ glyph (rest % b) ∷ [])
      ≡ sets l₀ (end - length (numeral b most_digits n)) (numeral b most_digits n)
  ended-2 h g =
      let two = two_digits b more rest h g short-rest in
      let place : left - 2 ≡ end - length (numeral b most_digits n) = omega (arith, i.place, ap length two) in
      i.leads _ (rw (place, two))

  pub ended-1 : rest < b → set l (left - 1) (glyph rest) ≡ sets l₀ (end - length (numeral b most_digits n)) (numeral b most_digits n)
  ended-1 h =
      let one = one-digit b more 19 rest h in
      let place : left - 1 ≡ end - length (numeral b most_digits n) = omega (arith, i.place, ap length one) in
      i.leads _ (rw (place, one))

module _ {b : ℕ} (more : 1 < b) {l₀ l : List ℕ} {end n rest left : ℕ} (i : Ending b l₀ end n l rest left) where
  pub one_left : 1 ≤ left
  one_left = omega (arith, i.place, some-digit b more rest)

pub less-twice : (b : ℕ) → 1 < b → (n : ℕ) → b ≤ n / b → n / b / b < n
less-twice b more n h = lt_of_le_of_lt (div-le_self (n / b) b) (less b more n (before b more n h))

module _ {b : ℕ} (more : 1 < b) {l₀ l : List ℕ} {end n rest left : ℕ} (i : Ending b l₀ end n l rest left) (f : n < b ^ most_digits) where
  pub last-two : b ≤ rest → 2 ≤ left
  last-two h = omega (arith, i.place, one_more b more rest h (lt_of_le_of_lt i.below f), some-digit b more (rest / b))

-- sixteen digits do in hexadecimal
pub hex-is : (n : ℕ) → n < 2 ^ 64 → numeral 16 most_digits n ≡ hex n
unfolding hex
hex-is n h =
    let few : 1 < 16 = omega arith in
    enough 16 few 18 n (omega arith) ∙ enough 16 few 17 n (omega arith) ∙ enough 16 few 16 n (omega arith) ∙ enough 16 few 15 n (omega arith)

-- what ends behind its own length is said
pub said : {l l' : List ℕ} (at end : ℕ) (ys : List ℕ) → end ≡ at + length ys → end ≤ length l → l' ≡ sets l (end - length ys) ys → Says l l' at end ys
said {l} at end ys e h q =
    let from : end - length ys ≡ at = omega arith in
    record { text = q ∙ ap (λ (k : ℕ). sets l k ys) from; next = omega arith }

-- In the loop that widens: a width no larger than that of n.
pub record Widening (n digits largest : ℕ) : Type 0 where
  pub some : 0 < digits
  pub power : largest + 1 ≡ 16 ^ digits
  pub below : digits ≤ length (hex n)

module _ {n digits largest : ℕ} (w : Widening n digits largest) (small : n < 2 ^ 64) where
  module _ (h : largest < n) where
    -- sixteen digits are enough for n
    short-of-most : digits < 16
    short-of-most = by (ltb digits 16) refl
      where
        by : (t : Bool) → ltb digits 16 ≡ t → digits < 16
        by true e = ltb-true digits 16 e
        by false e = absurd (omega (arith, w.power, pow-le-pow_right {n = 16} (omega arith) (ltb-false digits 16 e)))

    pub fits : largest * 16 + 15 < 2 ^ 64
    fits =
        let most : digits ≤ 15 = omega (arith, short-of-most) in
        omega (arith, w.power, pow-le-pow_right {n = 16} (omega arith) most)

    pub widening : Widening n (digits + 1) (largest * 16 + 15)
    widening =
        let one : digits + 1 ≡ suc digits = omega arith in
        rw one
        (record {
          some = omega arith;
          power = omega (arith, w.power, pow-suc 16 digits);
          below = many-hex digits n short-of-most (omega (arith, w.power));
        })

  pub widened : n ≤ largest → digits ≡ length (hex n)
  widened h = omega (arith, w.below, enough-hex digits w.some (omega (arith, w.power)))
    where
      enough-hex : (k : ℕ) → 0 < k → n < 16 ^ k → length (hex n) ≤ k
      enough-hex zero p f = absurd (omega arith)
      enough-hex (suc k) p f = few-hex k n f
