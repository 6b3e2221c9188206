-- The laws of specs/Arguments.antt: the same words as the code reads them.
use Rattle.std.specs.Prelude.{Option, Some, None, SomeIff, Result, Ok, Err, OkIff}
use Rattle.std.specs.Result.{result_ok}
use mathlib.Core.Path.{◌≡◌, ◌∙◌, refl, sym}
use mathlib.Core.Bool.{Bool, true, false, ◌&&◌}
use mathlib.Core.List.{List, [], ◌∷◌}
use Prim.Native.Nat.{ℕ, suc, ◌+◌, ◌*◌, ◌-◌, ◌/◌, ◌<◌, ◌≤◌, ◌^◌}
use lib.Dec.{ltb, eqb, eqb→eq}
use native.Mathlib.Omega.{arith}
use borrow.Author.Tests.{eq-eqb, ne_eqb, ltb-true, ltb-false, lt-ltb, le-ltb, le-leb, lt-leb}
use lib.ListN.{length, length-drop, get_or, take, drop, drop_of_length-le, get_or-eq_default}
use lib.Seq.{drop-cons, take_all}
use Rattle.base.proofs.Tests.{T_true, true-T, and_l, and_r}
use Rattle.listing_arguments.specs.Arguments.{equal, digit_of, grown, read_on, digits, prefixed, number_of, helper, address_of, index_of, helper_of}

-- Two texts are the same:
equal-refl : (w : List ℕ) → equal w w ≡ true
equal-refl [] = refl
equal-refl (a ∷ w) = rw (eq-eqb a a refl) (equal-refl w)

equal-true : (v w : List ℕ) → equal v w ≡ true → v ≡ w
equal-true [] [] e = refl
equal-true [] (b ∷ ys) e = let z : ◌≡◌ {A = ℕ} 0 1 = cc in absurd (omega arith)
equal-true (a ∷ xs) [] e = let z : ◌≡◌ {A = ℕ} 0 1 = cc in absurd (omega arith)
equal-true (a ∷ xs) (b ∷ ys) e =
    let t = true-T _ e in
    let h : a ≡ b = eqb→eq a b (and_l (eqb a b) (equal xs ys) t) in
    let k : xs ≡ ys = equal-true xs ys (T_true (equal xs ys) (and_r (eqb a b) (equal xs ys) t)) in
    cc

-- a test that is true of the same texts alone
pub equal_by : (r : Bool) (v w : List ℕ) → ((r ≡ true → v ≡ w) × (v ≡ w → r ≡ true)) → r ≡ equal v w
equal_by true v w h = rw (h.0 refl, equal-refl w)
equal_by false v w h = by (equal v w) refl
  where
    by : (b : Bool) → equal v w ≡ b → false ≡ equal v w
    by true e = h.1 (equal-true v w e) ∙ sym e
    by false e = sym e

and-false : (b : Bool) → (b && false) ≡ false
and-false true = refl
and-false false = refl

-- A word is read to its end,
pub to_end : (n : ℕ) (w : List ℕ) → take (length w - n) (drop n w) ≡ drop n w
to_end n w = take_all (length w - n) (drop n w) (rw (length-drop n w) (omega arith))

-- by their first characters,
pub first-none : (w : List ℕ) → length w ≡ 0 → eqb (get_or w 0 0x2d) 0x2d ≡ true
first-none [] h = refl
first-none (a ∷ w) h = absurd (omega arith)

pub first_some : (w : List ℕ) (d : ℕ) → ¬ (length w ≡ 0) → get_or w 0 0x2d ≡ get_or w 0 d
first_some [] d h = absurd (h refl)
first_some (a ∷ w) d h = refl

pub plain-short : (b : ℕ) (w : List ℕ) → length w < 2 → digits b w ≡ prefixed b w
unfolding prefixed
plain-short b w h = let e : get_or w 1 0 ≡ 0 = get_or-eq_default w 0 (omega arith) in rw (e, and-false (eqb (get_or w 0 0) 0x30))

pub plain-first : (b : ℕ) (w : List ℕ) → ¬ (get_or w 0 0 ≡ 0x30) → digits b w ≡ prefixed b w
unfolding prefixed
plain-first b w h = rw (ne_eqb (get_or w 0 0) 0x30 h)

pub plain_second : (b : ℕ) (w : List ℕ) → ¬ (get_or w 1 0 ≡ 0x78) → digits b w ≡ prefixed b w
unfolding prefixed
plain_second b w h = rw (ne_eqb (get_or w 1 0) 0x78 h, and-false (eqb (get_or w 0 0) 0x30))

pub hexadecimal : (b : ℕ) (w : List ℕ) → get_or w 0 0 ≡ 0x30 → get_or w 1 0 ≡ 0x78 → digits 16 (drop 2 w) ≡ prefixed b w
unfolding prefixed
hexadecimal b w h k = rw (h, k)

-- digit by digit,
pub digits-none : (b : ℕ) (w : List ℕ) → length w ≡ 0 → None ≡ digits b w
unfolding digits
digits-none b [] h = refl
digits-none b (c ∷ w) h = absurd (omega arith)

pub digits-some : (b : ℕ) (w : List ℕ) → ¬ (length w ≡ 0) → read_on b (Some 0) w ≡ digits b w
unfolding digits
digits-some b [] h = absurd (h refl)
digits-some b (c ∷ w) h = refl

read-not : (b : ℕ) (w : List ℕ) → read_on b None w ≡ None
read-not b [] = refl
read-not b (c ∷ w) = refl

pub digit-read : (b n d : ℕ) (w : List ℕ) (i : ℕ) (m : Option ℕ) → i < length w → d ≡ digit_of (get_or w i 0) → m ≡ grown b n d
    → read_on b (Some n) (drop i w) ≡ read_on b m (drop (i + 1) w)
digit-read b n d w i m h e g = let s : i + 1 ≡ suc i = omega arith in rw (s, g, e, drop-cons w i 0 h)

pub digit-bad : (b n d : ℕ) (w : List ℕ) (i : ℕ) → i < length w → d ≡ digit_of (get_or w i 0) → None ≡ grown b n d
    → read_on b (Some n) (drop i w) ≡ None
digit-bad b n d w i h e g = digit-read b n d w i None h e g ∙ read-not b (drop (i + 1) w)

pub read-end : (b n : ℕ) (w : List ℕ) (i : ℕ) → length w ≤ i → read_on b (Some n) (drop i w) ≡ Some n
read-end b n w i h = rw (drop_of_length-le w h)

-- without a product or a sum that does not fit,
le-of_not-lt : (a b : ℕ) → ¬ (a < b) → b ≤ a
le-of_not-lt a b h = by (ltb a b) refl
  where
    by : (t : Bool) → ltb a b ≡ t → b ≤ a
    by true e = absurd (h (ltb-true a b e))
    by false e = ltb-false a b e

pub grown_no-digit : (b n d : ℕ) → b ≤ d → None ≡ grown b n d
unfolding grown
grown_no-digit b n d h = rw (le-ltb d b h)

pub grown_past : (b n d : ℕ) → d < b → ¬ (n * b < 2 ^ 64) → None ≡ grown b n d
unfolding grown
grown_past b n d h k = let g : 2 ^ 64 ≤ n * b = le-of_not-lt (n * b) (2 ^ 64) k in rw (lt-ltb d b h, le-ltb (n * b + d) (2 ^ 64) (omega arith))

pub grown_sum : (b n d m : ℕ) (r : Option ℕ) → d < b → m ≡ n * b → SomeIff r (m + d < 2 ^ 64) (m + d) → r ≡ grown b n d
unfolding grown
grown_sum b n d m (Some x) h e s = rw (lt-ltb d b h, ← e, lt-ltb (m + d) (2 ^ 64) s.0, s.1)
grown_sum b n d m None h e s = rw (lt-ltb d b h, ← e, le-ltb (m + d) (2 ^ 64) (le-of_not-lt (m + d) (2 ^ 64) s))

-- a digit by its range,
pub digit-decimal : (c : ℕ) → 48 ≤ c → c ≤ 57 → c - 48 ≡ digit_of c
unfolding digit_of
digit-decimal c h k = rw (le-ltb c 48 h, le-leb c 57 k)

pub digit-capital : (c : ℕ) → 65 ≤ c → c ≤ 70 → c - 65 + 10 ≡ digit_of c
unfolding digit_of
digit-capital c h k = rw (le-ltb c 48 (omega arith), lt-leb c 57 (omega arith), le-ltb c 65 h, le-leb c 70 k)

pub digit-small : (c : ℕ) → 97 ≤ c → c ≤ 102 → c - 97 + 10 ≡ digit_of c
unfolding digit_of
digit-small c h k =
    rw (le-ltb c 48 (omega arith), lt-leb c 57 (omega arith), le-ltb c 65 (omega arith), lt-leb c 70 (omega arith), le-ltb c 97 h, le-leb c 102 k)

pub digit-below : (c : ℕ) → c < 48 → 16 ≡ digit_of c
unfolding digit_of
digit-below c h = rw (lt-ltb c 48 h)

pub digit-before_capital : (c : ℕ) → 57 < c → c < 65 → 16 ≡ digit_of c
unfolding digit_of
digit-before_capital c h k = rw (le-ltb c 48 (omega arith), lt-leb c 57 h, lt-ltb c 65 k)

pub digit-before_small : (c : ℕ) → 70 < c → c < 97 → 16 ≡ digit_of c
unfolding digit_of
digit-before_small c h k =
    rw (le-ltb c 48 (omega arith), lt-leb c 57 (omega arith), le-ltb c 65 (omega arith), lt-leb c 70 h, lt-ltb c 97 k)

pub digit-above : (c : ℕ) → 102 < c → 16 ≡ digit_of c
unfolding digit_of
digit-above c h =
    rw (
      le-ltb c 48 (omega arith),
      lt-leb c 57 (omega arith),
      le-ltb c 65 (omega arith),
      lt-leb c 70 (omega arith),
      le-ltb c 97 (omega arith),
      lt-leb c 102 h,
    )

-- a byte is looked for from place to place,
pub found-here : (b : ℕ) (w : List ℕ) (i : ℕ) → i < length w → get_or w i 0 ≡ b → index_of b (drop i w) ≡ 0
unfolding index_of
found-here b w i h e = rw (drop-cons w i 0 h, eq-eqb _ _ e) refl

pub found-later : (b : ℕ) (w : List ℕ) (i : ℕ) → i < length w → ¬ (get_or w i 0 ≡ b)
    → index_of b (drop i w) ≡ 1 + index_of b (drop (i + 1) w)
unfolding index_of
found-later b w i h e = let s : i + 1 ≡ suc i = omega arith in rw (s, drop-cons w i 0 h, ne_eqb _ _ e) refl

pub found-nowhere : (b : ℕ) (w : List ℕ) (i : ℕ) → length w ≤ i → index_of b (drop i w) ≡ 0
unfolding index_of
found-nowhere b w i h = rw (drop_of_length-le w h) refl

-- and a helper by its two numbers.
pub helper-by : (w : List ℕ) (at : ℕ) (x y : Option ℕ) → at ≡ index_of 0x3d w → x ≡ number_of (take at w)
    → y ≡ address_of w at → helper x y ≡ helper_of w
unfolding helper_of
helper-by w at x y e f g = rw (f, g, e)

-- .. whose id fits its four bytes, or does not
pub narrow : {E : Type 0} (i a x : ℕ) (r : Result ℕ E) → OkIff r (i < 2 ^ 32) i → result_ok r ≡ Some x → Some (x, a) ≡ helper (Some i) (Some a)
narrow i a x (Ok y) h e =
    let s : y ≡ x = cc in
    let t : x ≡ i = sym s ∙ h.1 in
    rw (lt-ltb i (2 ^ 32) h.0, t)
narrow i a x (Err d) h e = let z : ◌≡◌ {A = ℕ} 0 1 = cc in absurd (omega arith)

pub wide_id : {E : Type 0} (i a : ℕ) (r : Result ℕ E) → OkIff r (i < 2 ^ 32) i → result_ok r ≡ None → None ≡ helper (Some i) (Some a)
wide_id i a (Ok y) h e = let z : ◌≡◌ {A = ℕ} 0 1 = cc in absurd (omega arith)
wide_id i a (Err d) h e = rw (le-ltb i (2 ^ 32) (le-of_not-lt i (2 ^ 32) h))
