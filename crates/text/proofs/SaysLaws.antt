-- The laws of `Says` (specs/Text.antt): one text behind another, a loop that says one, and what stands before and behind it.
use mathlib.Core.Path.{◌≡◌, ◌∙◌, refl, ap, sym}
use mathlib.Core.Bool.{Bool, true, false}
use mathlib.Core.List.{List, [], ◌∷◌, ◌++◌, append-nil}
use Prim.Native.Nat.{ℕ, zero, suc, ◌+◌, ◌-◌, ◌≤◌, ◌<◌, max, min}
use native.Mathlib.Omega.{arith}
use lib.Dec.{leb, leb→le}
use lib.ListN.{length, length-append, length-take, take, drop, set, get_or, replicate}
use lib.Seq.{sets, sets-eq, length-sets, set_out, take_at, take-set-le, drop-set-lt, drop-cons}
use Rattle.base.proofs.Lists.{sets-append}
use Rattle.base.proofs.Tests.{true-T, leb_no}
use Rattle.text.specs.Text.{Says}

-- what is stored past the end changes nothing
pub sets-out : (l ys : List ℕ) (i : ℕ) → length l ≤ i → sets l i ys ≡ l
sets-out l [] i h = refl
sets-out l (y ∷ ys) i h = ap (λ (t : List ℕ). sets t (suc i) ys) (set_out l i y h) ∙ sets-out l ys (suc i) (omega arith)

-- the next text starts where the one before it ends, or where both are past the end
sets-from : (l xs ys : List ℕ) (at r : ℕ) → r ≡ max at (min (at + length xs) (length l)) → sets (sets l at xs) r ys ≡ sets (sets l at xs) (at + length xs) ys
sets-from l xs ys at r e = by (leb (at + length xs) (length l)) refl
  where
    by : (b : Bool) → leb (at + length xs) (length l) ≡ b → sets (sets l at xs) r ys ≡ sets (sets l at xs) (at + length xs) ys
    by true t =
        let h : at + length xs ≤ length l = leb→le _ _ (true-T _ t) in
        let s : r ≡ at + length xs = omega arith in
        rw s
    by false t =
        let h : length l < at + length xs = leb_no _ _ t in
        let s : length (sets l at xs) ≡ length l = length-sets l at xs in
        sets-out (sets l at xs) ys r (omega arith) ∙ sym (sets-out (sets l at xs) ys (at + length xs) (omega arith))

-- nothing is said
pub nothing : {l : List ℕ} {at : ℕ} → Says l l at at []
nothing {l} {at} = record { text = refl; next = omega arith }

-- one text behind another
pub then : {l l₁ l₂ : List ℕ} {at r₁ r₂ : ℕ} {xs ys : List ℕ} → Says l l₁ at r₁ xs → Says l₁ l₂ r₁ r₂ ys → Says l l₂ at r₂ (xs ++ ys)
then {l} {l₁} {l₂} {at} {r₁} {r₂} {xs} {ys} p q =
    let n : length l₁ ≡ length l = ap length p.text ∙ length-sets l at xs in
    record {
      text = q.text ∙ ap (λ (t : List ℕ). sets t r₁ ys) p.text ∙ sets-from l xs ys at r₁ p.next ∙ sets-append l at xs ys;
      next = omega (arith, length-append xs ys, p.next, q.next, n);
    }

-- the same text under another name
pub same : {l l' : List ℕ} {at r : ℕ} {xs ys : List ℕ} → Says l l' at r xs → xs ≡ ys → Says l l' at r ys
same p e = rw e at p

-- the last of a row
pub last : {l l' : List ℕ} {at r : ℕ} {xs : List ℕ} → Says l l' at r xs → Says l l' at r (xs ++ [])
last {xs = xs} p = same p (sym (append-nil xs))

-- one byte, where there is room and where there is none
pub byte : (l : List ℕ) (at x : ℕ) → at < length l → Says l (set l at x) at (at + 1) (x ∷ [])
byte l at x h = record { text = refl; next = omega arith }

pub full : (l : List ℕ) (at x : ℕ) → length l ≤ at → Says l l at at (x ∷ [])
full l at x h = record { text = sym (set_out l at x h); next = omega arith }

pub drop_past : (ys : List ℕ) (i : ℕ) → length ys ≤ i → drop i ys ≡ []
drop_past [] zero h = refl
drop_past [] (suc i) h = refl
drop_past (y ∷ ys) zero h = absurd (omega arith)
drop_past (y ∷ ys) (suc i) h = drop_past ys i (omega arith)

-- In a loop: whatever says the rest from here on says the whole.
abbrev pub Leads : (l₀ : List ℕ) (at : ℕ) (whole l : List ℕ) (next : ℕ) (left : List ℕ) → Type 0
Leads l₀ at whole l next left = (l' : List ℕ) (r : ℕ) → Says l l' next r left → Says l₀ l' at r whole

-- a turn of it says x
pub turn : {l₀ l l₁ : List ℕ} {at next r₁ : ℕ} {whole left xs ys : List ℕ}
    → Leads l₀ at whole l next left → Says l l₁ next r₁ xs → left ≡ xs ++ ys → Leads l₀ at whole l₁ r₁ ys
turn f p e l' r q = f l' r (rw e (then p q))

-- what is left of a text, and of a row of copies, at a place that is not the end
pub left-text : (ys : List ℕ) (i : ℕ) → i < length ys → drop i ys ≡ (get_or ys i 0 ∷ []) ++ drop (i + 1) ys
left-text ys i h = let e : i + 1 ≡ suc i = omega arith in rw e (drop-cons ys i 0 h)

pub left-copies : (x n i : ℕ) → i < n → replicate (n - i) x ≡ (x ∷ []) ++ replicate (n - (i + 1)) x
left-copies x n i h = let e : n - i ≡ suc (n - (i + 1)) = omega arith in rw e

-- and at the end
pub done-text : (l ys : List ℕ) {i at : ℕ} → length ys ≤ i → Says l l at at (drop i ys)
done-text l ys {i} h = rw (drop_past ys i h) nothing

pub done-copies : (l : List ℕ) (x n : ℕ) {i at : ℕ} → n ≤ i → Says l l at at (replicate (n - i) x)
done-copies l x n {i} h = let e : n - i ≡ 0 = omega arith in rw e nothing

-- a buffer keeps its length, and what stands before and behind the text
pub kept : {l l' : List ℕ} {at r : ℕ} {ys : List ℕ} → Says l l' at r ys → length l' ≡ length l
kept {l} {at = at} {ys = ys} p = ap length p.text ∙ length-sets l at ys

before-sets : (l ys : List ℕ) (i n : ℕ) → n ≤ i → take n (sets l i ys) ≡ take n l
before-sets l [] i n h = refl
before-sets l (y ∷ ys) i n h = before-sets (set l i y) ys (suc i) n (omega arith) ∙ take-set-le n l i y h

behind-sets : (l ys : List ℕ) (i n : ℕ) → i + length ys ≤ n → drop n (sets l i ys) ≡ drop n l
behind-sets l [] i n h = refl
behind-sets l (y ∷ ys) i n h = behind-sets (set l i y) ys (suc i) n (omega arith) ∙ drop-set-lt n l i y (omega arith)

pub before : {l l' : List ℕ} {at r : ℕ} {ys : List ℕ} → Says l l' at r ys → take at l' ≡ take at l
before {l} {at = at} {ys = ys} p = ap (take at) p.text ∙ before-sets l ys at at (omega arith)

pub behind : {l l' : List ℕ} {at r : ℕ} {ys : List ℕ} → Says l l' at r ys → drop (at + length ys) l' ≡ drop (at + length ys) l
behind {l} {at = at} {ys = ys} p = ap (drop (at + length ys)) p.text ∙ behind-sets l ys at (at + length ys) (omega arith)

-- where there is room, all of the text stands there
pub stands : {l l' : List ℕ} {at r : ℕ} {ys : List ℕ} → Says l l' at r ys → at + length ys ≤ length l → take r l' ≡ take at l ++ ys
stands {l} {at = at} {r = r} {ys = ys} p h =
    let e : r ≡ at + length ys = omega (arith, p.next) in
    let front : length (take at l ++ ys) ≡ at + length ys = length-append (take at l) ys ∙ rw (length-take at l) (omega arith) in
    rw (p.text, sets-eq ys l at h, e) (take_at (take at l ++ ys) (drop (at + length ys) l) (at + length ys) front)
