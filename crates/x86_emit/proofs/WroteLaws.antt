-- The laws of `Wrote`: nothing, one emitter behind another, the same bytes under another name, a stored word.
use Rattle.std.proofs.Common.{◌≡◌, ℕ, zero, suc, ◌+◌, ◌-◌, ◌*◌, ◌/◌, ◌%◌, ◌^◌, ◌<◌, ◌≤◌, List, [], ◌∷◌, ◌++◌, length, take, drop, set, sym, refl, ap, ◌∙◌, append_assoc, append-nil, arith, length-append, length-take, drop-drop, drop-set-lt}
use borrow.Rule.Slice.PartMut.{put_mid}
use Rattle.std.specs.Int.{w32, w64, to_le_bytes}
use lib.Seq.{sets, sets-eq, take-append-add, take-append-le}
use Rattle.base.specs.Bytes.{bytes_of, le32, le64}
use Rattle.base.proofs.BytesLaws.{length-bytes_of}
use Rattle.base.proofs.Lists.{sets-append}
use Rattle.x86_emit.specs.Wrote.{Wrote}

-- nothing is written
pub nothing : {l : List ℕ} {at : ℕ} → Wrote l l at at []
nothing {l} {at} = record { next = omega arith; head = sym (append-nil (take at l)); tail = refl }

-- one emitter behind another
pub later : (l l' : List ℕ) (j k : ℕ) → j ≤ k → drop j l' ≡ drop j l → drop k l' ≡ drop k l
later l l' j k h e = by (k - j) refl
  where
    by : (d : ℕ) → k - j ≡ d → drop k l' ≡ drop k l
    by d q =
        let s : k ≡ j + d = omega arith in
        rw s (sym (drop-drop d j l') ∙ ap (drop d) e ∙ drop-drop d j l)

pub then : {l l₁ l₂ : List ℕ} {at r₁ r₂ : ℕ} {xs ys : List ℕ} → Wrote l l₁ at r₁ xs → Wrote l₁ l₂ r₁ r₂ ys → Wrote l l₂ at r₂ (xs ++ ys)
then {l} {l₁} {l₂} {at} {r₁} {r₂} {xs} {ys} p q =
    record {
      next = omega (arith, length-append xs ys, p.next, q.next);
      head = q.head ∙ ap (λ (t : List ℕ). t ++ ys) p.head ∙ append_assoc (take at l) xs ys;
      tail = q.tail ∙ later l l₁ (r₁ + 8) (r₂ + 8) (omega (arith, q.next)) p.tail;
    }

-- the same bytes under another name
pub same : {l l' : List ℕ} {at r : ℕ} {xs ys : List ℕ} → Wrote l l' at r xs → xs ≡ ys → Wrote l l' at r ys
same p e = rw e at p

-- the last of a row
pub last : {l l' : List ℕ} {at r : ℕ} {xs : List ℕ} → Wrote l l' at r xs → Wrote l l' at r (xs ++ [])
last {xs = xs} p = same p (sym (append-nil xs))

-- The library's bytes of a number are those of `bytes_of`.
pub little-32 : (x : ℕ) → to_le_bytes w32 x ≡ le32 x
little-32 x =
    let b : x / 256 ^ 2 % 256 ≡ x / 256 / 256 % 256 = omega arith in
    let c : x / 256 ^ 3 % 256 ≡ x / 256 / 256 / 256 % 256 = omega arith in
    rw (b, c) refl

pub little-64 : (x : ℕ) → to_le_bytes w64 x ≡ le64 x
little-64 x =
    let b : x / 256 ^ 2 % 256 ≡ x / 256 / 256 % 256 = omega arith in
    let c : x / 256 ^ 3 % 256 ≡ x / 256 / 256 / 256 % 256 = omega arith in
    let d : x / 256 ^ 4 % 256 ≡ x / 256 / 256 / 256 / 256 % 256 = omega arith in
    let e : x / 256 ^ 5 % 256 ≡ x / 256 / 256 / 256 / 256 / 256 % 256 = omega arith in
    let f : x / 256 ^ 6 % 256 ≡ x / 256 / 256 / 256 / 256 / 256 / 256 % 256 = omega arith in
    let g : x / 256 ^ 7 % 256 ≡ x / 256 / 256 / 256 / 256 / 256 / 256 / 256 % 256 = omega arith in
    rw (b, c, d, e, f, g) refl

-- A part of the page that is written whole: n bytes from `at` on.
pub copied : (l : List ℕ) {m zs : List ℕ} (at n : ℕ) (ys : List ℕ) → m ≡ zs → zs ≡ ys → length ys ≡ n → at + n ≤ length l
    → put_mid at (at + n - at) l m ≡ sets l at ys
copied l at n ys p q e h =
    let all : at + n - at ≡ n = omega arith in
    let behind : drop n (drop at l) ≡ drop (at + length ys) l = drop-drop n at l ∙ ap (λ (k : ℕ). drop (at + k) l) (sym e) in
    rw (all, p, q, behind) (sym (sets-eq ys l at (omega (arith, e, h)) ∙ append_assoc (take at l) ys (drop (at + length ys) l)))

-- A stored word is n bytes, n at most eight.
bytes-prefix : (n m x : ℕ) → n ≤ m → take n (bytes_of m x) ≡ bytes_of n x
bytes-prefix zero m x h = refl
bytes-prefix (suc n) zero x h = absurd (omega arith)
bytes-prefix (suc n) (suc m) x h = ap (λ (t : List ℕ). x % 256 ∷ t) (bytes-prefix n m (x / 256) (omega arith))

drop-sets : (l vs : List ℕ) (i k : ℕ) → i + length vs ≤ k → drop k (sets l i vs) ≡ drop k l
drop-sets l [] i k h = refl
drop-sets l (v ∷ vs) i k h = drop-sets (set l i v) vs (suc i) k (omega arith) ∙ drop-set-lt k l i v (omega arith)

pub stored : {l l' : List ℕ} (at x n : ℕ) → n ≤ 8 → at + 8 ≤ length l → l' ≡ sets l at (bytes_of 8 x) → Wrote l l' at (at + n) (bytes_of n x)
stored {l} {l'} at x n h g e =
    let word = bytes_of 8 x in
    let front : length (take at l) ≡ at = length-take at l ∙ omega arith in
    record {
      next = ap (λ (k : ℕ). at + k) (sym (length-bytes_of n x));
      head =
          ap (take (at + n)) (e ∙ sets-eq word l at (rw (length-bytes_of 8 x) g) ∙ append_assoc (take at l) word (drop (at + length word) l))
          ∙ ap (λ (k : ℕ). take (k + n) (take at l ++ (word ++ drop (at + length word) l))) (sym front)
          ∙ take-append-add (take at l) (word ++ drop (at + length word) l) n
          ∙ ap (λ (t : List ℕ). take at l ++ t) (take-append-le n word (drop (at + length word) l) (rw (length-bytes_of 8 x) h) ∙ bytes-prefix n 8 x h);
      tail = ap (drop (at + n + 8)) e ∙ drop-sets l word at (at + n + 8) (omega (arith, length-bytes_of 8 x));
    }
