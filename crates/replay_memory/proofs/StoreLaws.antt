-- The laws of a store: what was stored is loaded again, and all else is as it was.
use Rattle.std.proofs.Common.{◌≡◌, ℕ, zero, suc, ◌+◌, ◌-◌, ◌*◌, ◌/◌, ◌%◌, ◌^◌, ◌≤◌, List, [], ◌∷◌, ◌++◌, length, take, drop, set}
use Rattle.std.proofs.Common.{sym, refl, ap, ◌∙◌, append_assoc, suc-add, zero-add, arith, length-take-le, take_at, drop-set-lt, drop_at}
use borrow.Rule.Slice.PartMut.{put_mid, post_of, Post-is}
use Rattle.std.specs.Int.{w32, w64, to_le_bytes}
use lib.Seq.{sets, length-sets, sets-eq, take-nil, take-set-le}
use Rattle.base.specs.Bytes.{bytes_of, join}
use Rattle.base.specs.Widths.{size_bits}
use Rattle.base.specs.declared.Size.{Size}
use Rattle.base.specs.declared.Size.TheVariants.{S8, S16, S32, S64}
use Rattle.base.proofs.BytesLaws.{length-bytes_of}
use Rattle.base.proofs.Lists.{sets-append}
use Rattle.replay.specs.Memory.{loaded, stored, size_bytes}

-- a store leaves an area as long as it is
pub stored-length : (z : Size) (area : List ℕ) (at value : ℕ) → length (stored z area at value) ≡ length area
stored-length z area at value = length-sets area at (bytes_of (size_bytes z) value)

-- bytes that are copied to a place are stored there
pub copied : (z : Size) (area ys : List ℕ) (at value : ℕ) → at + size_bytes z ≤ length area → ys ≡ bytes_of (size_bytes z) value
    → put_mid at (at + size_bytes z - at) area ys ≡ stored z area at value
copied z area ys at value h e =
    let n : length (bytes_of (size_bytes z) value) ≡ size_bytes z = length-bytes_of (size_bytes z) value in
    let behind : post_of at (at + size_bytes z - at) area ≡ drop (at + size_bytes z) area = Post-is at (at + size_bytes z) area (omega arith) in
    let all = rw n at (sets-eq (bytes_of (size_bytes z) value) area at (rw n h)) in
    rw (e, behind) (sym (all ∙ append_assoc (take at area) (bytes_of (size_bytes z) value) (drop (at + size_bytes z) area)))

-- the bytes of a number, as the library has them
pub four-bytes : (x value : ℕ) → x ≡ value % 2 ^ 32 → to_le_bytes w32 x ≡ bytes_of 4 value
four-bytes x value e =
    let e0 : x % 256 ≡ value % 256 = omega arith in
    let e1 : x / 256 % 256 ≡ value / 256 % 256 = omega arith in
    let e2 : x / 65536 % 256 ≡ value / 256 / 256 % 256 = omega arith in
    let e3 : x / 16777216 % 256 ≡ value / 256 / 256 / 256 % 256 = omega arith in
    rw (e0, e1, e2, e3) refl

pub eight-bytes : (value : ℕ) → to_le_bytes w64 value ≡ bytes_of 8 value
eight-bytes value =
    let e2 : value / 256 ^ 2 ≡ value / 256 / 256 = omega arith in
    let e3 : value / 256 ^ 3 ≡ value / 256 / 256 / 256 = omega arith in
    let e4 : value / 256 ^ 4 ≡ value / 256 / 256 / 256 / 256 = omega arith in
    let e5 : value / 256 ^ 5 ≡ value / 256 / 256 / 256 / 256 / 256 = omega arith in
    let e6 : value / 256 ^ 6 ≡ value / 256 / 256 / 256 / 256 / 256 / 256 = omega arith in
    let e7 : value / 256 ^ 7 ≡ value / 256 / 256 / 256 / 256 / 256 / 256 / 256 = omega arith in
    rw (e2, e3, e4, e5, e6, e7) refl

-- THE SAME PLACE. The bytes of a number make it again, cut to their size; of eight, the lower half and the upper one do.
join-half : (b0 b1 b2 b3 : ℕ) (bs : List ℕ) → join (b0 ∷ b1 ∷ b2 ∷ b3 ∷ bs) ≡ join (b0 ∷ b1 ∷ b2 ∷ b3 ∷ []) + 2 ^ 32 * join bs
join-half b0 b1 b2 b3 bs = omega arith

halves-cut : (x : ℕ) → x % 2 ^ 32 + 2 ^ 32 * (x / 256 / 256 / 256 / 256 % 2 ^ 32) ≡ x % 2 ^ 64
halves-cut x = omega arith

join-four : (x : ℕ) → join (bytes_of 4 x) ≡ x % 2 ^ 32
join-four x = omega arith

join-bytes : (z : Size) (x : ℕ) → join (bytes_of (size_bytes z) x) ≡ x % 2 ^ size_bits z
join-bytes S8 x = omega arith
join-bytes S16 x = omega arith
join-bytes S32 x = join-four x
join-bytes S64 x =
    let up : ℕ = x / 256 / 256 / 256 / 256 in
    let split : join (bytes_of 8 x) ≡ join (bytes_of 4 x) + 2 ^ 32 * join (bytes_of 4 up) = join-half _ _ _ _ (bytes_of 4 up) in
    split ∙ rw (join-four x, join-four up) (halves-cut x)

-- a run of stores stands where it was put
sets-there : (l : List ℕ) (i : ℕ) (vs : List ℕ) → i + length vs ≤ length l → take (length vs) (drop i (sets l i vs)) ≡ vs
sets-there l i vs h =
    let front : length (take i l) ≡ i = length-take-le i l (omega arith) in
    rw (sets-eq vs l i h, append_assoc (take i l) vs (drop (i + length vs) l), drop_at (take i l) (vs ++ drop (i + length vs) l) i front)
    (take_at vs (drop (i + length vs) l) (length vs) refl)

pub stored_loaded : (z : Size) (area : List ℕ) (at value : ℕ) → at + size_bytes z ≤ length area
    → loaded z (stored z area at value) at ≡ value % 2 ^ size_bits z
stored_loaded z area at value h =
    let n : length (bytes_of (size_bytes z) value) ≡ size_bytes z = length-bytes_of (size_bytes z) value in
    let there = rw n at (sets-there area at (bytes_of (size_bytes z) value) (rw n h)) in
    ap join there ∙ join-bytes z value

-- ELSEWHERE. A run of stores changes nothing ahead of it, and nothing behind it.
take-sets : (n : ℕ) (l : List ℕ) (i : ℕ) (vs : List ℕ) → n ≤ i → take n (sets l i vs) ≡ take n l
take-sets n l i [] h = refl
take-sets n l i (v ∷ vs) h = take-sets n (set l i v) (suc i) vs (omega arith) ∙ take-set-le n l i v h

drop-sets : (n : ℕ) (l : List ℕ) (i : ℕ) (vs : List ℕ) → i + length vs ≤ n → drop n (sets l i vs) ≡ drop n l
drop-sets n l i [] h = refl
drop-sets n l i (v ∷ vs) h = drop-sets n (set l i v) (suc i) vs (omega arith) ∙ drop-set-lt n l i v (omega arith)

-- a part of a list is a part of its front
part-of-front : (n k : ℕ) (l : List ℕ) → take n (drop k l) ≡ drop k (take (k + n) l)
part-of-front n zero l = rw zero-add refl
part-of-front n (suc k) [] = take-nil n ∙ sym (rw suc-add refl)
part-of-front n (suc k) (x ∷ l) = rw suc-add (part-of-front n k l)

module _ (z y : Size) (area : List ℕ) (at value from : ℕ) where
  pub loaded-ahead : from + size_bytes z ≤ at → loaded z (stored y area at value) from ≡ loaded z area from
  loaded-ahead h =
      let vs : List ℕ = bytes_of (size_bytes y) value in
      ap join
      (part-of-front (size_bytes z) from (sets area at vs)
      ∙ ap (drop from) (take-sets (from + size_bytes z) area at vs h)
      ∙ sym (part-of-front (size_bytes z) from area))

  pub loaded-behind : at + size_bytes y ≤ from → loaded z (stored y area at value) from ≡ loaded z area from
  loaded-behind h =
      let vs : List ℕ = bytes_of (size_bytes y) value in
      ap (λ (l : List ℕ). join (take (size_bytes z) l)) (drop-sets from area at vs (rw (length-bytes_of (size_bytes y) value) h))
