-- Lists that are copied: at the head of a buffer, and at a place of one.
use Rattle.std.proofs.Common.{◌≡◌, ℕ, ◌+◌, ◌-◌, ◌≤◌, List, [], ◌∷◌, ◌++◌, length, take, drop, sym, refl, ap, ◌∙◌, append-nil, arith, length-drop, drop_of_length-le, take_all, drop-drop}
use borrow.Rule.Slice.PartMut.{mid_of, post_of, put_mid}
use lib.Seq.{take-length, take-append_seam, drop-append_seam}
use Rattle.base.specs.Lists.{over}

module _ (src dst : List ℕ) {dst' : List ℕ} (e : dst' ≡ take (length src) src ++ drop (length src) dst) where
  at_head : dst' ≡ src ++ drop (length src) dst
  at_head = e ∙ ap (λ (l : List ℕ). l ++ drop (length src) dst) (take-length src)

  pub copy-head : take (length src) dst' ≡ src
  copy-head = ap (λ (l : List ℕ). take (length src) l) at_head ∙ take-append_seam src (drop (length src) dst)

  pub copy-tail : drop (length src) dst' ≡ drop (length src) dst
  copy-tail = ap (λ (l : List ℕ). drop (length src) l) at_head ∙ drop-append_seam src (drop (length src) dst)

-- a list as long as what was copied, put over it
pub put-over : (src dst new : List ℕ) {dst' : List ℕ} → dst' ≡ take (length src) src ++ drop (length src) dst → length new ≡ length src
    → new ++ drop (length src) dst' ≡ over new dst
put-over src dst new e n =
    ap (λ (l : List ℕ). new ++ l) (copy-tail src dst e ∙ ap (λ (k : ℕ). drop k dst) (sym n))

-- a list that is copied to a place
pub put-at : (kept packet ys : List ℕ) (at : ℕ) → at + length packet ≤ length kept
    → ys ≡ take (length packet) packet ++ drop (length packet) (mid_of at (length kept - at) kept)
    → put_mid at (length kept - at) kept ys ≡ take at kept ++ (packet ++ drop (at + length packet) kept)
put-at kept packet ys at h e =
    let k : length (drop at kept) ≤ length kept - at = omega (arith, length-drop at kept) in
    let m : take (length kept - at) (drop at kept) ≡ drop at kept = take_all (length kept - at) (drop at kept) k in
    let z : drop (length kept - at) (drop at kept) ≡ [] = drop_of_length-le (drop at kept) k in
    let y : ys ≡ packet ++ drop (at + length packet) kept =
    e ∙ (ap (λ (l : List ℕ). l ++ drop (length packet) (mid_of at (length kept - at) kept)) (take-length packet)
    ∙ ap (λ (l : List ℕ). packet ++ l) (ap (λ (l : List ℕ). drop (length packet) l) m ∙ drop-drop (length packet) at kept)) in
    ap (λ (l : List ℕ). take at kept ++ l) (ap (λ (l : List ℕ). ys ++ l) z ∙ (append-nil ys ∙ y))
