-- The laws of specs/ReportText.antt that its functions need: the spaces in front of a number, the largest of a list from a place on, and the
-- rows from a slot on.
use mathlib.Core.Path.{◌≡◌, refl, ap}
use mathlib.Core.Bool.{Bool, false}
use mathlib.Core.List.{List, [], ◌∷◌, ◌++◌}
use Prim.Native.Nat.{ℕ, zero, suc, ◌+◌, ◌-◌, ◌≤◌, ◌<◌, max}
use native.Mathlib.Omega.{arith}
use lib.ListN.{length, get_or, take, drop, replicate}
use lib.Seq.{drop-cons}
use Rattle.base.specs.Pick.{pick}
use Rattle.text.specs.Text.{Says}
use Rattle.text.specs.Numerals.{decimal}
use Rattle.text.proofs.SaysLaws.{drop_past, nothing}
use Rattle.replay.specs.Run.{is_wide, opcode_at, is_second}
use Rattle.replay_text.specs.declared.report.Columns.{Columns}
use Rattle.replay_text.specs.ReportText.{right_text, largest_of, row_unless, rows_from}

-- A number that is as wide as its column, or wider; and one with spaces in front, which are taken from a row of them.
pub wide_enough : (width n : ℕ) → width ≤ length (decimal n) → decimal n ≡ right_text width n
unfolding right_text
wide_enough width n h = let e : width - length (decimal n) ≡ 0 = omega arith in rw e

take-copies : (k n x : ℕ) → k ≤ n → take k (replicate n x) ≡ replicate k x
take-copies zero n x h = refl
take-copies (suc k) zero x h = absurd (omega arith)
take-copies (suc k) (suc n) x h = ap (λ (t : List ℕ). x ∷ t) (take-copies k n x (omega arith))

pub spaced : (width n most : ℕ) → width ≤ most → take (width - length (decimal n)) (replicate most 0x20) ++ decimal n ≡ right_text width n
unfolding right_text
spaced width n most h = rw (take-copies (width - length (decimal n)) most 0x20 (omega arith))

-- The largest from a place on, and behind the last.
pub largest-left : (cs : List ℕ) (i : ℕ) → i < length cs → largest_of (drop i cs) ≡ max (get_or cs i 0) (largest_of (drop (i + 1) cs))
largest-left cs i h = let e : i + 1 ≡ suc i = omega arith in rw (e, drop-cons cs i 0 h)

pub largest-done : (cs : List ℕ) (i : ℕ) → length cs ≤ i → largest_of (drop i cs) ≡ 0
largest-done cs i h = rw (drop_past cs i h)

-- The rows from slot 0 on, from a slot on that is not behind the last, and behind the last.
module _ (prog : List ℕ) (c : Columns) (counts : List ℕ) where
  pub rows_all : (slots : ℕ) → rows_from (slots - 0) prog c counts 0 ≡ rows_from slots prog c counts 0
  rows_all slots = let e : slots - 0 ≡ slots = omega arith in rw e

  pub rows_left : (slots slot : ℕ) → slot < slots
      → rows_from (slots - slot) prog c counts slot
      ≡ row_unless prog c counts slot (is_second prog slot) ++ rows_from (slots - (slot + 1)) prog c counts (slot + 1)
  rows_left slots slot h =
      let e : slots - slot ≡ suc (slots - (slot + 1)) = omega arith in
      let f : slot + 1 ≡ suc slot = omega arith in
      rw (e, f)

  pub rows-done : (l : List ℕ) (slots slot : ℕ) {at : ℕ} → slots ≤ slot → Says l l at at (rows_from (slots - slot) prog c counts slot)
  rows-done l slots slot h = let e : slots - slot ≡ 0 = omega arith in rw e nothing

-- whether the next slot is the second half of a wide load
pub second-next : (prog : List ℕ) (slot : ℕ) (now next : Bool) → now ≡ is_second prog slot → next ≡ pick now false (is_wide (opcode_at prog slot))
    → next ≡ is_second prog (slot + 1)
unfolding is_second
second-next prog slot now next e f = let g : slot + 1 ≡ suc slot = omega arith in rw (g, f, e)
