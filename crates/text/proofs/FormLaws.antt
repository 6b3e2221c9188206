-- The laws of specs/Forms.antt that the loop over a form needs.
use mathlib.Core.Path.{◌≡◌}
use mathlib.Core.List.{List, ◌++◌}
use Prim.Native.Nat.{ℕ, suc, ◌+◌, ◌<◌, ◌≤◌}
use lib.ListN.{length, get_or, drop}
use lib.Seq.{drop-cons}
use native.Mathlib.Omega.{arith}
use Rattle.text.specs.Text.{Says}
use Rattle.text.proofs.SaysLaws.{nothing, drop_past}
use Rattle.text.specs.Forms.{formed_from, piece_of, takes}

-- what is left of a form at a place that is not the end
pub left-form : (cs xs : List ℕ) (i k : ℕ) → i < length cs
    → formed_from (drop i cs) xs k ≡ piece_of (get_or cs i 0) (get_or xs k 0) ++ formed_from (drop (i + 1) cs) xs (k + takes (get_or cs i 0))
left-form cs xs i k h = let e : i + 1 ≡ suc i = omega arith in rw (e, drop-cons cs i 0 h)

pub done-form : (l cs xs : List ℕ) (k : ℕ) {i at : ℕ} → length cs ≤ i → Says l l at at (formed_from (drop i cs) xs k)
done-form l cs xs k {i} h = rw (drop_past cs i h) nothing
