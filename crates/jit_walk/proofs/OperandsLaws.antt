-- The search for a helper: the address beside the first entry that is the id.
use Rattle.std.proofs.Common.{◌≡◌, ℕ, ◌+◌, Bool, true, false, cond, List, [], ◌∷◌, length, eqb, Option, Some, None, get_or, drop, refl, arith}
use Rattle.std.specs.List.{position_from}
use lib.Seq.{drop-cons}
use native.Mathlib.Numerals.{add-one}
use Rattle.jit.specs.Translation.{helper_of, found}

-- the address at an entry that was found
abbrev pub address_at : List ℕ → Option ℕ → Option ℕ
address_at addresses None = None
address_at addresses (Some k) = Some (get_or addresses k 0)

module _ (addresses : List ℕ) (id : ℕ) where
  helper-from : (ids : List ℕ) (k : ℕ) → k + length ids ≡ length addresses
      → address_at addresses (position_from (λ x. eqb x id) k ids) ≡ helper_of ids (drop k addresses) id
  unfolding helper_of
  helper-from [] k e = refl
  helper-from (x ∷ ids) k e = rw (drop-cons addresses k 0 (omega (arith, e)), ← add-one k) (by (eqb x id) (helper-from ids (k + 1) (omega (arith, e))))
    where
      by : (t : Bool) → address_at addresses (position_from (λ y. eqb y id) (k + 1) ids) ≡ helper_of ids (drop (k + 1) addresses) id
          → address_at addresses (cond t (Some k) (position_from (λ y. eqb y id) (k + 1) ids))
          ≡ found t (get_or addresses k 0) (helper_of ids (drop (k + 1) addresses) id)
      by true h = refl
      by false h = h

  pub helper-is : (ids : List ℕ) → length ids ≡ length addresses → address_at addresses (position_from (λ x. eqb x id) 0 ids) ≡ helper_of ids addresses id
  helper-is ids e = helper-from ids 0 (omega (arith, e))
