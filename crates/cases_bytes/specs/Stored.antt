-- Bytes put into a lent buffer, one run behind the other, all or nothing.
use Rattle.std.specs.Prelude.{◌≡◌, Bool, List, ℕ, ◌+◌, ◌≤◌, length}
use Rattle.std.proofs.lemmas.List.Edits.{sets}
use Rattle.base.specs.Pick.{pick}

-- Where they fit, the bytes stand at the start and what is behind them is as it was; else nothing is changed. r is how many were put.
pub record Stored (fits : Bool) (l l' : List ℕ) (r : ℕ) (ys : List ℕ) : Type 0 where
  pub bytes : l' ≡ pick fits (sets l 0 ys) l
  pub size : r ≡ pick fits (length ys) 0
  pub room : r ≤ length l'

-- a run of them from a place on, and the place behind it
pub record Put (l l' : List ℕ) (at r : ℕ) (ys : List ℕ) : Type 0 where
  pub bytes : l' ≡ sets l at ys
  pub next : r ≡ at + length ys
