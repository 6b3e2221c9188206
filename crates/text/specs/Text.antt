-- Text in a lent buffer: the bytes ys stand from `at` on, and r is the place behind them. What does not fit is cut: nothing is written
-- past the end, and r does not pass it.
use Rattle.std.specs.Prelude.{◌≡◌, List, [], ◌∷◌, ℕ, ◌+◌, max, min, length}
use Prim.Native.Char.{code}
use Prim.Native.String.{String, [] as none, ◌∷◌ as ◌⊳◌}
use Rattle.std.proofs.lemmas.List.Edits.{sets}

-- the codes of a text's characters
abbrev pub ascii : String → List ℕ
ascii none = []
ascii (c ⊳ s) = code c ∷ ascii s

pub record Says (l l' : List ℕ) (at r : ℕ) (ys : List ℕ) : Type 0 where
  pub text : l' ≡ sets l at ys
  pub next : r ≡ max at (min (at + length ys) (length l))
