-- What an emitter does to the page: the bytes ys stand behind what stood before `at`, and r is the place behind them. It may leave
-- anything in the next eight bytes, since whole words are stored, and whoever comes next writes over them; what lies further is as it was.
use Rattle.std.specs.Prelude.{◌≡◌, ℕ, ◌+◌, List, ◌++◌, length, take, drop}

pub record Wrote (l l' : List ℕ) (at r : ℕ) (ys : List ℕ) : Type 0 where
  pub next : r ≡ at + length ys
  pub head : take r l' ≡ take at l ++ ys
  pub tail : drop (r + 8) l' ≡ drop (r + 8) l
