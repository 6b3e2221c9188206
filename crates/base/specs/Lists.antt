-- A list put over the head of another.
use Rattle.std.specs.Prelude.{List, ◌++◌, ℕ, length, drop}

-- ys stand at the head of l, and what is behind them is unchanged
abbrev pub over : List ℕ → List ℕ → List ℕ
over ys l = ys ++ drop (length ys) l
