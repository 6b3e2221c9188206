-- For theorems on what a contract with `Says` rules out: other texts, and a wrong place behind the text, in a line of 40 bytes.
use mathlib.Core.List.{List, [], ◌∷◌}
use Prim.Native.Nat.{ℕ, ◌+◌, ◌*◌, ◌%◌, ◌^◌}
use Prim.Native.String.{String}
use lib.ListN.{replicate}
use lib.Seq.{sets}
use Rattle.text.specs.Text.{Says, ascii}

abbrev pub line : List ℕ
line = replicate 40 0

-- a line in one number: two that differ in it are not the same
abbrev pub told : List ℕ → ℕ
told [] = 0
told (b ∷ bs) = (b + 257 * told bs) % 2 ^ 64

-- where `text` is asked for, s is left at the start of the line, and k is answered
abbrev pub Puts : List ℕ → String → ℕ → Type 0
Puts text s k = Says line (sets line 0 (ascii s)) 0 k text

-- s is not what is left, whatever is answered
abbrev pub Never : List ℕ → String → Type 0
Never text s = (k : ℕ) → Puts text s k → ⊥
