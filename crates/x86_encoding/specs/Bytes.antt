-- What the readers of bytes answer: the bytes from a place on, and how the definition's `number` goes on with them.
use Rattle.std.specs.Prelude.{◌≡◌, List, [], ◌∷◌, ℕ, drop, Option, Some, None}
use Rattle.x86.specs.Decode.{Read, bad, Next, number}

-- the byte and the bytes behind it; none behind the end
abbrev pub byte_is : List ℕ → Option (ℕ × ℕ) → List ℕ
byte_is s None = []
byte_is s (Some (b, next)) = b ∷ drop next s

-- what `number` is, where it goes on with k
abbrev pub number_is : List ℕ → Option (ℕ × ℕ) → (ℕ → Next) → Read
number_is s None k = bad
number_is s (Some (v, next)) k = k v (drop next s)

-- a number of n bytes
abbrev pub ReadsNumber : ℕ → List ℕ → ℕ → Option (ℕ × ℕ) → Type 0
ReadsNumber n s at r = (k : ℕ → Next) → number n k (drop at s) ≡ number_is s r k
