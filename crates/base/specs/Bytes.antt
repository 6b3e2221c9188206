-- Numbers as bytes, lowest first, and back. A number of 16, 32 or 64 bits that may be negative is its two's complement.
use Rattle.std.specs.Prelude.{List, [], ◌∷◌, ℕ, zero, suc, ◌+◌, ◌*◌, ◌/◌, ◌%◌}

-- the lowest n bytes
abbrev pub bytes_of : (n : ℕ) → ℕ → List ℕ
bytes_of zero x = []
bytes_of (suc n) x = x % 256 ∷ bytes_of n (x / 256)

abbrev pub le16 : ℕ → List ℕ
le16 x = bytes_of 2 x

abbrev pub le32 : ℕ → List ℕ
le32 x = bytes_of 4 x

abbrev pub le64 : ℕ → List ℕ
le64 x = bytes_of 8 x

-- the number that bytes make
abbrev pub join : List ℕ → ℕ
join [] = 0
join (b ∷ bs) = b + 256 * join bs
