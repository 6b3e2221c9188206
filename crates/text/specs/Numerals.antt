-- Numbers as text: the digits, the most significant first. proofs/NumeralLaws.antt has the law that they are read back as the number.
use Rattle.std.specs.Prelude.{List, [], ◌∷◌, ◌++◌, ℕ, zero, suc, ◌+◌, ◌-◌, ◌*◌, ◌/◌, ◌%◌, ◌^◌, ltb, leb}
use Rattle.base.specs.Pick.{pick}
use Rattle.base.specs.Table.{values}
use Rattle.text.specs.Text.{ascii}

-- the character of a digit below 16: `0` to `9`, then `a` to `f`
abbrev pub glyph : ℕ → ℕ
glyph d = pick (ltb d 10) (0x30 + d) (0x57 + d)

-- a number in a base, in at most `most` digits: a single digit, or what stands before the last digit and then that
abbrev pub numeral : ℕ → ℕ → ℕ → List ℕ
numeral b zero n = []
numeral b (suc most) n = pick (ltb n b) (glyph n ∷ []) (numeral b most (n / b) ++ glyph (n % b) ∷ [])

-- 64 bits have at most 20 decimal digits, and 16 hexadecimal ones
abbrev pub most_digits : ℕ
most_digits = 20

unfoldable pub decimal : ℕ → List ℕ
decimal n = numeral 10 most_digits n

unfoldable pub hex : ℕ → List ℕ
hex n = numeral 16 16 n

-- two digits in one number, the first in its lower byte: of each number below 256
unfoldable pub pairs : List ℕ
pairs = values (λ k. glyph (k / 16) + 256 * glyph (k % 16)) 0 256

-- a byte, always in two digits
abbrev pub hex_byte : ℕ → List ℕ
hex_byte x = glyph (x / 16) ∷ glyph (x % 16) ∷ []

-- what a character counts as a digit, `0` to `9`, `A` to `F` and `a` to `f`; 16 where it is none
unfoldable pub digit_of : ℕ → ℕ
digit_of c =
    pick (ltb c 0x30) 16
    (pick (leb c 0x39) (c - 0x30)
    (pick (ltb c 0x41) 16 (pick (leb c 0x46) (c - 0x41 + 10) (pick (ltb c 0x61) 16 (pick (leb c 0x66) (c - 0x61 + 10) 16)))))

-- A number in two's complement at 64 bits: with a minus where it is negative; with its sign always; with its sign apart, as a sum or a
-- difference.
abbrev pub signed : ℕ → List ℕ
signed x = pick (ltb x (2 ^ 63)) (decimal x) (ascii "-" ++ decimal (2 ^ 64 - x))

abbrev pub with_sign : ℕ → List ℕ
with_sign x = pick (ltb x (2 ^ 63)) (ascii "+" ++ decimal x) (ascii "-" ++ decimal (2 ^ 64 - x))

abbrev pub apart : ℕ → List ℕ
apart x = pick (ltb x (2 ^ 63)) (ascii "+ " ++ decimal x) (ascii "- " ++ decimal (2 ^ 64 - x))

-- the three as one: a number behind the text for its sign
abbrev pub behind : (plus minus : List ℕ) → ℕ → List ℕ
behind plus minus x = pick (ltb x (2 ^ 63)) (plus ++ decimal x) (minus ++ decimal (2 ^ 64 - x))

-- A 32-bit two's complement number at 64 bits: no sign is lost.
abbrev pub extended : ℕ → ℕ
extended x = pick (ltb x (2 ^ 31)) x (x + 0xffffffff00000000)
