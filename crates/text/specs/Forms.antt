-- Text with gaps. In a form seven characters stand for the next number, each in its own spelling; any other character is itself.
use Rattle.std.specs.Prelude.{List, [], ◌∷◌, ◌++◌, ℕ, ◌+◌, ◌%◌, get_or}
use Rattle.base.specs.Cases.{Arm, ◌⇒◌, cases}
use Rattle.text.specs.Numerals.{decimal, hex, hex_byte, signed, with_sign, apart}

-- `#` a number in decimal; `~` a signed one, `-8`; `^` with its sign always, `+3`; `_` with its sign apart, `+ 3`; `$` in hexadecimal;
-- `@` its lowest byte in two hexadecimal digits; `%` its lowest byte as a character
abbrev pub spellings : ℕ → List (Arm (List ℕ))
spellings x = 0x25 ⇒ (x % 256 ∷ []) ∷ 0x40 ⇒ hex_byte (x % 256) ∷ 0x24 ⇒ hex x ∷ 0x5f ⇒ apart x ∷ 0x5e ⇒ with_sign x ∷ 0x7e ⇒ signed x ∷ 0x23 ⇒ decimal x ∷ []

abbrev pub piece_of : ℕ → ℕ → List ℕ
piece_of c x = cases (spellings x) (c ∷ []) c

-- how many numbers a character takes
abbrev pub gaps : List (Arm ℕ)
gaps = 0x25 ⇒ 1 ∷ 0x40 ⇒ 1 ∷ 0x24 ⇒ 1 ∷ 0x5f ⇒ 1 ∷ 0x5e ⇒ 1 ∷ 0x7e ⇒ 1 ∷ 0x23 ⇒ 1 ∷ []

abbrev pub takes : ℕ → ℕ
takes c = cases gaps 0 c

-- a form with its numbers put in, from the kth on; a number that is not there is 0
abbrev pub formed_from : List ℕ → List ℕ → ℕ → List ℕ
formed_from [] xs k = []
formed_from (c ∷ cs) xs k = piece_of c (get_or xs k 0) ++ formed_from cs xs (k + takes c)

abbrev pub formed : List ℕ → List ℕ → List ℕ
formed cs xs = formed_from cs xs 0
