-- The words that a listing or a map is asked for with: which option a word is and what it adds to the mode, a number, a helper, a base
-- address.
use Rattle.std.specs.Prelude.{Option, Some, None, Bool, true, false, ◌&&◌, List, [], ◌∷◌, ℕ, ◌+◌, ◌*◌, ◌^◌, ltb, eqb, length, get_or, take, drop}
use Rattle.base.specs.Pick.{pick}
use Rattle.jit.specs.declared.Mode.{Mode}
use Rattle.text.specs.Text.{ascii}
unfoldable pub use Rattle.text.specs.Numerals.{digit_of}
use Rattle.listing_arguments.specs.declared.Word.{Word}
use Rattle.listing_arguments.specs.declared.Word.TheVariants.{Mbuff, UpdateDataPtr, Standard, Compact, PageSize, HelperNext, Help, File, Unknown}

-- whether two texts are the same
abbrev pub equal : List ℕ → List ℕ → Bool
equal [] [] = true
equal [] (b ∷ ys) = false
equal (a ∷ xs) [] = false
equal (a ∷ xs) (b ∷ ys) = eqb a b && equal xs ys

-- an option by its name; else a file, unless it is empty or begins with `-`
unfoldable pub word_of : List ℕ → Word
word_of w =
    pick (equal w (ascii "--mbuff")) Mbuff
    (pick (equal w (ascii "--update-data-ptr")) UpdateDataPtr
    (pick (equal w (ascii "--standard")) Standard
    (pick (equal w (ascii "--compact")) Compact
    (pick (equal w (ascii "--page")) PageSize
    (pick (equal w (ascii "--helper")) HelperNext (pick (equal w (ascii "--help")) Help (pick (eqb (get_or w 0 0x2d) 0x2d) Unknown File)))))))

-- the mode with what a word asks for
abbrev pub mode_with : Mode → Word → Mode
mode_with m Mbuff = m
mode_with m UpdateDataPtr = m
mode_with m Standard = record { standard = true; compact = m.compact }
mode_with m Compact = record { standard = m.standard; compact = true }
mode_with m PageSize = m
mode_with m HelperNext = m
mode_with m Help = m
mode_with m File = m
mode_with m Unknown = m

-- a number with one digit more, where the character is one and the number stays below 2^64
unfoldable pub grown : ℕ → ℕ → ℕ → Option ℕ
grown b n d = pick (ltb d b) (pick (ltb (n * b + d) (2 ^ 64)) (Some (n * b + d)) None) None

abbrev pub read_on : ℕ → Option ℕ → List ℕ → Option ℕ
read_on b m [] = m
read_on b None (c ∷ cs) = None
read_on b (Some n) (c ∷ cs) = read_on b (grown b n (digit_of c)) cs

-- at least one digit
unfoldable pub digits : ℕ → List ℕ → Option ℕ
digits b [] = None
digits b (c ∷ cs) = read_on b (Some 0) (c ∷ cs)

-- hexadecimal behind `0x`; else in the base b
unfoldable pub prefixed : ℕ → List ℕ → Option ℕ
prefixed b w = pick (eqb (get_or w 0 0) 0x30 && eqb (get_or w 1 0) 0x78) (digits 16 (drop 2 w)) (digits b w)

-- decimal, or hexadecimal behind `0x`
abbrev pub number_of : List ℕ → Option ℕ
number_of w = prefixed 10 w

-- hexadecimal, behind `0x` or as it stands
abbrev pub base_of : List ℕ → Option ℕ
base_of w = prefixed 16 w

abbrev pub helper : Option ℕ → Option ℕ → Option (ℕ × ℕ)
helper (Some i) (Some a) = pick (ltb i (2 ^ 32)) (Some (i, a)) None
helper (Some i) None = None
helper None a = None

-- the address behind the first `=`; where there is none, one that is loaded as a Linux program's functions are, by ten bytes
unfoldable pub address_of : List ℕ → ℕ → Option ℕ
address_of w at = pick (ltb at (length w)) (number_of (drop (at + 1) w)) (Some 0x7f0000000000)

-- the place of the first byte b; the length, where there is none
unfoldable pub index_of : ℕ → List ℕ → ℕ
index_of b [] = 0
index_of b (a ∷ w) = pick (eqb a b) 0 (1 + index_of b w)

unfoldable pub helper_of : List ℕ → Option (ℕ × ℕ)
helper_of w = helper (number_of (take (index_of 0x3d w) w)) (address_of w (index_of 0x3d w))
