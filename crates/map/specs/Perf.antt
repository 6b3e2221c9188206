-- How perf reads the map of generated code, from the kernel's tools/perf/Documentation/jit-interface.txt: "Each line has the following format,
-- fields separated with spaces: START SIZE symbolname. START and SIZE are hex numbers without 0x. symbolname is the rest of the line, so it
-- could contain special characters." A field ends at one space, as in perf's own reader. Nothing here knows how the text was written.
use Rattle.std.specs.Prelude.{List, [], ◌∷◌, ℕ, zero, suc, ◌+◌, ◌*◌, ltb, eqb, length}
use Rattle.base.specs.Pick.{pick}
use Rattle.text.specs.Numerals.{digit_of}

abbrev pub space : ℕ
space = 0x20

abbrev pub newline : ℕ
newline = 0x0a

-- what a line says: the bytes from an address on have that name
pub record Symbol : Type 0 where
  pub start : ℕ
  pub size : ℕ
  pub name : List ℕ

-- a line, or a field of one, and the text behind it; or that there is none
pub data Took (A : Type 0) : Type 0 where
  none : Took A
  took : A → List ℕ → Took A

abbrev pub and_then : {A B : Type 0} → Took A → (A → List ℕ → Took B) → Took B
and_then none f = none
and_then (took a behind) f = f a behind

-- digits of either case, up to the first character that is none; at least one
abbrev pub digits_from : ℕ → List ℕ → Took ℕ
digits_from n [] = took n []
digits_from n (c ∷ cs) = pick (ltb (digit_of c) 16) (digits_from (n * 16 + digit_of c) cs) (took n (c ∷ cs))

abbrev pub number : List ℕ → Took ℕ
number [] = none
number (c ∷ cs) = pick (ltb (digit_of c) 16) (digits_from (digit_of c) cs) none

abbrev pub separator : List ℕ → Took (List ℕ)
separator [] = none
separator (c ∷ cs) = pick (eqb c space) (took [] cs) none

-- the rest of the line, whose end has to be there
abbrev pub led : ℕ → Took (List ℕ) → Took (List ℕ)
led c none = none
led c (took name behind) = took (c ∷ name) behind

abbrev pub rest_of_line : List ℕ → Took (List ℕ)
rest_of_line [] = none
rest_of_line (c ∷ cs) = pick (eqb c newline) (took [] cs) (led c (rest_of_line cs))

abbrev pub symbol_in : List ℕ → Took Symbol
symbol_in text =
    and_then (number text) λ start r.
    and_then (separator r) λ _ r.
    and_then (number r) λ size r.
    and_then (separator r) λ _ r.
    and_then (rest_of_line r) λ name r.
    took (record { start = start; size = size; name = name }) r

-- All lines; or that one is none.
pub data Reading : Type 0 where
  torn : Reading
  all : List Symbol → Reading

abbrev pub cons : Symbol → Reading → Reading
cons s torn = torn
cons s (all ss) = all (s ∷ ss)

abbrev pub onward : Took Symbol → (List ℕ → Reading) → Reading
onward none k = torn
onward (took s behind) k = cons s (k behind)

abbrev pub more : List ℕ → (List ℕ → Reading) → Reading
more [] k = all []
more (c ∷ cs) k = onward (symbol_in (c ∷ cs)) k

-- n lines at most: each has a character, so that there are no more of them than characters
unfoldable pub lines_up_to : ℕ → List ℕ → Reading
lines_up_to zero text = more text (λ t. torn)
lines_up_to (suc n) text = more text (λ t. lines_up_to n t)

abbrev pub read_map : List ℕ → Reading
read_map text = lines_up_to (length text) text
