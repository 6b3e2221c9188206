-- What the flag `compact` saves, in words: a line below a listing's totals, and below the reason of a program for which there is no room.
use Rattle.std.specs.Prelude.{Bool, true, not, ◌&&◌, List, [], ◌∷◌, ◌++◌, ℕ, ◌+◌, ◌-◌, eqb, Ok, Err}
use Rattle.base.specs.Pick.{pick}
use Rattle.jit.specs.declared.Flags.{Flags}
use Rattle.jit.specs.declared.Mode.{Mode}
use Rattle.jit.specs.declared.Refusal.{Refusal}
use Rattle.jit.specs.Limits.{most_slots}
use Rattle.jit.specs.Refusals.{number_of, slot_of}
use Rattle.jit.specs.Translation.{Filter, Inputs}
use Rattle.jit_translate.specs.Lent.{sized}
use Rattle.jit_translate.specs.Translated.{Answer}
use Rattle.text.specs.Text.{ascii}
use Rattle.text.specs.Forms.{formed}
use Rattle.refusals_text.specs.Sentences.{sentence_of}

-- the same mode, with the flag the other way
abbrev pub turned : Mode → Mode
turned m = record { standard = m.standard; compact = not m.compact }

-- Both ways it is accepted: the code has `own` bytes as it was asked for, `other` with the flag the other way.
unfoldable pub saved_line : Bool → (own other : ℕ) → List ℕ
saved_line compact own other =
    pick compact
    (formed (ascii "--compact saves # bytes: without it the code has #") ((other - own) ∷ other ∷ []))
    (formed (ascii "--compact would save # bytes: with it the code has #") ((own - other) ∷ other ∷ []))

-- there is no room for it, and with the flag there is
unfoldable pub fits_line : ℕ → List ℕ
fits_line other = formed (ascii "with --compact it fits: the code has # bytes") (other ∷ [])

abbrev pub accepted_line : Bool → (own : Answer) → (other : ℕ) → List ℕ
accepted_line compact (Ok a) other = saved_line compact a.length other
accepted_line compact (Err r) other = fits_line other

-- with the flag the other way it is refused
unfoldable pub way_of : Bool → List ℕ
way_of compact = pick compact (ascii "without --compact it is refused: ") (ascii "with --compact it is refused: ")

abbrev pub refused_line : (prog : List ℕ) → Bool → Refusal → List ℕ
refused_line prog compact r = way_of compact ++ sentence_of prog (number_of r) (slot_of r)

-- the line by both answers, as it was asked for and with the flag the other way
abbrev pub line_of : (prog : List ℕ) → Bool → (own other : Answer) → List ℕ
line_of prog compact own (Ok a) = accepted_line compact own a.length
line_of prog compact own (Err r) = refused_line prog compact r

-- There is one where the program is accepted, and where it has no room (13) and the flag is off: any other refusal stays as it is.
abbrev pub is_said : Bool → (own : Answer) → Bool
is_said compact (Ok a) = true
is_said compact (Err r) = not compact && eqb (number_of r) 13

abbrev pub saving_of : (prog : List ℕ) → Bool → (own other : Answer) → List ℕ
saving_of prog compact own other = pick (is_said compact own) (line_of prog compact own other) []

-- a line has its newline; where nothing is said there is no line
abbrev pub listed : List ℕ → List ℕ
listed [] = []
listed (c ∷ cs) = (c ∷ cs) ++ (0x0a ∷ [])

-- What is asked, in tables that have room for every program.
abbrev pub entries : ℕ
entries = most_slots + 1

abbrev pub roomy : Filter → Flags → (page : ℕ) → Inputs
roomy filter flags page = sized filter flags page entries entries entries entries entries
