-- What `read_base` counts on, that no word asks for nothing; and words that ask for something.
use mathlib.Core.Path.{◌≡◌, ◌∙◌, refl}
use mathlib.Core.List.{List, []}
use Prim.Native.Nat.{ℕ}
use native.Mathlib.Omega.{arith}
use Rattle.text.specs.Text.{ascii}
use Rattle.listing_arguments.specs.Arguments.{word_of, digit_of, grown, digits, prefixed}
use Rattle.listing_options.specs.declared.place.Base.{Base}
use Rattle.listing_options.specs.declared.place.Base.TheVariants.{At, Help, Unclear}
use Rattle.listing_options.specs.Place.{asked_by, Asked}

empty : asked_by [] ≡ Unclear
unfolding word_of prefixed digits
empty = refl

pub none : {buffer : List ℕ} {r : Base} → r ≡ Unclear → Asked buffer r
none e = record { length = 0; inside = omega arith; answer = e ∙ rw empty }

-- The help is no base address, and a number is one, with 0x and without; another option is none.
help-is-help : asked_by (ascii "--help") ≡ Help
unfolding word_of
help-is-help = refl

base-is-base : (asked_by (ascii "0x7F00") ≡ At 0x7f00) × (asked_by (ascii "7f00") ≡ At 0x7f00)
unfolding word_of prefixed digits grown digit_of
base-is-base = (refl, refl)

option_is_none : asked_by (ascii "--compact") ≡ Unclear
unfolding word_of prefixed digits grown digit_of
option_is_none = refl
