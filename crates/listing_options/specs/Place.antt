-- What the word asks for that stands where the base address is wanted.
use Rattle.std.specs.Prelude.{Option, Some, None, ◌≡◌, Bool, true, false, List, ℕ, ◌≤◌, take}
use Rattle.std.proofs.Math.ListN as list_n
use Rattle.base.specs.Pick.{pick}
use Rattle.listing_arguments.specs.declared.Word.{Word}
use Rattle.listing_arguments.specs.declared.Word.TheVariants as words
use Rattle.listing_arguments.specs.Arguments.{word_of, base_of}
use Rattle.listing_options.specs.declared.place.Base.{Base}
use Rattle.listing_options.specs.declared.place.Base.TheVariants.{At, Help, Unclear}

-- a base address, or that it is none
abbrev pub numbered : Option ℕ → Base
numbered (Some n) = At n
numbered None = Unclear

abbrev pub base_in : List ℕ → Base
base_in w = numbered (base_of w)

-- the help, or a base address
abbrev pub is_help : Word → Bool
is_help words.Mbuff = false
is_help words.UpdateDataPtr = false
is_help words.Standard = false
is_help words.Compact = false
is_help words.PageSize = false
is_help words.HelperNext = false
is_help words.Help = true
is_help words.File = false
is_help words.Unknown = false

abbrev pub asked_by : List ℕ → Base
asked_by w = pick (is_help (word_of w)) Help (base_in w)

-- What the operating system has for an argument no contract says: the answer is what the word asks for that it left at the buffer's start.
pub record Asked (buffer : List ℕ) (r : Base) : Type 0 where
  pub length : ℕ
  pub inside : length ≤ list_n.length buffer
  pub answer : r ≡ asked_by (take length buffer)
