-- Which word of a replay a word is.
use Rattle.std.specs.Prelude.{List, ℕ}
use Rattle.base.specs.Pick.{pick}
use Rattle.text.specs.Text.{ascii}
use Rattle.listing_arguments.specs.Arguments as arguments
use Rattle.listing_arguments.specs.Arguments.{equal}
use Rattle.listing_arguments.specs.declared.Word as common
use Rattle.listing_arguments.specs.declared.Word.TheVariants.{Mbuff, UpdateDataPtr, Standard, Compact, PageSize, HelperNext, Help, File, Unknown}
use Rattle.replay_options.specs.declared.words.Word.{Word}
use Rattle.replay_options.specs.declared.words.Word.TheVariants.{WriteNext, Name, Foreign, Common}

-- of the words of other programs a replay has no flag and no mode
abbrev pub shared : common.Word → Word
shared Mbuff = Foreign
shared UpdateDataPtr = Foreign
shared Standard = Foreign
shared Compact = Foreign
shared PageSize = Common
shared HelperNext = Common
shared Help = Common
shared File = Name
shared Unknown = Common

-- `-` is a name too: standard input's
unfoldable pub word_of : List ℕ → Word
word_of w = pick (equal w (ascii "--write")) WriteNext (pick (equal w (ascii "-")) Name (shared (arguments.word_of w)))
