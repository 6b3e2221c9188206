use Rattle.listing_options.proofs.PlaceLaws.{none}
use Rattle.listing_options.proofs.place.read_base.Goals as goal

pub returns-then-word_count-lt2 : goal.returns-then-word_count-lt2
returns-then-word_count-lt2 c = none c.unclear.ensures

pub returns-in_default : goal.returns-in_default
returns-in_default c = none c.too_long.ensures
