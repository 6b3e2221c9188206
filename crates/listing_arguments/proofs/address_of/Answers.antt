use Rattle.listing_arguments.specs.Arguments.{address_of}
use Rattle.listing_arguments.proofs.ArgumentsLaws.{to_end}
use borrow.Author.Tests.{lt-ltb, le-ltb}
use Rattle.listing_arguments.proofs.address_of.Goals as goal

pub returns-then-word-at : goal.returns-then-word-at
unfolding address_of
returns-then-word-at c = rw (le-ltb _ _ c.if-word-at.true)

pub returns : goal.returns
unfolding address_of
returns c = rw (lt-ltb _ _ c.if-word-at.false) (rw to_end at c.number_of.ensures)
