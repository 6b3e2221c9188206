use Rattle.listing_saving.specs.Saving.{saved_line}
use Rattle.text.proofs.SaysLaws.{same}
use borrow.Author.Rules.{rules}
use Rattle.listing_saving.proofs.put_saved.Goals as goal

pub returns-then-compact : goal.returns-then-compact
unfolding saved_line
returns-then-compact c = same c.put_form.ensures (rw (c.if-compact.true, c.saturating_sub.ensures))

pub returns : goal.returns
unfolding saved_line
returns c = same c.put_form-2.ensures (rw (c.if-compact.false, c.saturating_sub-2.ensures))
