use Rattle.listing_options.specs.Help.{complaint}
use Rattle.text.proofs.SaysLaws.{then}
use Rattle.listing_options.proofs.options.complain.Goals as goal

pub returns-then-end-line : goal.returns-then-end-line
unfolding complaint
returns-then-end-line c = then c.put_name-name.ensures (then c.put_text-wrong.ensures (then c.put_text-with.ensures c.put_text-end.ensures))
