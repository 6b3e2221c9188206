use Rattle.listing_options.specs.Help.{helpers_help}
use Rattle.text.proofs.SaysLaws.{then}
use Rattle.listing_options.proofs.help.put_helpers.Goals as goal

pub returns : goal.returns
unfolding helpers_help
returns c = then c.put_form-id.ensures (then c.put_form-address.ensures c.put_end.ensures)
