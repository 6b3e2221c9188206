use Rattle.listing_options.specs.Help.{options_help}
use Rattle.text.proofs.SaysLaws.{then}
use Rattle.listing_options.proofs.help.explain_options.Goals as goal

pub returns-then-end-out : goal.returns-then-end-out
unfolding options_help
returns-then-end-out c = then c.put_flags-flags.ensures (then c.put_page-page.ensures (then c.put_helpers-helpers.ensures c.put_text-end.ensures))
