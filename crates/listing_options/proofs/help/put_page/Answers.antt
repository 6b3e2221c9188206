use Rattle.listing_options.specs.Help.{page_help}
use Rattle.listing_options.proofs.help.put_page.Goals as goal

pub returns : goal.returns
unfolding page_help
returns c = c.put_form.ensures
