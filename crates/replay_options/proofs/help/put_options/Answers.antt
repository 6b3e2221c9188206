use Rattle.text.proofs.SaysLaws.{then}
use Rattle.replay_options.specs.Help.{options_help}
use Rattle.replay_options.proofs.help.put_options.Goals as goal

pub returns : goal.returns
unfolding options_help
returns c =
    then c.put_page-page.ensures
    (then c.put_helpers-helpers.ensures (then c.put_text-write.ensures c.put_text.ensures))
