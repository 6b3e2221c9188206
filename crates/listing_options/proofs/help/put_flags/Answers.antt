use Rattle.listing_options.specs.Help.{flags_help}
use Rattle.text.proofs.SaysLaws.{then}
use Rattle.listing_options.proofs.help.put_flags.Goals as goal

pub returns : goal.returns
unfolding flags_help
returns c =
    let last = then c.put_text-compact.ensures c.put_end.ensures in
    then c.put_text-mbuff.ensures (then c.put_text-update.ensures (then c.put_text-standard.ensures last))
