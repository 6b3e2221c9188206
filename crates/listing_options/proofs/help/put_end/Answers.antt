use Rattle.text.proofs.SaysLaws.{same, then}
use Rattle.listing_options.proofs.help.put_end.Goals as goal

pub returns-in-Listing : goal.returns-in-Listing
returns-in-Listing c =
    let told = c.in-Listing.is in
    same (then c.put_text-next.ensures c.put_byte.ensures) (rw told)
