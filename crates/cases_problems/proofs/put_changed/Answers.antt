use Rattle.text.proofs.SaysLaws.{then}
use Rattle.cases_problems.proofs.put_changed.Goals as goal

pub returns : goal.returns
returns c = then c.put_text-told.ensures (then c.put_text-named.ensures c.put_text.ensures)
