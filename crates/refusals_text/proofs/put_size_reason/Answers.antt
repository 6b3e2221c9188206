use Rattle.text.proofs.SaysLaws.{same}
use Rattle.refusals_text.specs.Sentences.{size_reason}
use Rattle.refusals_text.proofs.put_size_reason.Goals as goal

pub returns-in-2 : goal.returns-in-2
unfolding size_reason
returns-in-2 c = same c.put_form-in-2.ensures (rw c.in-2.is)

pub returns-in-3 : goal.returns-in-3
unfolding size_reason
returns-in-3 c = same c.put_form-in-3.ensures (rw c.in-3.is)

pub returns-in-4 : goal.returns-in-4
unfolding size_reason
returns-in-4 c = same c.put_form-in-4.ensures (rw c.in-4.is)
