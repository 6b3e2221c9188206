use Rattle.text.proofs.SaysLaws.{then}
use Rattle.refusals_text.specs.Sentences.{numbered_as}
use Rattle.refusals_text.proofs.Enough.{enough, sentenced}
use Rattle.refusals_text.proofs.sentence.Goals as goal

pub returns : goal.returns
unfolding numbered_as
returns c =
    sentenced (enough _ _ _)
    (then c.put_place-next.ensures
    (then c.put_reason-next.ensures (rw c.from.ensures at c.put_form.ensures)))
