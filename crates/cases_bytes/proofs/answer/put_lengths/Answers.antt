use Rattle.cases_bytes.specs.Answers.{accepted_head}
use Rattle.cases_bytes.proofs.StoredLaws.{behind}
use Rattle.cases_bytes.proofs.answer.put_lengths.Goals as goal

pub returns : goal.returns
unfolding accepted_head
returns c =
    behind c.put_number-a.ensures
    (behind c.put_byte-b.ensures
    (behind c.put_number-c.ensures
    (behind c.put_number-d.ensures c.put_number.ensures)))
