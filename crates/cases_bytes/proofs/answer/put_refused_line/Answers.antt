use Rattle.cases_bytes.specs.Answers.{refused_line}
use Rattle.text.proofs.SaysLaws.{then}
use Rattle.cases_bytes.proofs.answer.put_refused_line.Goals as goal

pub returns : goal.returns
unfolding refused_line
returns c = then c.put_form-end.ensures c.put_byte.ensures
