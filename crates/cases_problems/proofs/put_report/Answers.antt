use Rattle.text.proofs.SaysLaws.{then}
use Rattle.cases_problems.specs.Problems.{report_of}
use Rattle.cases_problems.proofs.put_report.Goals as goal

pub returns : goal.returns
unfolding report_of
returns c =
    then c.put_text-named.ensures
    (then c.put_byte-apart.ensures
    (then c.put_decimal-counted.ensures (then c.put_why-told.ensures c.put_byte.ensures)))
