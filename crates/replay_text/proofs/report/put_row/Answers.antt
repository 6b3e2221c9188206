use Rattle.text.proofs.SaysLaws.{then}
use Rattle.replay_text.specs.ReportText.{row_text}
use borrow.Author.Rules.{rules}
use Rattle.replay_text.proofs.report.put_row.Goals as goal

pub returns : goal.returns
unfolding row_text
returns c =
    then c.put_right-number.ensures
    (then c.put_text-between.ensures
    (then c.put_right-times.ensures
    (then c.put_text-behind.ensures (then c.put_slot-text.ensures c.put_byte.ensures))))
