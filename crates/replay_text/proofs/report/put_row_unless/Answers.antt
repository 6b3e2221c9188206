use Rattle.replay_text.specs.ReportText.{row_unless}
use Rattle.text.proofs.SaysLaws.{same, nothing}
use borrow.Author.Rules.{rules}
use Rattle.replay_text.proofs.report.put_row_unless.Goals as goal

pub returns-then-second : goal.returns-then-second
unfolding row_unless
returns-then-second c = same nothing (rw c.if-second.true)

pub returns : goal.returns
unfolding row_unless
returns c =
    let counted = c.count_at.ensures in
    let tested = c.if-second.false in
    same c.put_row.ensures (rw (tested, counted))
