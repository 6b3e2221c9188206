use Rattle.replay_text.specs.ReportText.{totals_text}
use borrow.Author.Rules.{rules}
use Rattle.replay_text.proofs.report.put_totals.Goals as goal

pub returns : goal.returns
unfolding totals_text
returns c = c.put_form.ensures
