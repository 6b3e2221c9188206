use Rattle.text.proofs.SaysLaws.{then}
use borrow.Author.Rules.{rules}
use Rattle.replay_text.proofs.report.put_report.Goals as goal

pub returns : goal.returns
returns c = then c.put_totals-next.ensures c.put_table.ensures
