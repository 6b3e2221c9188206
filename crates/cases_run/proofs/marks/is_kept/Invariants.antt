use Rattle.cases_run.proofs.MarksLaws.{Between}
use Rattle.cases_run.proofs.marks.is_kept.Given as goal

abbrev pub invariant-loop-i : goal.invariant-loop-i
invariant-loop-i g l = Between g.T.Mark.mark_of l.from l.i l.places
