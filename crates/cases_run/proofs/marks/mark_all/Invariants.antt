use Rattle.std.proofs.Common.{◌≡◌, length}
use Rattle.cases_run.proofs.MarksLaws.{Upto}
use Rattle.cases_run.proofs.marks.mark_all.Given as goal

abbrev pub invariant-loop-i : goal.invariant-loop-i
invariant-loop-i g l = (length l.places ≡ length l.initial.places) × Upto g.T.Mark.mark_of l.i l.places
