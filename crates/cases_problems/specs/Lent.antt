-- The line of Problems.antt, of the parameters by their names (base/specs/Lent.antt).
use Rattle.std.specs.Prelude.{List, ℕ}
use Rattle.base.specs.Lent.{Lent}
use Rattle.cases_problems.specs.Problems as P
use Rattle.cases_problems.specs.declared.Problem.{Problem}

-- what was changed, in the bytes of `what`
abbrev pub changed_of : Lent → List ℕ
changed_of what = P.changed_of what.entry.now

-- what it is about, in the bytes of `what`, its number from 0, and why
abbrev pub report_of : Lent → ℕ → Problem → List ℕ
report_of what index problem = P.report_of what.entry.now index problem
