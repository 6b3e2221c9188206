use native.Mathlib.Omega.{arith}
use Rattle.cases_bytes.specs.Cases.{lengths_end}
use Rattle.cases_bytes.proofs.parts.further_length.Goals as goal

pub bounds-body-0 : goal.bounds-body-0
unfolding lengths_end
bounds-body-0 c = omega (arith, c.requires.1)

pub count_at-requires : goal.count_at-requires
unfolding lengths_end
count_at-requires c = omega (arith, c.if-body-eq1.true, c.requires.0, c.requires.1)
