use native.Mathlib.Omega.{arith}
use mathlib.Core.Path.{refl}
use Rattle.cases_bytes.specs.Cases.{lengths_end}
use Rattle.cases_bytes.proofs.parts.lengths_end.Goals as goal

pub returns : goal.returns
unfolding lengths_end
returns c = (rw c.from.ensures refl, omega arith)
