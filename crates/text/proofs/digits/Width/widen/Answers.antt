use native.Mathlib.Omega.{arith}
use Rattle.text.proofs.DigitsLaws.{fits, widening, widened}
use Rattle.text.proofs.NumeralLaws.{hex-most}
use Rattle.text.proofs.digits.Width.widen.Goals as goal

pub overflow_mul-largest : goal.overflow_mul-largest
overflow_mul-largest c = omega (arith, fits c.loop-largest.invariant (omega arith) c.loop-largest-test.true)

pub overflow_add-largest : goal.overflow_add-largest
overflow_add-largest c = omega (arith, fits c.loop-largest.invariant (omega arith) c.loop-largest-test.true)

pub overflow_add-digits : goal.overflow_add-digits
overflow_add-digits c = omega (arith, c.loop-largest.invariant.below, hex-most c.args.n)

pub loop-largest-preserved : goal.loop-largest-preserved
loop-largest-preserved c = widening c.loop-largest.invariant (omega arith) c.loop-largest-test.true

pub returns : goal.returns
returns c = widened c.loop-largest.invariant (omega arith) c.loop-largest-test.false
