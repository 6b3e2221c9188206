use Rattle.text.proofs.DigitsLaws.{square-below, square_above, cube-below, cube-above, fourth-below, fourth-above}
use Rattle.text.proofs.DigitsLaws.{counting, few, four-less, counted-1, counted-2, counted-3, counted-4}
use native.Mathlib.Omega.{arith}
use Rattle.text.proofs.digits.Numeral.count.Goals as goal

pub loop-rest-smaller : goal.loop-rest-smaller
loop-rest-smaller c = let more = c.args.self.more in four-less _ more _ (fourth-above _ more _ c.loop-rest-test.true)

pub loop-rest-preserved : goal.loop-rest-preserved
loop-rest-preserved c =
    let more = c.args.self.more in
    counting _ more c.args.self.short (fourth-above _ more _ c.loop-rest-test.true) c.loop-rest.invariant

pub overflow_add-result : goal.overflow_add-result
overflow_add-result c = omega (arith, few _ c.args.self.more c.loop-rest.invariant)

pub returns-then-rest-base : goal.returns-then-rest-base
returns-then-rest-base c = counted-1 _ c.args.self.more c.args.self.short c.loop-rest.invariant c.if-rest-base.true

pub overflow_add-result-then-rest-square : goal.overflow_add-result-then-rest-square
overflow_add-result-then-rest-square c = omega (arith, few _ c.args.self.more c.loop-rest.invariant)

pub returns-then-rest-square : goal.returns-then-rest-square
returns-then-rest-square c =
    let more = c.args.self.more in
    counted-2 _ more c.args.self.short c.loop-rest.invariant c.if-rest-base.false (square-below _ more _ c.if-rest-square.true)

pub overflow_add-result-then-rest-cube : goal.overflow_add-result-then-rest-cube
overflow_add-result-then-rest-cube c = omega (arith, few _ c.args.self.more c.loop-rest.invariant)

pub returns-then-rest-cube : goal.returns-then-rest-cube
returns-then-rest-cube c =
    let more = c.args.self.more in
    let above = square_above _ more _ c.if-rest-square.false in
    counted-3 _ more c.args.self.short c.loop-rest.invariant above (cube-below _ more _ c.if-rest-cube.true)

pub overflow_add-result-2 : goal.overflow_add-result-2
overflow_add-result-2 c = omega (arith, few _ c.args.self.more c.loop-rest.invariant)

pub returns : goal.returns
returns c =
    let more = c.args.self.more in
    let above = cube-above _ more _ c.if-rest-cube.false in
    counted-4 _ more c.args.self.short c.loop-rest.invariant above (fourth-below _ more _ c.loop-rest-test.false)
