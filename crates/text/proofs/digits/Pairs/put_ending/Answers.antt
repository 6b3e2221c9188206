use mathlib.Core.Path.{◌∙◌}
use Rattle.text.proofs.DigitsLaws.{square-some, both_small, square-below, square_above, two-left, one_left, last-two, less-twice, ending, ended-1, ended-2}
use native.Mathlib.Omega.{arith}
use Rattle.text.proofs.digits.Pairs.put_ending.Goals as goal

pub overflow_sub-left : goal.overflow_sub-left
overflow_sub-left c =
    let number = c.args.number in
    omega (arith, two-left number.more c.loop-rest.invariant number.short (square_above _ number.more _ c.loop-rest-test.true))

pub nonzero_rem-rest : goal.nonzero_rem-rest
nonzero_rem-rest c = omega (arith, square-some c.args.number.base c.args.number.more)

pub put_pair-requires : goal.put_pair-requires
put_pair-requires c =
    let number = c.args.number in
    let looped = c.loop-rest in
    let two = two-left number.more looped.invariant number.short (square_above _ number.more _ c.loop-rest-test.true) in record { both = (number.more, (number.most, both_small c.args.number.base number.more looped.rest)); has_room = omega (arith, two, looped.invariant.inside, looped.invariant.kept, c.requires.1) }

pub loop-rest-smaller : goal.loop-rest-smaller
loop-rest-smaller c =
    let more = c.args.number.more in
    less-twice _ more _ (square_above _ more _ c.loop-rest-test.true)

pub loop-rest-preserved : goal.loop-rest-preserved
loop-rest-preserved c =
    let number = c.args.number in
    let above = square_above _ number.more _ c.loop-rest-test.true in
    ending number.more c.loop-rest.invariant number.short above c.put_pair.ensures

pub overflow_sub-left-then-rest-base : goal.overflow_sub-left-then-rest-base
overflow_sub-left-then-rest-base c = omega (arith, one_left c.args.number.more c.loop-rest.invariant)

pub put_single-requires : goal.put_single-requires
put_single-requires c =
    let looped = c.loop-rest in
    let number = c.args.number in
    let one = one_left number.more looped.invariant in (
      omega (arith, c.if-rest-base.true, number.most),
      omega (arith, one, looped.invariant.inside, looped.invariant.kept, c.requires.1),
    )

pub returns-then-rest-base : goal.returns-then-rest-base
returns-then-rest-base c =
    let number = c.args.number in
    c.put_single.ensures ∙ ended-1 number.more c.loop-rest.invariant number.short c.if-rest-base.true

pub overflow_sub-left-2 : goal.overflow_sub-left-2
overflow_sub-left-2 c = omega (arith, last-two c.args.number.more c.loop-rest.invariant c.args.number.short c.if-rest-base.false)

pub put_pair-requires-2 : goal.put_pair-requires-2
put_pair-requires-2 c =
    let number = c.args.number in
    let looped = c.loop-rest in
    let two = last-two number.more looped.invariant number.short c.if-rest-base.false in record { both = (number.more, (number.most, c.loop-rest-test.false)); has_room = omega (arith, two, looped.invariant.inside, looped.invariant.kept, c.requires.1) }

pub returns : goal.returns
returns c =
    let number = c.args.number in
    let below = square-below _ number.more _ c.loop-rest-test.false in
    c.put_pair-2.ensures ∙ ended-2 number.more c.loop-rest.invariant number.short c.if-rest-base.false below
