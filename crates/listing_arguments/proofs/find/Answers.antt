use Rattle.std.proofs.Common.{arith}
use Rattle.listing_arguments.proofs.ArgumentsLaws.{found-here, found-later, found-nowhere}
use Rattle.listing_arguments.proofs.find.Goals as goal

pub returns-then-c-b : goal.returns-then-c-b
returns-then-c-b c =
    let e = found-here c.args.b c.args.word.now c.loop-i.i c.loop-i-test.true c.if-c-b.true in
    (omega (arith, e, c.loop-i.invariant), omega arith)

pub loop-i-preserved : goal.loop-i-preserved
loop-i-preserved c =
    let e = found-later c.args.b c.args.word.now c.loop-i.i c.loop-i-test.true c.if-c-b.false in
    omega (arith, e, c.loop-i.invariant)

pub returns : goal.returns
returns c =
    let e = found-nowhere c.args.b c.args.word.now c.loop-i.i (omega arith) in
    (omega (arith, e, c.loop-i.invariant), omega arith)
