use Rattle.jit_measuring.proofs.Seen.{tail_none, tail-torn}
use native.Mathlib.Omega.{arith}
use mathlib.Core.Path.{sym, ◌∙◌}
use mathlib.Core.Bool.{true, false}
use Rattle.jit_measuring.proofs.Glancing.{glancing-begins, glancing-on, glancing-stops, glancing-torn, glancing-ends}
use Rattle.std.proofs.lemmas.Result.{err_from_is_err_and}
use Rattle.jit_measuring.proofs.fits.fits.Goals as goal

pub loop-slot-init : goal.loop-slot-init
loop-slot-init c = glancing-begins _ _ _ _ _ (omega (arith, c.if-page-kept.false))

pub returns-in_err-look_at : goal.returns-in_err-look_at
returns-in_err-look_at c =
    let loop = c.loop-slot in
    let p = err_from_is_err_and c.from_residual.result c.from_residual.ensures.1 in
    rw (p.1, p.2) (glancing-stops loop.invariant _ (omega (arith, c.loop-slot-test.true)) (rw c.in_err-look_at.was at c.look_at.ensures))

pub loop-slot-preserved-in-Narrow : goal.loop-slot-preserved-in-Narrow
loop-slot-preserved-in-Narrow c =
    let loop = c.loop-slot in
    glancing-on loop.invariant false c.loop-slot-test.true (omega arith) (omega arith)
    (rw (c.in_ok-look_at.was, c.in-Narrow.is) at c.look_at.ensures)

pub loop-slot-preserved-in-Long : goal.loop-slot-preserved-in-Long
loop-slot-preserved-in-Long c =
    let loop = c.loop-slot in
    glancing-on loop.invariant false c.loop-slot-test.true (omega arith) (omega (arith, c.if-spare-lt-MORE.false))
    (rw (c.in_ok-look_at.was, c.in-Long.is) at c.look_at.ensures)

pub loop-slot-preserved : goal.loop-slot-preserved
loop-slot-preserved c =
    let loop = c.loop-slot in
    glancing-on loop.invariant true c.loop-slot-test.true (omega arith) (omega arith)
    (rw (c.in_ok-look_at.was, c.in-Wide.is) at c.look_at.ensures)

pub returns-in_default : goal.returns-in_default
returns-in_default c =
    let loop = c.loop-slot in
    let past = c.loop-slot-test.false in
    let program = c.args.prog.now in
    let torn = tail-torn program (sym c.tail_of.ensures ∙ c.in_default.is) in
    glancing-torn loop.invariant (omega (arith, loop.invariant.sofar.inside, torn, past)) (omega (arith, past))

pub returns : goal.returns
returns c =
    let program = c.args.prog.now in
    let none = tail_none program (sym c.tail_of.ensures ∙ c.in-Nothing.is) in
    let past = c.loop-slot-test.false in
    glancing-ends c.loop-slot.invariant past (omega (arith, none))
