use Rattle.jit_measuring.proofs.Seen.{tail_none, tail-torn}
use native.Mathlib.Omega.{arith}
use mathlib.Core.Path.{refl, sym, ◌∙◌}
use Rattle.jit_measuring.proofs.LooksLaws.{finds-stop, finds-go}
use Rattle.jit_measuring.proofs.Measuring.{measuring-begins, measuring-stops, measuring-torn, measuring-full, measuring-on, as_before, or_is, measuring-ends}
use Rattle.std.proofs.lemmas.Result.{err_from_is_err_and}
use Rattle.jit_measuring.proofs.measure.measure.Goals as goal

pub loop-slot-init : goal.loop-slot-init
loop-slot-init c = measuring-begins _ _ _ _ c.requires.1.1.0

pub returns-in_err-seen : goal.returns-in_err-seen
returns-in_err-seen c =
    let seen = c.measure_slot-looked in
    let stop = finds-stop _ _ _ seen.ensures.0 c.in_err-seen.was in
    let p = err_from_is_err_and c.from_residual.result c.from_residual.ensures.1 in
    rw (p.1, p.2) (measuring-stops c.loop-slot.invariant _ (omega (arith, c.loop-slot-test.true)) stop)

pub returns-then-page-end : goal.returns-then-page-end
returns-then-page-end c =
    let went = finds-go _ _ _ c.measure_slot-looked.ensures.0 c.in_ok-seen.was in
    measuring-full c.loop-slot.invariant c.in_ok-seen.seen went (omega (arith, c.loop-slot-test.true)) c.if-page-end.true

pub loop-slot-preserved-in-Following : goal.loop-slot-preserved-in-Following
loop-slot-preserved-in-Following c =
    let loop = c.loop-slot in
    let went = finds-go _ _ _ c.measure_slot-looked.ensures.0 c.in_ok-seen.was in
    let on = measuring-on loop.invariant c.in_ok-seen.seen went (omega (arith, c.loop-slot-test.true)) c.if-page-end.false in
    as_before loop.invariant (rw c.in-Following.is at on)

pub loop-slot-preserved-in-Wide : goal.loop-slot-preserved-in-Wide
loop-slot-preserved-in-Wide c =
    let loop = c.loop-slot in
    let went = finds-go _ _ _ c.measure_slot-looked.ensures.0 c.in_ok-seen.was in
    let on = measuring-on loop.invariant c.in_ok-seen.seen went (omega (arith, c.loop-slot-test.true)) c.if-page-end.false in
    as_before loop.invariant (rw c.in-Wide.is at on)

pub loop-slot-preserved : goal.loop-slot-preserved
loop-slot-preserved c =
    let loop = c.loop-slot in
    let went = finds-go _ _ _ c.measure_slot-looked.ensures.0 c.in_ok-seen.was in
    let on = measuring-on loop.invariant c.in_ok-seen.seen went (omega (arith, c.loop-slot-test.true)) c.if-page-end.false in
    rw (c.or-bad.ensures, or_is) (rw c.in-Lost.is at on)

pub returns-in_default : goal.returns-in_default
returns-in_default c =
    let loop = c.loop-slot in
    let past = c.loop-slot-test.false in
    let program = c.args.prog.now in
    let torn = tail-torn program (sym c.tail_of.ensures ∙ c.in_default.is) in
    measuring-torn loop.invariant (omega (arith, loop.invariant.sofar.inside, torn, past)) (omega (arith, past))

pub returns : goal.returns
returns c =
    let program = c.args.prog.now in
    let none = tail_none program (sym c.tail_of.ensures ∙ c.in-Nothing.is) in
    let past = c.loop-slot-test.false in
    measuring-ends c.loop-slot.invariant (omega (arith, none, past)) refl
