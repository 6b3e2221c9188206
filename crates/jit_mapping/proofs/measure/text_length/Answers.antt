use Prim.Native.Nat.{◌*◌, ◌<◌}
use lib.ListN.{length}
use native.Mathlib.Omega.{arith}
use Rattle.jit_mapping.proofs.WalkedLaws.{sizing-begins, low, looked, taken, sizing, sized}
use Rattle.jit_mapping.proofs.measure.text_length.Goals as goal

pub loop-slot-init : goal.loop-slot-init
loop-slot-init c =
    let first = c.line_length-length.ensures in
    sizing-begins _ _ _ _ c.requires.limits.1.1.0 first.0 first.1

pub overflow_add-begins : goal.overflow_add-begins
overflow_add-begins c = omega (arith, low c.loop-slot.invariant c.requires.accepted)

pub unwrap-seen-requires : goal.unwrap-seen-requires
unwrap-seen-requires c =
    let look = c.measure_slot in
    looked c.loop-slot.invariant c.requires.accepted look.result (omega (arith, c.loop-slot-test.true)) look.ensures.0

pub loop-slot-preserved : goal.loop-slot-preserved
loop-slot-preserved c =
    let seen = c.unwrap-seen in
    let inside : 8 * c.loop-slot.slot.number < length c.args.prog.now = omega (arith, c.loop-slot-test.true) in
    let went = taken c.loop-slot.invariant c.requires.accepted seen.result inside (rw seen.ensures at c.measure_slot.ensures.0) in
    let line = c.line_length-length-in-loop-slot.ensures in
    sizing c.loop-slot.invariant c.requires.accepted inside went line.0 line.1 c.behind-slot.ensures

pub overflow_add-exit : goal.overflow_add-exit
overflow_add-exit c = omega (arith, low c.loop-slot.invariant c.requires.accepted)

pub returns : goal.returns
returns c = sized c.loop-slot.invariant c.requires.accepted c.loop-slot-test.false c.line_length.ensures.0
