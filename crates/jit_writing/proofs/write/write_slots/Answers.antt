use Prim.Native.Nat.{◌*◌, ◌-◌}
use lib.ListN.{length}
use native.Mathlib.Omega.{arith}
use borrow.Author.Rules.{rules}
use Rattle.jit_recording.proofs.EmitsLaws.{put-length}
use Rattle.jit.proofs.Bounds.{wide-some}
use Rattle.jit_walk.specs.Numbered.{is_wide}
use Rattle.jit_writing.proofs.Writing.{Writing, writing_begins, next-slot, next-inside, next-room, writing-next, writing-ends}
use Rattle.jit_writing.proofs.write.write_slots.Goals as goal

pub loop-next-init : goal.loop-next-init
loop-next-init c = (writing_begins _ _ _ _ _ _ (search rules), search rules)

pub emit_slot-end-requires-clause-slot_read : goal.emit_slot-end-requires-clause-slot_read
emit_slot-end-requires-clause-slot_read c =
    let pre = c.requires in
    let test = c.loop-next-test.true in
    let byte = c.type_inv.prog (8 * c.loop-next.next.number) in
    (next-slot c.loop-next.invariant.0 pre.fitting.fits test (omega (arith, byte)) c.number_of-number.ensures, (omega (arith, pre.limits, test), pre.limits.1.1.1))

pub emit_slot-end-requires-clause-room : goal.emit_slot-end-requires-clause-room
emit_slot-end-requires-clause-room c =
    let pre = c.requires in
    next-room c.loop-next.invariant.0 pre.fitting.fits c.loop-next-test.true pre.limits.1.0 pre.fitting.page_is pre.fitting.entry

pub put_slot-next-requires : goal.put_slot-next-requires
put_slot-next-requires c =
    let pre = c.requires in
    let inv = c.loop-next.invariant.0 in
    let test = c.loop-next-test.true in
    let byte = c.type_inv.prog (8 * c.loop-next.next.number) in
    let slot = next-slot inv pre.fitting.fits test (omega (arith, byte)) c.number_of-number.ensures in
    let inside = next-inside inv pre.fitting.fits test slot in (
      omega (arith, inside, pre.fitting.locations, put-length inv.locations),
      (omega (arith, pre.limits, inv.sofar.room), omega (arith, pre.limits, test)),
    )

pub loop-next-preserved : goal.loop-next-preserved
loop-next-preserved c =
    let pre = c.requires in
    let inv = c.loop-next.invariant.0 in
    let test = c.loop-next-test.true in
    let byte = c.type_inv.prog (8 * c.loop-next.next.number) in
    let slot = next-slot inv pre.fitting.fits test (omega (arith, byte)) c.number_of-number.ensures in
    let put-slot = c.put_slot-next.ensures in
    let emit-slot = c.emit_slot-end.ensures in (
      writing-next inv pre.fitting.fits test slot put-slot.0 put-slot.1 emit-slot.0 (search rules),
      search rules,
    )

pub returns : goal.returns
returns c =
    let inv = c.loop-next.invariant in
    let same = inv.1 in (
      writing-ends inv.0 c.requires.fitting.fits c.loop-next-test.false,
      record { fields = same.fields; targets = same.targets; kinds = same.kinds; makers = same.makers },
    )
