use borrow.Author.Rules.{rules}
use native.Mathlib.Omega.{arith}
use Prim.Native.Nat.{◌≤◌, ◌-◌, ◌/◌}
use mathlib.Core.Path.{◌≡◌, ◌∙◌, refl, sym}
use lib.ListN.{length}
use Rattle.text.proofs.SaysLaws.{Leads, turn, kept, same}
use Rattle.replay.specs.Run.{is_second}
use Rattle.replay_text.specs.ReportText.{row_unless, rows_from, table_text}
use Rattle.replay_text.proofs.ReportLaws.{rows_all, rows_left, rows-done, second-next}
use Rattle.replay_text.proofs.report.put_table.Goals as goal

pub loop-slot-init : goal.loop-slot-init
unfolding is_second
loop-slot-init c =
    let a = c.args in
    let columns = c.columns_of-columns.result in
    (omega arith, refl, refl, λ l' r q. same q (rows_all a.prog.now columns a.counts.now (length a.prog.now / 8)))

pub loop-slot-preserved : goal.loop-slot-preserved
loop-slot-preserved c =
    let a = c.args in
    let looped = c.loop-slot in
    let columns = c.columns_of-columns.result in
    let row = row_unless a.prog.now columns a.counts.now looped.slot looped.second in
    let said = c.put_row_unless-next.ensures in
    let test = c.loop-slot-test.true in (
      omega arith,
      kept {ys = row} said ∙ looped.invariant.1,
      second-next a.prog.now looped.slot looped.second _ looped.invariant.2 c.opens-second.ensures,
      turn {xs = row} looped.invariant.3 said (rw looped.invariant.2 (rows_left a.prog.now columns a.counts.now _ looped.slot test)),
    )

pub returns : goal.returns
unfolding table_text
returns c =
    let columns = c.columns_of-columns in
    let told = c.loop-slot.invariant.3 _ _ (rows-done _ _ _ _ _ _ c.loop-slot-test.false) in
    rw columns.ensures.value at told
