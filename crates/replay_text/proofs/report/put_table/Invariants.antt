use borrow.Author.Rules.{rules}
use native.Mathlib.Omega.{arith}
use Prim.Native.Nat.{◌≤◌, ◌-◌, ◌/◌}
use mathlib.Core.Path.{◌≡◌, ◌∙◌, refl, sym}
use lib.ListN.{length}
use Rattle.text.proofs.SaysLaws.{Leads, turn, kept, same}
use Rattle.replay.specs.Run.{is_second}
use Rattle.replay_text.specs.ReportText.{row_unless, rows_from, table_text}
use Rattle.replay_text.proofs.ReportLaws.{rows_all, rows_left, rows-done, second-next}
use Rattle.replay_text.proofs.report.put_table.Given as goal

abbrev pub invariant-loop-slot : goal.invariant-loop-slot
invariant-loop-slot l =
    (l.slot ≤ l.slots) × (length l.out ≡ length l.initial.out) × (l.second ≡ is_second l.prog l.slot)
    × Leads l.initial.out l.at (rows_from l.slots l.prog l.columns l.counts 0) l.out l.next (rows_from (l.slots - l.slot) l.prog l.columns l.counts l.slot)
