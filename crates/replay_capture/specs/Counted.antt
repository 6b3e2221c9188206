-- The totals with one packet more: what `added` says of the report of one run; and how they come about, field by field.
use Rattle.std.specs.Prelude.{ℕ, [], ◌==◌}
use Rattle.base.specs.Pick.{pick}
use Rattle.replay.specs.Report.{plus, Report, is_kept, is_dropped, is_step_limit, is_access, is_no_slot}
use Rattle.replay.specs.declared.Ended.{Ended}
use Rattle.replay.specs.declared.Ended.TheVariants as ended
use Rattle.replay.specs.declared.Totals.{Totals}

abbrev pub totals_of : (packets kept dropped step_limit access no_slot : ℕ) → Totals
totals_of packets kept dropped step_limit access no_slot =
    record { packets = packets; kept = kept; dropped = dropped; step_limit = step_limit; access = access; no_slot = no_slot }

abbrev pub exited_with : Totals → (r0 : ℕ) → Totals
exited_with t r0 =
    pick (r0 == 0)
    (totals_of t.packets t.kept (plus t.dropped 1) t.step_limit t.access t.no_slot)
    (totals_of t.packets (plus t.kept 1) t.dropped t.step_limit t.access t.no_slot)

abbrev pub ended_by : Totals → Ended → Totals
ended_by t (ended.Exit r0) = exited_with t r0
ended_by t ended.StepLimit = totals_of t.packets t.kept t.dropped (plus t.step_limit 1) t.access t.no_slot
ended_by t ended.Access = totals_of t.packets t.kept t.dropped t.step_limit (plus t.access 1) t.no_slot
ended_by t ended.NoSlot = totals_of t.packets t.kept t.dropped t.step_limit t.access (plus t.no_slot 1)

abbrev pub counted : Totals → Ended → Totals
counted t e =
    let u = ended_by t e in
    totals_of (plus u.packets 1) u.kept u.dropped u.step_limit u.access u.no_slot

-- the report of one run, by how it ended
abbrev pub one : Ended → Report
one e =
    record {
      packets = 1;
      kept = pick (is_kept e) 1 0;
      dropped = pick (is_dropped e) 1 0;
      step_limit = pick (is_step_limit e) 1 0;
      access = pick (is_access e) 1 0;
      no_slot = pick (is_no_slot e) 1 0;
      ran = [];
    }
