use Rattle.std.proofs.Common.{◌≡◌, ◌-◌, length, refl, ◌∙◌, arith, rules}
use Rattle.pcap.proofs.CaptureLaws.{bounds}
use Rattle.replay_capture.proofs.SoFarLaws.{SoFar, starts, there, has_room, goes_on, ends, stands}
use Rattle.replay_capture.proofs.window.run_records.Given as goal

abbrev pub invariant-loop-n : goal.invariant-loop-n
invariant-loop-n l =
    SoFar l.prog l.order l.window (record { totals = l.initial.progress.totals; counts = l.initial.counts; copy = l.initial.copy; kept = l.initial.kept }) l.progress l.counts l.copy l.kept
    × ((length l.counts ≡ length l.initial.counts) × ((length l.copy ≡ length l.initial.copy) × (length l.kept ≡ length l.initial.kept)))

abbrev pub decreases-loop-n : goal.decreases-loop-n
decreases-loop-n l = length l.window - l.progress.used
