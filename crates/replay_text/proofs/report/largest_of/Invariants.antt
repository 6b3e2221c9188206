use Prim.Native.Nat.{max}
use mathlib.Core.Path.{◌≡◌}
use lib.ListN.{drop}
use Rattle.replay_text.specs.ReportText.{largest_of}
use Rattle.replay_text.proofs.report.largest_of.Given as goal

abbrev pub invariant-loop-count : goal.invariant-loop-count
invariant-loop-count l =
    max l.largest (largest_of (drop l.count-index l.counts)) ≡ largest_of l.counts
