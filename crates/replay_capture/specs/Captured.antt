-- What is answered for a capture that is lent whole: what `replay_of` says, in 64 bits, the counts added to those that the table held.
use Rattle.std.specs.Prelude.{◌≡◌, ℕ, List, [], Result, Ok, Err}
use Rattle.replay.specs.declared.Refusal.{Refusal}
use Rattle.replay.specs.declared.Totals.{Totals}
use Rattle.replay.specs.Report as report
use Rattle.replay.specs.Report.{Replay, tallied, added}
use Rattle.replay_capture.specs.declared.Report.{Report}
use Rattle.replay_capture.specs.declared.Report.TheVariants.{Whole, Cut}

abbrev pub nothing : Totals
nothing = record { packets = 0; kept = 0; dropped = 0; step_limit = 0; access = 0; no_slot = 0 }

abbrev pub answer_of : Replay → Result Report Refusal
answer_of (report.whole r) = Ok (Whole (added nothing r))
answer_of (report.cut r) = Ok (Cut (added nothing r))
answer_of (report.no r) = Err r

-- the slots that ran: those before a bad record too
abbrev pub ran_in : Replay → List ℕ
ran_in (report.whole r) = r.ran
ran_in (report.cut r) = r.ran
ran_in (report.no r) = []

-- THE CONTRACT of `replay`, whose outcome is `replay_of` of what is asked and the capture
pub record Reported (o : Replay) (counts counts' : List ℕ) (r : Result Report Refusal) : Type 0 where
  pub answer : r ≡ answer_of o
  pub counts_are : counts' ≡ tallied (ran_in o) counts
