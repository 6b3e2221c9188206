-- The verdict on a filter (replay's Report.antt) as an answer.
use Rattle.std.specs.Prelude.{Result, Ok, Err}
use Rattle.replay.specs.declared.Refusal.{Refusal}
use Rattle.replay.specs.Report.{Verdict, runs, refused}

abbrev pub decided_in : Verdict → Result (Unit {0}) Refusal
decided_in runs = Ok tt
decided_in (refused r) = Err r
