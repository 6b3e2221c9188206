-- What a replay goes on with behind a window lies inside that; where it ends, or standard error says why it stops, there is nothing to say.
use Rattle.std.specs.Prelude.{ℕ, ◌≤◌, Option, Some, None}
use Rattle.std.specs.declared.ops.ControlFlow.{ControlFlow}
use Rattle.std.specs.declared.ops.ControlFlow.TheVariants.{Break, Continue}
use Rattle.replay_capture.specs.declared.Report.{Report}
use Rattle.program_replay.specs.declared.capture.Part.{Part}
use Rattle.program_replay.specs.declared.capture.Turn.{Turn}

abbrev pub PartIn : (window : ℕ) → Option (ControlFlow Report Part) → Type 0
PartIn window None = Unit {0}
PartIn window (Some (Break r)) = Unit {0}
PartIn window (Some (Continue p)) = p.left ≤ window

abbrev pub TurnIn : (buffer : ℕ) → Option (ControlFlow Report Turn) → Type 0
TurnIn buffer None = Unit {0}
TurnIn buffer (Some (Break r)) = Unit {0}
TurnIn buffer (Some (Continue t)) = (t.start ≤ t.end) × (t.end ≤ buffer)
