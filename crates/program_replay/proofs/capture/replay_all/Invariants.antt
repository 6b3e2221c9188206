use Rattle.std.proofs.Common.{◌≤◌, length}
use Rattle.program_replay.proofs.capture.replay_all.Given as goal

abbrev pub invariant-loop-windows : goal.invariant-loop-windows
invariant-loop-windows l = (l.turn.start ≤ l.turn.end) × (l.turn.end ≤ length l.buffer)
