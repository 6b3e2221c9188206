use Rattle.std.proofs.Common.{◌≤◌, length}
use Rattle.program_answers.proofs.answer_all.Given as goal

abbrev pub invariant-loop-index : goal.invariant-loop-index
invariant-loop-index l = (l.turn.window.end ≤ length l.input) × (l.turn.at ≤ length l.output)
