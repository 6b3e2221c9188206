use Rattle.std.proofs.Common.{◌≡◌, length, ◌≤◌}
use Rattle.cases_bytes.proofs.turn.each_record.Given as goal

-- the window's start and its end, which is within what is lent
abbrev pub invariant-loop-index : goal.invariant-loop-index
invariant-loop-index g l =
    goal.F-IsAlwaysCallable g l.visit
    × (l.window.0 ≤ l.window.1.0)
    × (l.window.1.0 ≤ length l.input)
    × (length l.input ≡ length l.initial.input)
