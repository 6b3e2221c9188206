use Rattle.std.proofs.Common.{◌-◌, ◌≡◌, length, ◌≤◌}
use Rattle.program_decoded.proofs.print_page.Given as goal

abbrev pub invariant-loop-place : goal.invariant-loop-place
invariant-loop-place l = (length l.out ≡ length l.initial.out) × (l.at ≤ length l.out)

abbrev pub decreases-loop-place : goal.decreases-loop-place
decreases-loop-place l = length l.code - l.place
