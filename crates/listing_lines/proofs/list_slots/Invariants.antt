use Rattle.std.proofs.Common.{◌-◌, ◌≡◌, ◌+◌, length, ◌≤◌}
use Rattle.listing_lines.proofs.list_slots.Given as goal

abbrev pub invariant-loop-slot : goal.invariant-loop-slot
invariant-loop-slot l = l.slot ≤ l.until + 1
