use Rattle.std.proofs.Common.{◌≡◌}
use Rattle.listing_table.proofs.table.Page.list.Given as goal

abbrev pub invariant-loop-slot : goal.invariant-loop-slot
invariant-loop-slot l = l.listed ≡ l.slot
