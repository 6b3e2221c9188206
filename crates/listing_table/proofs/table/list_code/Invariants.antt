use Rattle.std.proofs.Common.{◌-◌}
use Rattle.listing_table.proofs.table.list_code.Given as goal

abbrev pub decreases-loop-at : goal.decreases-loop-at
decreases-loop-at l = l.to - l.at
