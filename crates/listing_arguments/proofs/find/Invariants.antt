use Rattle.std.proofs.Common.{◌≡◌, ◌+◌, drop}
use Rattle.listing_arguments.specs.Arguments.{index_of}
use Rattle.listing_arguments.proofs.find.Given as goal

abbrev pub invariant-loop-i : goal.invariant-loop-i
invariant-loop-i l = index_of l.b l.word ≡ l.i + index_of l.b (drop l.i l.word)
