use Rattle.std.proofs.Common.{◌≡◌, drop}
use Rattle.std.specs.Prelude.{Some}
use Rattle.listing_arguments.specs.Arguments.{digits, read_on}
use Rattle.listing_arguments.proofs.digits.Given as goal

abbrev pub invariant-loop-c : goal.invariant-loop-c
invariant-loop-c l = read_on l.base (Some l.n) (drop l.c-index l.word) ≡ digits l.base l.word
