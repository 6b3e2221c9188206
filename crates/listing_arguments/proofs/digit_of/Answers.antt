use Rattle.listing_arguments.proofs.ArgumentsLaws.{digit-decimal, digit-capital, digit-small, digit-below, digit-before_capital, digit-before_small, digit-above}
use native.Mathlib.Omega.{arith}
use Rattle.listing_arguments.proofs.digit_of.Goals as goal

pub returns-in-48-to-57 : goal.returns-in-48-to-57
returns-in-48-to-57 c = (rw c.from.ensures (digit-decimal _ (omega arith) (omega arith)), omega arith)

pub returns-in-65-to-70 : goal.returns-in-65-to-70
returns-in-65-to-70 c = (rw c.from-in-65-to-70.ensures (digit-capital _ (omega arith) (omega arith)), omega arith)

pub returns-in-97-to-102 : goal.returns-in-97-to-102
returns-in-97-to-102 c = (rw c.from-in-97-to-102.ensures (digit-small _ (omega arith) (omega arith)), omega arith)

pub returns-in_default : goal.returns-in_default
returns-in_default c = (digit-below _ (omega arith), omega arith)

pub returns-in_default-2 : goal.returns-in_default-2
returns-in_default-2 c = (digit-before_capital _ (omega arith) (omega arith), omega arith)

pub returns-in_default-3 : goal.returns-in_default-3
returns-in_default-3 c = (digit-before_small _ (omega arith) (omega arith), omega arith)

pub returns-in_default-4 : goal.returns-in_default-4
returns-in_default-4 c = (digit-above _ (omega arith), omega arith)
