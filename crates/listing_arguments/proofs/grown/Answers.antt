use Rattle.listing_arguments.proofs.ArgumentsLaws.{grown_no-digit, grown_past, grown_sum}
use native.Mathlib.Omega.{arith}
use Rattle.listing_arguments.proofs.grown.Goals as goal

pub returns-then-base-digit : goal.returns-then-base-digit
returns-then-base-digit c = grown_no-digit _ _ _ c.if-base-digit.true

pub returns-in_default : goal.returns-in_default
returns-in_default c = grown_past _ _ _ (omega arith) (rw c.in_default.is at c.checked_mul.ensures)

pub returns : goal.returns
returns c =
    let product = rw c.in-Some.is at c.checked_mul.ensures in
    grown_sum _ _ _ _ _ (omega arith) product.1 c.checked_add.ensures
