use Rattle.listing_arguments.proofs.ArgumentsLaws.{digits-none, digits-some, digit-bad}
use mathlib.Core.Path.{◌∙◌, sym}
use borrow.Author.Rules.{rules}
use Rattle.listing_arguments.proofs.digits.Goals as goal

pub returns-then-is_empty : goal.returns-then-is_empty
returns-then-is_empty c = digits-none _ _ (search rules)

pub loop-c-init : goal.loop-c-init
loop-c-init c = digits-some _ _ (search rules)

pub returns-in_err-n : goal.returns-in_err-n
returns-in_err-n c =
    let none = sym c.in_err-n.was ∙ c.grown.ensures in
    c.from_residual.ensures ∙ sym (digit-bad _ _ _ _ _ c.loop-c-test.true c.digit_of.ensures.0 none) ∙ c.loop-c.invariant
