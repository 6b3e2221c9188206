use Rattle.std.proofs.Common.{refl, sym, ◌∙◌}
use Rattle.listing_arguments.proofs.ArgumentsLaws.{helper-by, narrow, wide_id}
use Rattle.listing_arguments.proofs.helper_of.Goals as goal

pub returns-in_err-id : goal.returns-in_err-id
returns-in_err-id c =
    c.from_residual.ensures ∙ helper-by _ _ _ _ c.find-at.ensures.0 (sym c.in_err-id.was ∙ c.number_of.ensures) refl

pub returns-in_err-address : goal.returns-in_err-address
returns-in_err-address c =
    c.from_residual-in_err-address.ensures
    ∙ helper-by _ _ _ _ c.find-at.ensures.0
    (sym c.in_ok-id.was ∙ c.number_of.ensures)
    (sym c.in_err-address.was ∙ c.address_of.ensures)

pub returns-in_err-ok : goal.returns-in_err-ok
returns-in_err-ok c =
    let helper =
    helper-by _ _ _ _ c.find-at.ensures.0
    (sym c.in_ok-id.was ∙ c.number_of.ensures)
    (sym c.in_ok-address.was ∙ c.address_of.ensures) in
    c.from_residual-in_err-ok.ensures ∙ wide_id _ _ _ c.try_from.ensures (sym c.ok.ensures.value ∙ c.in_err-ok.was) ∙ helper

pub returns : goal.returns
returns c =
    let helper =
    helper-by _ _ _ _ c.find-at.ensures.0
    (sym c.in_ok-id.was ∙ c.number_of.ensures)
    (sym c.in_ok-address.was ∙ c.address_of.ensures) in
    narrow _ _ _ _ c.try_from.ensures (sym c.ok.ensures.value ∙ c.in_ok-ok.was) ∙ helper
