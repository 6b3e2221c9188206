use Rattle.std.proofs.Common.{◌≡◌, eqb, sym, ap, ◌∙◌, rules, tests}
use Rattle.std.specs.List.{position_from}
use Rattle.std.proofs.lemmas.Iterator.{YieldsList-from_slice}
use Rattle.std.proofs.lemmas.Iterator.Adapters.{position_from-zero}
use Rattle.std.proofs.lemmas.Iterator.Search.{position_from_yields_List}
use Rattle.jit_walk.proofs.OperandsLaws.{address_at, helper-is}
use Rattle.jit_walk.proofs.operand.helper_of.Goals.{After-position}
use Rattle.jit_walk.proofs.operand.helper_of.Goals as goal

at : (c : After-position) → c.position.result ≡ position_from (λ x. eqb x c.args.id) 0 c.args.ids.now
at c =
    position_from_yields_List (λ x. eqb x c.args.id) _ _ c.position.result c.position.ensures.ran
    (YieldsList-from_slice _ c.iter.ensures.rest) (λ x b q k. search (rules, tests)) ∙ position_from-zero _ c.args.ids.now

pub returns-in_err-at : goal.returns-in_err-at
returns-in_err-at c =
    c.from_residual.ensures
    ∙ ap (address_at c.args.addresses.now) (sym c.in_err-at.was ∙ at (goal.at.returns-in_err-at c).After-position)
    ∙ helper-is _ _ _ c.requires

pub returns : goal.returns
returns c =
    ap (address_at c.args.addresses.now) (sym c.in_ok-at.was ∙ at (goal.at.returns c).After-position) ∙ helper-is _ _ _ c.requires
