use Rattle.std.proofs.Common.{◌≡◌, ltb, rules, tests}
use Rattle.std.proofs.lemmas.List.Sorted.{answers_always}
use Rattle.jit_judging.proofs.SizesLaws.{rising-answer}
use Rattle.jit_judging.proofs.sizes.is_rising.Goals as goal

pub returns : goal.returns
returns c =
    rising-answer c.args.ids.now _ (c.is_sorted_by.ensures.cases (λ x y. ltb x y) (answers_always _ _ _ (λ f a r g q. search (rules, tests))))
