use Rattle.std.proofs.Common.{◌+◌, get_or, sym, ◌∙◌, rules}
use Rattle.jit_judging.proofs.SizesLaws.{not-twice, contained, twice-on}
use Rattle.jit_judging.proofs.sizes.is_twice.Goals as goal

pub returns-then-is_rising : goal.returns-then-is_rising
returns-then-is_rising c = sym (not-twice c.args.ids.now (sym c.is_rising.ensures ∙ c.if-is_rising.true))

pub loop-k-preserved : goal.loop-k-preserved
loop-k-preserved c =
    let loop = c.loop-k in
    let ids = c.args.ids.now in
    let listed = contained ids (loop.k + 1) (get_or ids loop.k 0) c.contains.ensures.value in
    loop.invariant ∙ twice-on ids loop.k (search rules) listed c.if-contains.false
