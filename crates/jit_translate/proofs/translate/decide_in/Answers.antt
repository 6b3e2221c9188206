use Rattle.std.proofs.lemmas.Result.{err_from_is_err_and}
use Rattle.jit_translate.proofs.DecidedLaws.{unsized, judged}
use Rattle.jit_translate.proofs.translate.decide_in.Goals as goal

pub returns-in_err-sized : goal.returns-in_err-sized
returns-in_err-sized c =
    let p = err_from_is_err_and c.from_residual.result c.from_residual.ensures.1 in
    rw (p.1, p.2) (unsized _ c.sizes-sized.ensures c.in_err-sized.was)

pub returns : goal.returns
returns c =
    judged _
    c.sizes-sized.ensures c.in_ok-sized.was
    c.prologue_size.ensures.0 c.judge.ensures
