use native.Mathlib.Omega.{arith}
use Rattle.jit_mapping.proofs.RowsLaws.{ended, counted}
use Rattle.jit_mapping.proofs.write.close.Goals as goal

pub returns : goal.returns
returns c =
    let below = c.requires.1.below (omega (arith, c.if-place-eq0.false)) in
    (counted c.args.base below c.widen-width.ensures, ended _ c.if-place-eq0.false c.put_line-next.ensures)
