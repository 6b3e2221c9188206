use mathlib.Core.Path.{sym}
use Rattle.text.proofs.SaysLaws.{then, same}
use Rattle.replay_text.proofs.ReportLaws.{wide_enough, spaced}
use native.Mathlib.Omega.{arith}
use lib.Seq.{length-take-le}
use borrow.Author.Rules.{rules}
use Rattle.replay_text.proofs.report.put_right.Goals as goal

pub returns-then-width-digits : goal.returns-then-width-digits
returns-then-width-digits c =
    let digits = c.count_decimal-digits.ensures.0 in
    same c.put_decimal.ensures (wide_enough _ _ (omega (arith, c.if-width-digits.true)))

pub returns : goal.returns
returns c =
    let digits = c.count_decimal-digits.ensures.0 in
    same (then c.put_text-next.ensures c.put_decimal-2.ensures) (rw digits (spaced _ _ _ c.requires))
