use Rattle.cases_bytes.proofs.CasesLaws.{filled_more, filled_none}
use native.Mathlib.Omega.{arith}
use lib.ListN.{length-set}
use borrow.Author.Rules.{rules}
use Rattle.cases_bytes.proofs.parts.read_addresses.Goals as goal

pub loop-k-init : goal.loop-k-init
loop-k-init c = (search rules, search rules, filled_none _ _)

pub loop-k-preserved : goal.loop-k-preserved
loop-k-preserved c =
    let filled = c.loop-k.invariant.2 in
    (simp length-set (search rules), simp length-set (search rules), rw (c.address_at.ensures, filled) (filled_more _ _ _ (omega arith)))
