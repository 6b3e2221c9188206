use borrow.Author.Tests.{eq-eqb, ne_eqb}
use native.Mathlib.Omega.{arith}
use Rattle.x86_emit.proofs.WroteLaws.{then, last, nothing}
use borrow.Author.Rules.{rules}
use Rattle.jit_dividing.proofs.muldivmod.emit_restored.Goals as goal

pub returns-then-res : goal.returns-then-res
returns-then-res c =
    let emit-alu = c.emit_alu-next in
    let if2 = c.if-res in
    rw (ne_eqb _ _ c.if-dst-r.false, if2.true) (then emit-alu.ensures (last c.emit_pop.ensures))
