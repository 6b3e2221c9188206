use native.Mathlib.Omega.{arith}
use Rattle.x86_emit.proofs.WroteLaws.{then, last}
use borrow.Author.Rules.{rules}
use Rattle.jit_slots.proofs.load.emit_ld_ind.Goals as goal

pub returns : goal.returns
returns c =
    let emit-alu2 = c.emit_alu-added in
    rw (← c.map_register-src.ensures.0)
    (then c.emit_alu-copied.ensures (then emit-alu2.ensures (last c.emit_load.ensures)))
