use Rattle.x86_emit.proofs.WroteLaws.{then, last}
use borrow.Author.Rules.{rules}
use Rattle.jit_slots.proofs.jump.emit_restored_registers.Goals as goal

pub returns : goal.returns
returns c =
    let emit-pop3 = c.emit_pop-c in
    then c.emit_pop-a.ensures
    (then c.emit_pop-b.ensures (then emit-pop3.ensures (last c.emit_pop.ensures)))
