use Rattle.x86_emit.proofs.WroteLaws.{then, last}
use borrow.Author.Rules.{rules}
use Rattle.jit_slots.proofs.jump.emit_saved_registers.Goals as goal

pub returns : goal.returns
returns c =
    let emit-push3 = c.emit_push-c in
    then c.emit_push-a.ensures
    (then c.emit_push-b.ensures (then emit-push3.ensures (last c.emit_push.ensures)))
