use Rattle.x86_emit.proofs.WroteLaws.{then, last}
use borrow.Author.Rules.{rules}
use Rattle.jit_slots.proofs.jump.emit_helper_call.Goals as goal

pub returns : goal.returns
returns c =
    let emit-load-imm = c.emit_load_imm-loaded in
    then c.emit_alu-copied.ensures (then emit-load-imm.ensures (last c.emit_call_rax.ensures))
