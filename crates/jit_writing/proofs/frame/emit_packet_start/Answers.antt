use Rattle.jit.specs.Frame.{packet_start}
use Rattle.x86.specs.Encode.{rex, modrm, memory, bare, short}
use native.Mathlib.Omega.{arith}
use Rattle.x86_emit.proofs.WroteLaws.{then, last}
use borrow.Author.Rules.{rules}
use Rattle.jit_writing.proofs.frame.emit_packet_start.Goals as goal

pub emit_store-requires : goal.emit_store-requires
unfolding rex modrm memory bare short packet_start
emit_store-requires c =
    let pre = c.requires in
    (omega (arith, pre, c.emit_alu-added.ensures.next), search rules)

pub returns : goal.returns
unfolding packet_start
returns c = then c.emit_alu-added.ensures (last c.emit_store.ensures)
