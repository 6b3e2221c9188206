use Rattle.jit.specs.Frame.{packet_end}
use Rattle.x86.specs.Encode.{rex, modrm, memory, bare, short}
use native.Mathlib.Omega.{arith}
use Rattle.x86_emit.proofs.WroteLaws.{then, last}
use borrow.Author.Rules.{rules}
use Rattle.jit_writing.proofs.frame.emit_packet_end.Goals as goal

pub emit_alu-ended-requires : goal.emit_alu-ended-requires
unfolding rex modrm memory bare short packet_end
emit_alu-ended-requires c =
    let pre = c.requires in
    (omega (arith, pre, c.emit_load-loaded.ensures.next), search rules)

pub emit_alu-placed-requires : goal.emit_alu-placed-requires
unfolding rex modrm memory bare short packet_end
emit_alu-placed-requires c =
    let pre = c.requires in
    let emit-load = c.emit_load-loaded.ensures in
    (omega (arith, pre, emit-load.next, c.emit_alu-ended.ensures.next), search rules)

pub emit_store-requires : goal.emit_store-requires
unfolding rex modrm memory bare short packet_end
emit_store-requires c =
    let pre = c.requires in
    let emit-load = c.emit_load-loaded.ensures in
    let emit-alu = c.emit_alu-ended.ensures in
    (omega (arith, pre, emit-load.next, emit-alu.next, c.emit_alu-placed.ensures.next), search rules)

pub returns : goal.returns
unfolding packet_end
returns c =
    let emit-load = c.emit_load-loaded.ensures in
    let emit-alu = c.emit_alu-ended.ensures in
    let emit-alu' = c.emit_alu-placed.ensures in
    then emit-load (then emit-alu (then emit-alu' (last c.emit_store.ensures)))
