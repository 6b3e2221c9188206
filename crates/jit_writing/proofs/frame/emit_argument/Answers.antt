use Rattle.x86.proofs.CodeLaws.{blanks-append, length-blanks, size-append}
use Rattle.jit.specs.Frame.{packet_start, packet_end, argument}
use native.Mathlib.Omega.{arith}
use Rattle.x86_emit.proofs.WroteLaws.{then, last, nothing}
use borrow.Author.Rules.{rules}
use Rattle.jit_writing.proofs.frame.emit_argument.Goals as goal

pub emit_packet_start-next-requires : goal.emit_packet_start-next-requires
unfolding argument
emit_packet_start-next-requires c =
    let pre = c.requires in
    let room = rw (c.if-flags.true, c.if-flags-2.true) at pre in
    omega (arith, room, size-append packet_start packet_end)

pub emit_packet_end-requires : goal.emit_packet_end-requires
unfolding argument
emit_packet_end-requires c =
    let test = c.if-flags in
    let test' = c.if-flags-2 in
    let pre = c.requires in
    let room = rw (test.true, test'.true) at pre in
    omega (arith, room, size-append packet_start packet_end, c.emit_packet_start-next.ensures.next, length-blanks packet_start)

pub returns-then-flags-2 : goal.returns-then-flags-2
unfolding argument
returns-then-flags-2 c =
    let test = c.if-flags in
    let test' = c.if-flags-2 in
    let emit-packet-start = c.emit_packet_start-next.ensures in
    rw (test.true, test'.true, blanks-append packet_start packet_end) (then emit-packet-start c.emit_packet_end.ensures)

pub returns-then-flags : goal.returns-then-flags
unfolding argument
returns-then-flags c = rw (c.if-flags.true, c.if-flags-2.false) nothing

pub returns : goal.returns
unfolding argument
returns c = rw c.if-flags.false (last c.emit_alu.ensures)
