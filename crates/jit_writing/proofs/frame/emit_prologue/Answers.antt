use mathlib.Core.Path.{◌∙◌, sym, ap}
use mathlib.Core.List.{◌++◌, append_assoc}
use native.Mathlib.Omega.{arith}
use Rattle.x86.specs.Fill.{blanks}
use Rattle.x86.proofs.CodeLaws.{blanks-append, length-blanks, size-append}
use Rattle.x86.specs.Encode.{rex}
use Rattle.jit.specs.Frame.{saves, keep_packet, argument, enter, prologue}
use Rattle.jit.proofs.FrameLaws.{prologue-parts, no-jumps-before}
use Rattle.x86_emit.proofs.WroteLaws.{same, then}
use Rattle.jit_recording.proofs.EmitsLaws.{plainly, emits_then}
use borrow.Author.Rules.{rules}
use Rattle.jit_writing.proofs.frame.emit_prologue.Goals as goal

pub emit_saves-saved-requires : goal.emit_saves-saved-requires
unfolding rex
emit_saves-saved-requires c =
    let pre = c.requires in
    let args = c.args in
    omega (arith, pre.0.page, prologue-parts args.flags, size-append saves keep_packet)

pub emit_argument-argued-requires : goal.emit_argument-argued-requires
unfolding rex
emit_argument-argued-requires c =
    let pre = c.requires in
    let args = c.args in
    let saved = c.emit_saves-saved.ensures in
    omega (arith, pre.0.page, prologue-parts args.flags, size-append saves keep_packet, saved.next, length-blanks (saves ++ keep_packet))

pub emit_enter-requires : goal.emit_enter-requires
unfolding rex
emit_enter-requires c =
    let pre = c.requires in
    let args = c.args in
    let saved = c.emit_saves-saved.ensures.next in
    let argued = c.emit_argument-argued.ensures.next in
    let all = prologue-parts args.flags in
    let first = size-append saves keep_packet in
    let saving = length-blanks (saves ++ keep_packet) in
    let arguing = length-blanks (argument args.flags) in (
      record {
        page = omega (arith, pre.0.page, all, first, saved, saving, argued, arguing);
        entry = pre.0.entry;
        small = omega (arith, pre.0.small);
      },
      pre.1,
    )

pub returns : goal.returns
unfolding prologue
returns c =
    let flags = c.args.flags in
    let emit-saves = c.emit_saves-saved.ensures in
    let emit-argument = c.emit_argument-argued.ensures in
    let emit-enter = c.emit_enter.ensures in
    let before = saves ++ (keep_packet ++ argument flags) in
    let parts = sym (blanks-append (saves ++ keep_packet) (argument flags)) ∙ ap blanks (append_assoc saves keep_packet (argument flags)) in
    let wrote = same (then emit-saves emit-argument) parts in (
      rw (← append_assoc saves (keep_packet ++ argument flags) enter)
          (emits_then before enter (plainly before (no-jumps-before flags) wrote) emit-enter.0),
      emit-enter.1,
    )
