use mathlib.Core.Path.{refl}
use Prim.Native.Nat.{◌+◌}
use Rattle.ebpf.specs.Insn.{read_at}
use Rattle.ebpf.specs.declared.kind.Kind.TheVariants.{LdDwImm}
use Rattle.jit.specs.Translation.{Filter}
use Rattle.jit.specs.Slots.{slot_code}
use Rattle.jit_recording.proofs.EmitsLaws.{plainly}
use Rattle.jit_walk.proofs.NumberedLaws.{other, others}
use Rattle.jit_walk.proofs.SlotReads.{kind_at, fields}
use borrow.Author.Rules.{rules}
use Rattle.jit_writing.proofs.slot.emit_slot.Goals as goal

pub emit_muldivmod-requires-clause-room : goal.emit_muldivmod-requires-clause-room
emit_muldivmod-requires-clause-room c =
    let pre = c.requires in
    rw (kind_at pre.slot_read.0 c.in-3.is, ← c.mul_of.ensures, ← c.width_of.ensures, ← c.source_of.ensures, ← c.insn_at.ensures) at pre.room

pub emit_ja-requires-clause-room : goal.emit_ja-requires-clause-room
emit_ja-requires-clause-room c =
    let pre = c.requires in
    rw (kind_at pre.slot_read.0 c.in-6.is, ← c.insn_at-in-6.ensures) at pre.room

pub emit_jump-requires-clause-room : goal.emit_jump-requires-clause-room
emit_jump-requires-clause-room c =
    let pre = c.requires in
    let insn-at = c.insn_at-in-7.ensures in
    let opc_is = (fields pre.slot_read.0 insn-at).opc_is in
    rw (kind_at pre.slot_read.0 c.in-7.is, ← c.width_of-in-7.ensures, ← c.source_of-in-7.ensures, ← insn-at, ← opc_is) at pre.room

pub emit_call-requires-clause-room : goal.emit_call-requires-clause-room
emit_call-requires-clause-room c =
    let pre = c.requires in
    let kind = kind_at pre.slot_read.0 c.in-8.is in
    rw (kind, ← c.insn_at-i-in-8.ensures, ← c.call_operand.ensures, ← c.value_in-value-in-8.ensures) at pre.room

pub emit_plain-requires-clause-fit_all : goal.emit_plain-requires-clause-fit_all
emit_plain-requires-clause-fit_all c =
    let args = c.args in
    let pre = c.requires in
    let behind = read_at args.prog.now (args.slot.number + 1) in
    let other = other c.in_default.in_default-own.rest in
    let filter : Filter = record { program = args.prog.now; mode = args.mode; ids = args.ids.now; addresses = args.addresses.now } in
    rw (others filter args.slot.number _ behind pre.slot_read.0.numbered other).same pre.room.page

pub returns-in-2 : goal.returns-in-2
returns-in-2 c =
    let kind = kind_at c.requires.slot_read.0 c.in-2.is in
    let value_in = c.value_in-value in
    let insn-at = c.insn_at-i in
    rw (kind, ← insn-at.ensures, ← c.wide_operand.ensures, ← value_in.ensures)
    (plainly (slot_code c.args.mode LdDwImm 0 insn-at.result value_in.result) refl c.emit_ld_dw_imm.ensures, search rules)

pub returns-in-3 : goal.returns-in-3
returns-in-3 c =
    let kind = kind_at c.requires.slot_read.0 c.in-3.is in
    let mul-of = c.mul_of.ensures in
    rw (kind, ← mul-of, ← c.width_of.ensures, ← c.source_of.ensures, ← c.insn_at.ensures)
    c.emit_muldivmod.ensures

pub returns-in-6 : goal.returns-in-6
returns-in-6 c =
    let kind = kind_at c.requires.slot_read.0 c.in-6.is in
    rw (kind, ← c.insn_at-in-6.ensures) c.emit_ja.ensures

pub returns-in-7 : goal.returns-in-7
returns-in-7 c =
    let slot = c.requires.slot_read.0 in
    let kind = kind_at slot c.in-7.is in
    let insn-at = c.insn_at-in-7.ensures in
    let opc_is = (fields slot insn-at).opc_is in
    rw (kind, ← c.width_of-in-7.ensures, ← c.source_of-in-7.ensures, ← insn-at, ← opc_is) c.emit_jump.ensures

pub returns-in-8 : goal.returns-in-8
returns-in-8 c =
    let kind = kind_at c.requires.slot_read.0 c.in-8.is in
    let insn-at = c.insn_at-i-in-8.ensures in
    rw (kind, ← insn-at, ← c.call_operand.ensures, ← c.value_in-value-in-8.ensures) c.emit_call.ensures

pub returns-in_default : goal.returns-in_default
returns-in_default c =
    let args = c.args in
    let pre = c.requires in
    let behind = read_at args.prog.now (args.slot.number + 1) in
    let other = other c.in_default.in_default-own.rest in
    let filter : Filter = record { program = args.prog.now; mode = args.mode; ids = args.ids.now; addresses = args.addresses.now } in
    let plain = others filter args.slot.number _ behind pre.slot_read.0.numbered other in
    rw (← plain.same) (plainly _ plain.none c.emit_plain.ensures, search rules)
