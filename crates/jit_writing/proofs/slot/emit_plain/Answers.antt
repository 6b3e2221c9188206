use mathlib.Core.Path.{◌∙◌, ap}
use Rattle.ebpf.specs.Insn.{insn_at}
use Rattle.ebpf.specs.Kinds.{width_of}
use Rattle.ebpf.specs.Opcode.{kind_of, source_of}
use Rattle.jit_slots.proofs.SlotCodes.{other-mov}
use Rattle.jit_walk.proofs.NumberedLaws.{no_code}
use Rattle.jit_walk.proofs.SlotReads.{kind_at, fields}
use Rattle.x86_emit.proofs.WroteLaws.{nothing, last}
use borrow.Author.Rules.{rules}
use Rattle.jit_writing.proofs.slot.emit_plain.Goals as goal

pub emit_ld_ind-requires : goal.emit_ld_ind-requires
emit_ld_ind-requires c =
    let pre = c.requires in
    let kind = kind_at pre.slot_read.0 c.in-10.is in
    let insn-at = c.insn_at-in-10.ensures in
    (rw (kind, ← c.size_of-in-10.ensures, ← insn-at) at pre.fit_all, (fields pre.slot_read.0 insn-at).src)

pub emit_shift-requires : goal.emit_shift-requires
emit_shift-requires c =
    let pre = c.requires in
    let kind = kind_at pre.slot_read.0 c.in-15.is in
    let insn-at = c.insn_at-in-15.ensures in
    let read = fields pre.slot_read.0 insn-at in
    (rw (kind, ← c.width_of-in-15.ensures, ← c.source_of-in-15.ensures, ← insn-at, ← read.opc_is) at pre.fit_all, (read.dst, read.src))

pub returns-then-opc-eq-MOV64_IMM : goal.returns-then-opc-eq-MOV64_IMM
returns-then-opc-eq-MOV64_IMM c =
    let slot = c.requires.slot_read.0 in
    rw (kind_at slot c.in-17.is, c.if-opc-eq-MOV64_IMM.true, ← c.insn_at-then-opc-eq-MOV64_IMM.ensures) c.emit_mov64_imm.ensures

pub emit_be-requires : goal.emit_be-requires
emit_be-requires c =
    let pre = c.requires in
    let insn-at = c.insn_at-in-5.ensures in
    (rw (kind_at pre.slot_read.0 c.in-5.is, ← insn-at) at pre.fit_all, (fields pre.slot_read.0 insn-at).dst)

pub returns-in-9 : goal.returns-in-9
returns-in-9 c =
    let slot = c.requires.slot_read.0 in
    rw (kind_at slot c.in-9.is, ← c.size_of.ensures, ← c.insn_at.ensures) c.emit_ld_abs.ensures

pub returns-in-10 : goal.returns-in-10
returns-in-10 c =
    let slot = c.requires.slot_read.0 in
    rw (kind_at slot c.in-10.is, ← c.size_of-in-10.ensures, ← c.insn_at-in-10.ensures) c.emit_ld_ind.ensures

pub returns-in-11 : goal.returns-in-11
returns-in-11 c =
    let slot = c.requires.slot_read.0 in
    rw (kind_at slot c.in-11.is, ← c.size_of-in-11.ensures, ← c.insn_at-in-11.ensures) c.emit_ld_reg.ensures

pub returns-in-12 : goal.returns-in-12
returns-in-12 c =
    let slot = c.requires.slot_read.0 in
    rw (kind_at slot c.in-12.is, ← c.size_of-in-12.ensures, ← c.insn_at-in-12.ensures) c.emit_st_imm.ensures

pub returns-in-13 : goal.returns-in-13
returns-in-13 c =
    let slot = c.requires.slot_read.0 in
    rw (kind_at slot c.in-13.is, ← c.size_of-in-13.ensures, ← c.insn_at-in-13.ensures) c.emit_st_reg.ensures

pub returns-in-14 : goal.returns-in-14
returns-in-14 c =
    let slot = c.requires.slot_read.0 in
    let opc_is = (fields slot c.insn_at-in-14.ensures).opc_is in
    rw (kind_at slot c.in-14.is, ← c.width_of.ensures, ← c.source_of.ensures, ← c.insn_at-in-14.ensures, ← opc_is)
    c.emit_arithmetic.ensures

pub returns-in-15 : goal.returns-in-15
returns-in-15 c =
    let slot = c.requires.slot_read.0 in
    let opc_is = (fields slot c.insn_at-in-15.ensures).opc_is in
    rw (kind_at slot c.in-15.is, ← c.width_of-in-15.ensures, ← c.source_of-in-15.ensures, ← c.insn_at-in-15.ensures, ← opc_is)
    c.emit_shift.ensures

pub returns-in-16 : goal.returns-in-16
returns-in-16 c =
    let slot = c.requires.slot_read.0 in
    rw (kind_at slot c.in-16.is, ← c.width_of-in-16.ensures, ← c.insn_at-in-16.ensures) c.emit_neg.ensures

pub returns-else-opc-eq-MOV64_IMM : goal.returns-else-opc-eq-MOV64_IMM
returns-else-opc-eq-MOV64_IMM c =
    let args = c.args in
    let slot = c.requires.slot_read.0 in
    let kind = ap kind_of slot.opc_is ∙ kind_at slot c.in-17.is in
    let i = insn_at args.prog.now args.slot.number in
    let other = other-mov args.mode args.opc (width_of args.opc) (source_of args.opc) i (search rules) c.if-opc-eq-MOV64_IMM.false kind in
    rw (kind_at slot c.in-17.is, ← other, ← c.width_of-in-17.ensures, ← c.source_of-in-17.ensures, ← c.insn_at-in-17.ensures)
    c.emit_mov.ensures

pub returns-in-5 : goal.returns-in-5
returns-in-5 c =
    let slot = c.requires.slot_read.0 in
    rw (kind_at slot c.in-5.is, ← c.insn_at-in-5.ensures) c.emit_be.ensures

pub returns-in-4 : goal.returns-in-4
returns-in-4 c =
    let slot = c.requires.slot_read.0 in
    rw (kind_at slot c.in-4.is, ← c.insn_at-in-4.ensures) c.emit_le.ensures

pub returns-in-18 : goal.returns-in-18
returns-in-18 c = rw (kind_at c.requires.slot_read.0 c.in-18.is) (last c.emit_ret.ensures)

pub returns-in_default : goal.returns-in_default
returns-in_default c = rw (no_code c.args.mode c.requires.slot_read.0.numbered c.requires.slot_read.1 c.in_default.in_default-own.rest) nothing
