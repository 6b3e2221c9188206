use Rattle.jit_lengths.proofs.LengthsLaws.{alu-size}
use Rattle.jit_lengths.proofs.ByNumber.{no_length, kind-read}
use Rattle.ebpf.specs.Kinds as opcodes
use Rattle.jit.specs.Slots.{alu_of}
use Rattle.std.proofs.Common.{refl, ◌∙◌, arith}
use Rattle.jit_lengths.proofs.slot.slot_length.Goals as goal

pub returns-in-3 : goal.returns-in-3
returns-in-3 c =
    let pre = c.requires in
    let kind = kind-read pre.0 c.in-3.is in
    let op = c.mul_of.ensures in
    let width = c.width_of.ensures in
    rw (kind, ← op, ← width, ← c.source_of.ensures, ← c.insn_at.ensures)
    (c.muldivmod_length.ensures.0, omega (arith, c.muldivmod_length.ensures.1))

pub returns-in-9 : goal.returns-in-9
returns-in-9 c =
    let pre = c.requires in
    let kind = kind-read pre.0 c.in-9.is in
    rw (kind, ← c.size_of.ensures, ← c.insn_at-in-9.ensures)
    (c.ld_abs_length.ensures.0 c.args.mode, omega (arith, c.ld_abs_length.ensures.1))

pub returns-in-10 : goal.returns-in-10
returns-in-10 c =
    let pre = c.requires in
    let kind = kind-read pre.0 c.in-10.is in
    rw (kind, ← c.size_of-in-10.ensures, ← c.insn_at-in-10.ensures)
    (c.ld_ind_length.ensures.0 c.args.mode, omega (arith, c.ld_ind_length.ensures.1))

pub returns-in-11 : goal.returns-in-11
returns-in-11 c =
    let pre = c.requires in
    let kind = kind-read pre.0 c.in-11.is in
    rw (kind, ← c.size_of-in-11.ensures, ← c.insn_at-in-11.ensures)
    (c.ld_reg_length.ensures.0 c.args.mode, omega (arith, c.ld_reg_length.ensures.1))

pub returns-in-12 : goal.returns-in-12
returns-in-12 c =
    let pre = c.requires in
    let kind = kind-read pre.0 c.in-12.is in
    rw (kind, ← c.size_of-in-12.ensures, ← c.insn_at-in-12.ensures)
    (c.st_imm_length.ensures.0 c.args.mode, omega (arith, c.st_imm_length.ensures.1))

pub returns-in-13 : goal.returns-in-13
returns-in-13 c =
    let pre = c.requires in
    let kind = kind-read pre.0 c.in-13.is in
    rw (kind, ← c.size_of-in-13.ensures, ← c.insn_at-in-13.ensures)
    (c.st_reg_length.ensures.0 c.args.mode, omega (arith, c.st_reg_length.ensures.1))

pub returns-in-14 : goal.returns-in-14
returns-in-14 c =
    let args = c.args in
    let pre = c.requires in
    let kind = kind-read pre.0 c.in-14.is in
    let op = opcodes.alu_of args.opc in
    let width = c.width_of-in-14 in
    let source = c.source_of-in-14 in
    rw (kind, ← width.ensures, ← source.ensures, ← c.insn_at-in-14.ensures) (
      λ slot value below. c.operands_length.ensures.0 (alu_of op) ∙ alu-size op width.result source.result c.insn_at-in-14.result,
      omega (arith, c.operands_length.ensures.1),
    )

pub returns-in-15 : goal.returns-in-15
returns-in-15 c =
    let pre = c.requires in
    let kind = kind-read pre.0 c.in-15.is in
    rw (kind, ← c.width_of-in-15.ensures, ← c.source_of-in-15.ensures, ← c.insn_at-in-15.ensures)
    (λ slot value below. c.shift_length.ensures.0 _, omega (arith, c.shift_length.ensures.1))

pub returns-in-16 : goal.returns-in-16
returns-in-16 c =
    let pre = c.requires in
    let kind = kind-read pre.0 c.in-16.is in
    rw (kind, ← c.width_of-in-16.ensures, ← c.insn_at-in-16.ensures)
    (c.neg_length.ensures.0 c.args.mode, omega (arith, c.neg_length.ensures.1))

pub returns-in-17 : goal.returns-in-17
returns-in-17 c =
    let pre = c.requires in
    let kind = kind-read pre.0 c.in-17.is in
    rw (kind, ← c.width_of-in-17.ensures, ← c.source_of-in-17.ensures, ← c.insn_at-in-17.ensures)
    (λ slot value below. c.mov_length.ensures.0, omega (arith, c.mov_length.ensures.1))

pub returns-in-18 : goal.returns-in-18
returns-in-18 c =
    let pre = c.requires in
    rw (kind-read pre.0 c.in-18.is) (λ slot value below. refl, omega arith)

pub returns-in_default : goal.returns-in_default
returns-in_default c = let pre = c.requires in (no_length c.args.mode pre.0 pre.1 c.in_default.in_default-own.rest, omega arith)
