use Rattle.std.proofs.Common.{◌+◌, arith, rules, ltb-true}
use Rattle.jit.specs.Translation.{slots_of}
use Rattle.replay_step.specs.Steps.{state}
use Rattle.replay_step.proofs.SpecialLaws.{wide-there, wide-loads, exits-with, has-nothing}
use Rattle.replay_step.proofs.StepLaws.{went_on, exited, nothing}
use Rattle.replay_step.proofs.step.work_special.Goals as goal

pub dst_of-dst-requires : goal.dst_of-dst-requires
dst_of-dst-requires c =
    let at = c.args in
    let t = wide-there at.prog.now at.slot at.code c.requires.0.code_is c.in-24.is in
    omega (arith, t.inside)

pub imm_of-requires : goal.imm_of-requires
imm_of-requires c =
    let at = c.args in
    let t = wide-there at.prog.now at.slot at.code c.requires.0.code_is
    c.in-24.is in
    omega (arith, t.inside)

pub upper_of-requires : goal.upper_of-requires
upper_of-requires c =
    let at = c.args in
    let t = wide-there at.prog.now at.slot at.code c.requires.0.code_is
    c.in-24.is in
    omega (arith, ltb-true (at.slot + 1) (slots_of at.prog.now) t.kept.asks)

pub offset_bounds-regs-dst : goal.offset_bounds-regs-dst
offset_bounds-regs-dst c =
    let at = c.args in
    let t = wide-there at.prog.now at.slot at.code c.requires.0.code_is
    c.in-24.is in
    omega (arith, t.dst, c.dst_of-dst.ensures, c.requires.0.eleven)

pub bounds-regs-dst : goal.bounds-regs-dst
bounds-regs-dst c =
    let at = c.args in
    let t = wide-there at.prog.now at.slot at.code c.requires.0.code_is
    c.in-24.is in
    omega (arith, t.dst, c.dst_of-dst.ensures, c.requires.0.eleven)

pub returns-in-24 : goal.returns-in-24
returns-in-24 c =
    let at = c.args in
    went_on at.prog.now at.slot _ _
    (rw (c.dst_of-dst.ensures, c.from-low.ensures, c.imm_of.ensures, c.from-high.ensures, c.upper_of.ensures)
    (wide-loads at.prog.now at.slot at.code c.requires.0.code_is
    c.in-24.is
    at.regs.now at.stack.now at.packet.now))

pub returns-in-144 : goal.returns-in-144
returns-in-144 c =
    let at = c.args in
    exited at.prog.now at.slot _ _
    (exits-with at.prog.now at.slot at.code c.requires.0.code_is c.in-144.is
    at.regs.now at.stack.now at.packet.now)

pub returns-in_default : goal.returns-in_default
returns-in_default c =
    let at = c.args in
    nothing at.prog.now at.slot _
    (has-nothing at.prog.now at.slot at.code c.requires.0.code_is
    c.requires.1 c.in_default.in_default-own.rest.0.1 c.in_default.in_default-own.rest.1
    (state at.regs.now at.stack.now at.packet.now))
