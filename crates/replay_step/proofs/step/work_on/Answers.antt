use Rattle.ebpf.specs.Insn.{insn_at}
use Rattle.ebpf.specs.Opcode.{size_of}
use Rattle.replay_memory.specs.AtPlace.{is_inside}
use Rattle.replay_step.specs.Steps.{place_by}
use Rattle.std.proofs.Common.{arith, rules}
use Rattle.replay_step.proofs.NumberLaws.{past, imm_lt}
use Rattle.replay_step.proofs.StepLaws.{fetches, swap-width, loads-turn, store-imm-turn, store-reg-turn, low_turn, wide-turn, jump-turn, jump-low-turn}
use Rattle.replay_step.proofs.StepLaws.{went_on, accessed}
use Rattle.replay_step.proofs.step.work_on.Goals as goal

pub step_load-requires : goal.step_load-requires
step_load-requires c =
    let at = c.args in (
      (fetches at.prog.now at.slot at.code at.regs.now at.stack.now at.packet.now
          c.requires
          (λ z. omega (arith, z, c.in-1.is))),
      c.requires.areas,
    )

pub step_store_imm-requires : goal.step_store_imm-requires
step_store_imm-requires c =
    let at = c.args in (
      (fetches at.prog.now at.slot at.code at.regs.now at.stack.now at.packet.now
          c.requires
          (λ z. omega (arith, z, c.in-2.is))),
      c.requires.areas,
    )

pub step_store_reg-requires : goal.step_store_reg-requires
step_store_reg-requires c =
    let at = c.args in (
      (fetches at.prog.now at.slot at.code at.regs.now at.stack.now at.packet.now
          c.requires
          (λ z. omega (arith, z, c.in-3.is))),
      c.requires.areas,
    )

pub step_alu-requires : goal.step_alu-requires
step_alu-requires c =
    let at = c.args in (
      (fetches at.prog.now at.slot at.code at.regs.now at.stack.now at.packet.now
          c.requires (λ z. omega (arith, z, c.in-4.is))),
      swap-width at.prog.now at.slot
          at.code at.regs.now at.stack.now at.packet.now c.requires c.in-4.is,
    )

pub branch-code-requires : goal.branch-code-requires
branch-code-requires c =
    let at = c.args in
    (fetches at.prog.now at.slot at.code at.regs.now at.stack.now at.packet.now
    c.requires (λ z. omega (arith, z, c.in-5.is)))

pub branch_low-requires : goal.branch_low-requires
branch_low-requires c =
    let at = c.args in
    (fetches at.prog.now at.slot at.code at.regs.now at.stack.now at.packet.now
    c.requires (λ z. omega (arith, z, c.in-6.is)))

pub step_arithmetic-requires : goal.step_arithmetic-requires
step_arithmetic-requires c =
    let at = c.args in
    (fetches at.prog.now at.slot at.code at.regs.now at.stack.now at.packet.now
    c.requires (λ z. omega (arith, z, past 7 _ c.in_default.in_default-own.rest)))

pub returns-in-1 : goal.returns-in-1
returns-in-1 c =
    let at = c.args in
    let load = c.step_load.ensures in
    rw (c.went.ensures, load.inside, load.regs_after)
    (accessed at.prog.now at.slot _ _ at.code (insn_at at.prog.now at.slot)
    (is_inside (place_by (size_of at.code) (insn_at at.prog.now at.slot) (insn_at at.prog.now at.slot).src at.regs.now
    at.packet.now))
    (loads-turn at.prog.now at.slot at.code at.regs.now at.stack.now at.packet.now
    c.requires
    c.in-1.is))

pub returns-in-2 : goal.returns-in-2
returns-in-2 c =
    let at = c.args in
    rw c.went-in-2.ensures
    (accessed at.prog.now at.slot _ _ at.code (insn_at at.prog.now at.slot)
    c.step_store_imm.result
    (store-imm-turn at.prog.now at.slot at.code at.regs.now at.stack.now at.packet.now
    c.requires
    c.in-2.is
    c.step_store_imm.ensures))

pub returns-in-3 : goal.returns-in-3
returns-in-3 c =
    let at = c.args in
    rw c.went-in-3.ensures
    (accessed at.prog.now at.slot _ _ at.code (insn_at at.prog.now at.slot)
    c.step_store_reg.result
    (store-reg-turn at.prog.now at.slot at.code at.regs.now at.stack.now at.packet.now
    c.requires
    c.in-3.is
    c.step_store_reg.ensures))

pub returns-in-4 : goal.returns-in-4
returns-in-4 c =
    let at = c.args in
    went_on at.prog.now at.slot _ _
    (rw c.step_alu.ensures
    (low_turn at.prog.now at.slot at.code at.regs.now at.stack.now at.packet.now
    c.requires c.in-4.is))

pub returns-in-5 : goal.returns-in-5
returns-in-5 c =
    let at = c.args in
    rw c.branch-code.ensures
    (went_on at.prog.now at.slot _ _
    (jump-turn at.prog.now at.slot at.code at.regs.now at.stack.now at.packet.now
    c.requires c.in-5.is))

pub returns-in-6 : goal.returns-in-6
returns-in-6 c =
    let at = c.args in
    rw c.branch_low.ensures
    (went_on at.prog.now at.slot _ _
    (jump-low-turn at.prog.now at.slot at.code at.regs.now at.stack.now at.packet.now
    c.requires c.in-6.is
    (imm_lt at.prog.now at.slot (λ k. omega (arith, c.type_inv.prog k)))))

pub returns-in_default : goal.returns-in_default
returns-in_default c =
    let at = c.args in
    went_on at.prog.now at.slot _ _
    (rw c.step_arithmetic.ensures
    (wide-turn at.prog.now at.slot at.code at.regs.now at.stack.now at.packet.now
    c.requires
    (omega (arith, past 7 _ c.in_default.in_default-own.rest))))
