use Rattle.replay_step.specs.Steps.{state}
use Rattle.replay_step.proofs.StepLaws.{goes-inside}
use Rattle.std.proofs.Common.{rules}
use Rattle.replay_step.proofs.step.step.Goals as goal

pub jump-requires : goal.jump-requires
jump-requires c =
    let at = c.args in
    let e = rw c.in-Branch.is at c.work_on.ensures in
    goes-inside at.prog.now at.slot (state at.regs.now at.stack.now at.packet.now) e.turn
