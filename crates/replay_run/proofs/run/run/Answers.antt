use Rattle.std.proofs.Common.{◌≡◌, ◌+◌, ◌-◌, ◌/◌, length, refl, ap, ◌∙◌, arith, length-set, rules}
use Rattle.replay.specs.Memory.{State}
use Rattle.replay.specs.Run.{run_from, step_limit}
use Rattle.replay.proofs.RunLaws.{behind-the-end, nothing-there}
use Rattle.replay_step.specs.Steps.{state}
use Rattle.replay_run.proofs.RunningLaws.{Onward, Sized, begin, after-goes, after-end, after-absent, at-limit}
use Rattle.replay_run.proofs.run.run.Goals as goal

pub returns-then-n-slot : goal.returns-then-n-slot
returns-then-n-slot c =
    let on = c.loop in
    let left = step_limit - on.counter in
    let at = c.args in
    after-absent _ _ at.prog.now on.slot (state on.regs on.stack on.packet) on.counts left (omega (arith, c.loop-test.true))
    on.invariant.0
    (nothing-there at.prog.now on.slot _ (behind-the-end at.prog.now on.slot (omega (arith, on.invariant.1.1, c.if-n-slot.true))))

pub returns-in-Exit : goal.returns-in-Exit
returns-in-Exit c =
    let on = c.loop in
    let left = step_limit - on.counter in
    let at = c.args in
    let stepped = rw c.in-Exit.is at
    c.step.ensures in
    (after-end _ _ at.prog.now on.slot (state on.regs on.stack on.packet) on.counts left
    (omega (arith, c.loop-test.true)) on.invariant.0
    stepped.turn)

pub returns-in-Access : goal.returns-in-Access
returns-in-Access c =
    let on = c.loop in
    let left = step_limit - on.counter in
    let at = c.args in
    let stepped = rw c.in-Access.is at
    c.step.ensures in
    (after-end _ _ at.prog.now on.slot (state on.regs on.stack on.packet) on.counts left
    (omega (arith, c.loop-test.true)) on.invariant.0
    stepped.turn)

pub returns-in-Absent : goal.returns-in-Absent
returns-in-Absent c =
    let on = c.loop in
    let left = step_limit - on.counter in
    let at = c.args in
    let stepped = rw c.in-Absent.is at c.step.ensures in
    let stopped =
    after-absent _ _ at.prog.now on.slot (state on.regs on.stack on.packet) on.counts left
    (omega (arith, c.loop-test.true))
    on.invariant.0 stepped.turn in
    record {
      how = stopped.how;
      counts_are = stopped.counts_are;
      packet_is = ap (λ (t : State). t.packet) (stepped.same stepped.turn) ∙ stopped.packet_is;
    }

pub loop-preserved : goal.loop-preserved
loop-preserved c =
    let on = c.loop in
    let left = step_limit - on.counter in
    let at = c.args in
    let next : left - 1 ≡ step_limit - (on.counter + 1) = omega arith in
    let stepped = rw c.in-Go.is at
    c.step.ensures in (
      rw (← next)
          (after-goes _ _ at.prog.now on.slot (state on.regs on.stack on.packet) on.counts left
          (omega (arith, c.loop-test.true)) on.invariant.0
          stepped.turn),
      (
        record {
          regs-size = c.step.auto.regs ∙ on.invariant.1.0.regs-size;
          stack-size = c.step.auto.stack ∙ on.invariant.1.0.stack-size;
          packet-size = c.step.auto.packet ∙ on.invariant.1.0.packet-size;
          counts-size = simp length-set on.invariant.1.0.counts-size;
        },
        on.invariant.1.1,
      ),
    )

pub returns : goal.returns
returns c =
    let on = c.loop in
    let left = step_limit - on.counter in
    let at = c.args in
    at-limit _ _ at.prog.now on.slot (state on.regs on.stack on.packet) on.counts left (omega (arith, c.loop-test.false))
    on.invariant.0
