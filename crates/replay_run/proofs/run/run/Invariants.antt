use Rattle.std.proofs.Common.{◌≡◌, ◌-◌, ◌/◌, length, refl, ap, ◌∙◌, arith, length-set, rules}
use Rattle.replay.specs.Memory.{State}
use Rattle.replay.specs.Run.{run_from, step_limit}
use Rattle.replay.proofs.RunLaws.{behind-the-end, nothing-there}
use Rattle.replay_step.specs.Steps.{state}
use Rattle.replay_run.proofs.RunningLaws.{Onward, Sized, begin, after-goes, after-end, after-absent, at-limit}
use Rattle.replay_run.proofs.run.run.Given as goal

abbrev pub invariant-loop : goal.invariant-loop
invariant-loop l =
    Onward (run_from step_limit l.prog 0 (state l.initial.regs l.initial.stack l.initial.packet)) l.initial.counts l.prog l.slot (step_limit - l.counter) (state l.regs l.stack l.packet) l.counts
    × (Sized l.initial.regs l.initial.stack l.initial.packet l.initial.counts l.regs l.stack l.packet l.counts × (l.n ≡ length l.prog / 8))
