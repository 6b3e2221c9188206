-- What a run needs and leaves (Running.antt), of the parameters by their names (base/specs/Lent.antt).
use Rattle.base.specs.Lent.{Slice, MutSlice, Lent, MutLent}
use Rattle.replay.specs.declared.Ended.{Ended}
use Rattle.replay.specs.Run.{run_from, step_limit, run_of}
use Rattle.replay_step.specs.Steps.{state}
use Rattle.replay_run.specs.Running as R

abbrev pub Prepared : (codes prog : Slice) (counts : MutSlice) → Type 0
Prepared codes prog counts = R.Prepared codes.now prog.now counts.now

abbrev pub Running : (codes prog : Slice) (counts regs stack packet : MutSlice) → Type 0
Running codes prog counts regs stack packet = R.Running codes.now prog.now counts.now regs.now stack.now packet.now

abbrev pub Starting : (codes prog : Slice) (counts : MutSlice) (packet : Slice) → Type 0
Starting codes prog counts packet = R.Starting codes.now prog.now counts.now packet.now

abbrev pub Ran : (prog : Lent) (counts regs stack packet : MutLent) → Ended → Type 0
Ran prog counts regs stack packet r =
    R.Left
    (run_from step_limit prog.entry.now 0 (state regs.entry.now stack.entry.now packet.entry.now))
    counts.entry.now counts.exit.now packet.exit.now r

abbrev pub RanPacket : (prog : Lent) (counts packet : MutLent) → Ended → Type 0
RanPacket prog counts packet r =
    R.Left (run_of prog.entry.now packet.entry.now) counts.entry.now counts.exit.now packet.exit.now r
