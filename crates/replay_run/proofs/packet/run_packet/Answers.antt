use Rattle.replay.specs.Run.{run_of}
use Rattle.std.proofs.Common.{rules}
use Rattle.replay_run.proofs.packet.run_packet.Goals as goal

pub returns : goal.returns
unfolding run_of
returns c = c.run.ensures
