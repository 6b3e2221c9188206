use Rattle.std.proofs.Common.{sym, ◌∙◌}
use Rattle.program_replay.proofs.HeaderLaws.{read}
use Rattle.program_replay.proofs.capture.replay_source.Goals as goal

pub replay_ordered-requires : goal.replay_ordered-requires
replay_ordered-requires c =
    let filled = rw c.in-Ok.is at c.fill-read.ensures in
    (read _ _ _ (sym c.header_of.ensures ∙ c.in-Some.is), filled.1)
