use Rattle.text.proofs.SaysLaws.{same}
use Rattle.refusals_text.specs.Sentences.{replay_reason}
use Rattle.refusals_text.proofs.put_replay_reason.Goals as goal

pub returns-in-19 : goal.returns-in-19
unfolding replay_reason
returns-in-19 c = same c.put_form-in-19.ensures (rw (c.in-19.is, c.from-opc.ensures))
