use Rattle.x86.specs.Encode.{rex}
use Rattle.x86_emit.proofs.bytes.emit_rexed.Goals as goal

pub returns : goal.returns
unfolding rex
returns c = c.emit_rex_rule.ensures
