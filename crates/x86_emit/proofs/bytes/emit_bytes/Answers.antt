use Rattle.x86_emit.proofs.WroteLaws.{stored}
use Rattle.std.proofs.Common.{rules}
use Rattle.x86_emit.proofs.bytes.emit_bytes.Goals as goal

pub returns : goal.returns
returns c = stored _ _ _ (search rules) (search rules) c.store8.ensures
