use Rattle.std.proofs.Common.{refl, ◌∙◌}
use Rattle.base.specs.Bytes.{le64}
use Rattle.x86_emit.proofs.WroteLaws.{little-64, copied}
use Rattle.x86_emit.proofs.bytes.store8.Goals as goal

pub returns : goal.returns
returns c = copied c.args.code.now c.args.at 8 (le64 c.args.x) c.copy_from_slice.ensures.after (c.to_le_bytes.ensures ∙ little-64 c.args.x) refl c.requires
