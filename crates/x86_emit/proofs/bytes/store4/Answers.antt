use Rattle.std.proofs.Common.{refl, ◌∙◌}
use Rattle.base.specs.Bytes.{le32}
use Rattle.x86_emit.proofs.WroteLaws.{little-32, copied}
use Rattle.x86_emit.proofs.bytes.store4.Goals as goal

pub returns : goal.returns
returns c = copied c.args.code.now c.args.at 4 (le32 c.args.x) c.copy_from_slice.ensures.after (c.to_le_bytes.ensures ∙ little-32 c.args.x) refl c.requires
