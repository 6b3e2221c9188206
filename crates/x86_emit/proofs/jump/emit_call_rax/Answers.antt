use Rattle.x86.specs.Encode.{rex, modrm}
use Rattle.std.proofs.Common.{refl}
use Rattle.x86_emit.proofs.WroteLaws.{same}
use Rattle.x86_emit.proofs.jump.emit_call_rax.Goals as goal

pub returns : goal.returns
unfolding rex modrm
returns c = same c.emit_bytes.ensures refl
