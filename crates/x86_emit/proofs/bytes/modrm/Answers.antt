use Rattle.std.proofs.Common.{refl, arith}
use Rattle.x86.specs.Encode.{modrm}
use Rattle.x86_emit.proofs.bytes.modrm.Goals as goal

pub returns : goal.returns
unfolding modrm
returns c = (refl, omega arith)
