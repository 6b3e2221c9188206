use Rattle.std.proofs.Common.{refl}
use Rattle.ebpf.specs.Named.{opcodes}
use Rattle.ebpf.proofs.constants.opcodes.Goals as goal

pub returns : goal.returns
unfolding opcodes
returns c = refl
