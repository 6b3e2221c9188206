use Rattle.std.proofs.Common.{refl}
use Rattle.ebpf.specs.Opcode.{kind_of}
use Rattle.ebpf.specs.Kinds.{numbers}
use Rattle.ebpf.proofs.kind.Opcodes.new.Goals as goal

pub invariant_of-result : goal.invariant_of-result
unfolding numbers kind_of
invariant_of-result c = record { whole = refl }
