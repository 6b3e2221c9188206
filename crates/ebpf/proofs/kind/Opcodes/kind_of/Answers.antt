use Rattle.ebpf.proofs.KindsLaws.{entry}
use Rattle.std.proofs.Common.{◌∙◌, rules}
use Rattle.ebpf.proofs.kind.Opcodes.kind_of.Goals as goal

pub returns : goal.returns
returns c = c.kind_numbered.ensures ∙ rw c.number_of.ensures (entry _ (search rules))
