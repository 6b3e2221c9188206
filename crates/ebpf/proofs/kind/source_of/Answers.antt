use Rattle.std.proofs.Common.{rules}
use Rattle.ebpf.proofs.Masks.{times, by-source}
use Rattle.ebpf.specs.Opcode.{sources}
use Rattle.base.proofs.CasesLaws.{rest}
use Rattle.ebpf.proofs.kind.source_of.Goals as goal

pub returns-in-0 : goal.returns-in-0
returns-in-0 c = by-source sources _ c.args.opc (search rules) (rw c.in-0.is)

pub returns-in_default : goal.returns-in_default
returns-in_default c = by-source sources _ c.args.opc (search rules) (rest (times 8 sources) _ _ c.in_default.in_default-own.rest)
