use Rattle.std.proofs.Common.{rules}
use Rattle.ebpf.proofs.Masks.{times, by_size}
use Rattle.ebpf.specs.Opcode.{sizes}
use Rattle.base.proofs.CasesLaws.{rest}
use Rattle.ebpf.proofs.kind.size_of.Goals as goal

pub returns-in-0 : goal.returns-in-0
returns-in-0 c = by_size sizes _ c.args.opc (search rules) (rw c.in-0.is)

pub returns-in-8 : goal.returns-in-8
returns-in-8 c = by_size sizes _ c.args.opc (search rules) (rw c.in-8.is)

pub returns-in-16 : goal.returns-in-16
returns-in-16 c = by_size sizes _ c.args.opc (search rules) (rw c.in-16.is)

pub returns-in_default : goal.returns-in_default
returns-in_default c = by_size sizes _ c.args.opc (search rules) (rest (times 8 sizes) _ _ c.in_default.in_default-own.rest)
