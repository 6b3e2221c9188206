use Rattle.ebpf_fields.specs.Fields.{fields_at}
use Rattle.ebpf_fields.proofs.fields_at.Goals as goal

pub returns-in-Some : goal.returns-in-Some
unfolding fields_at
returns-in-Some c = rw (← c.get_insn.ensures, c.in-Some.is)

pub returns-in-None : goal.returns-in-None
unfolding fields_at
returns-in-None c = rw (← c.get_insn.ensures, c.in-None.is)
