use Rattle.ebpf.specs.Insn.{insn_at}
use Rattle.ebpf.proofs.insn.insn_at.Goals as goal

pub returns : goal.returns
unfolding insn_at
returns c = rw (c.offset_at.ensures, c.read_i32.ensures)
