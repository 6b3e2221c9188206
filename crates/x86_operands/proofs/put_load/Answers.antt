use Rattle.x86_operands.specs.Operands.{load_text}
use Rattle.text.proofs.SaysLaws.{same, then}
use Rattle.x86_operands.proofs.put_load.Goals as goal

pub returns : goal.returns
unfolding load_text
returns c = same (then c.put_register-next.ensures (then c.put_byte-next.ensures c.put_memory.ensures)) (rw c.loaded_of.ensures)
