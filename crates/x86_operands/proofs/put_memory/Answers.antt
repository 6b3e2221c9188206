use Rattle.x86_operands.specs.Operands.{memory_text}
use Rattle.text.proofs.SaysLaws.{same, then}
use Rattle.x86_operands.proofs.put_memory.Goals as goal

pub returns : goal.returns
unfolding memory_text
returns c =
    same (then c.put_text-next.ensures (then c.put_register-next.ensures (then c.put_displacement-next.ensures c.put_byte.ensures)))
    (rw c.size_name.ensures)
