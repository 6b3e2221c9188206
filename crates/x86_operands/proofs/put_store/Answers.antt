use Rattle.x86_operands.specs.Operands.{store_text}
use Rattle.text.proofs.SaysLaws.{then}
use Rattle.x86_operands.proofs.put_store.Goals as goal

pub returns : goal.returns
unfolding store_text
returns c = then c.put_memory-next.ensures (then c.put_byte-next.ensures c.put_register.ensures)
