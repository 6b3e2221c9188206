use Rattle.x86_operands.specs.Operands.{pair_text}
use Rattle.text.proofs.SaysLaws.{then}
use Rattle.x86_operands.proofs.put_pair.Goals as goal

pub returns : goal.returns
unfolding pair_text
returns c = then c.put_register-next.ensures (then c.put_byte-next.ensures c.put_register.ensures)
