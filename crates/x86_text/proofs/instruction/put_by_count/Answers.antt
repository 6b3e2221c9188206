use Rattle.x86_text.specs.Intel.{by_count_text}
use Rattle.text.proofs.SaysLaws.{then}
use Rattle.x86_text.proofs.instruction.put_by_count.Goals as goal

pub returns : goal.returns
unfolding by_count_text
returns c = then c.put_register-next.ensures c.put_text.ensures
