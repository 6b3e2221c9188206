use Rattle.x86_operands.specs.Operands.{with_constant_text}
use Rattle.text.proofs.SaysLaws.{then}
use Rattle.x86_operands.proofs.put_with_constant.Goals as goal

pub returns : goal.returns
unfolding with_constant_text
returns c = then c.put_register-next.ensures c.put_form.ensures
