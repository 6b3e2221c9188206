use Rattle.x86_operands.specs.Operands.{store_constant_text}
use Rattle.text.proofs.SaysLaws.{same, then}
use Rattle.x86_operands.proofs.put_store_constant.Goals as goal

pub returns : goal.returns
unfolding store_constant_text
returns c =
    same (then c.put_memory-next.ensures
    c.put_form.ensures)
    (rw c.constant_of.ensures)
