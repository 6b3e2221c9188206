use Rattle.text.proofs.SaysLaws.{same, then}
use Rattle.ebpf_statements.specs.Statements.{binary}
use Rattle.ebpf_statements.proofs.put_binary.Goals as goal

pub returns : goal.returns
unfolding binary
returns c =
    same (then c.put_form-next.ensures
    (then c.put_text-next.ensures c.put_operand.ensures))
    (rw (c.letter_of.ensures, c.from.ensures))
