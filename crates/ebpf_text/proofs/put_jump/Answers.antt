use Rattle.text.proofs.SaysLaws.{same, then}
use Rattle.ebpf_text.specs.Assembler.{jump_text}
use Rattle.ebpf_text.proofs.put_jump.Goals as goal

pub returns : goal.returns
unfolding jump_text
returns c =
    same (then c.put_text-next.ensures (then c.put_binary-next.ensures c.put_form.ensures))
    (rw (c.comparison.ensures, c.extended.ensures))
