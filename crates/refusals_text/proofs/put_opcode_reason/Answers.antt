use Rattle.text.proofs.SaysLaws.{same}
use Rattle.refusals_text.specs.Sentences.{opcode_reason}
use Rattle.refusals_text.proofs.put_opcode_reason.Goals as goal

pub returns-in-8 : goal.returns-in-8
unfolding opcode_reason
returns-in-8 c = same c.put_form.ensures (rw (c.in-8.is, c.from-opc.ensures))

pub returns-in-9 : goal.returns-in-9
unfolding opcode_reason
returns-in-9 c = same c.put_form-in-9.ensures (rw (c.in-9.is, c.from-opc.ensures))

pub returns-in-10 : goal.returns-in-10
unfolding opcode_reason
returns-in-10 c = same c.put_form-in-10.ensures (rw (c.in-10.is, c.extended.ensures))

pub returns-in-11 : goal.returns-in-11
unfolding opcode_reason
returns-in-11 c = same c.put_form-in-11.ensures (rw (c.in-11.is, c.from.ensures))

pub returns-in-12 : goal.returns-in-12
unfolding opcode_reason
returns-in-12 c = same c.put_form-in-12.ensures (rw (c.in-12.is, c.from-src.ensures))
