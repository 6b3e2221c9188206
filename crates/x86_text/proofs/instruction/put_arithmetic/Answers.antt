use Rattle.x86_text.specs.Intel.{arithmetic_text}
use Rattle.text.proofs.SaysLaws.{same}
use Rattle.x86_text.proofs.instruction.put_arithmetic.Goals as goal

pub returns : goal.returns
unfolding arithmetic_text
returns c = same c.put_with_constant.ensures (rw (c.constant_of.ensures, c.size_of-z.ensures))
