use Rattle.x86.specs.Encode.{rex}
use Rattle.jit_lengths.proofs.instruction.rex_length.Goals as goal

pub returns : goal.returns
unfolding rex
returns c = c.rex_rule_length.ensures
