use Rattle.x86_text.specs.Intel.{instruction_text}
use Rattle.text.proofs.SaysLaws.{then}
use Rattle.x86_text.proofs.instruction.put_instruction.Goals as goal

pub returns : goal.returns
unfolding instruction_text
returns c = then c.put_mnemonic-next.ensures c.put_operands.ensures
