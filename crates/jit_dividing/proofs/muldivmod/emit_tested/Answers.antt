use Rattle.x86_emit.proofs.WroteLaws.{then, last}
use borrow.Author.Rules.{rules}
use Rattle.jit_dividing.proofs.muldivmod.emit_tested.Goals as goal

pub returns : goal.returns
returns c = then c.emit_load_signed-numbered.ensures (last c.emit_alu.ensures)
