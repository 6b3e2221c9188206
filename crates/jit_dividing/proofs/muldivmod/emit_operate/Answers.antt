use Rattle.x86_emit.proofs.WroteLaws.{then, last}
use Rattle.jit_dividing.proofs.Pieces.{divides}
use Rattle.jit_dividing.proofs.muldivmod.emit_operate.Goals as goal

pub returns-in-Div : goal.returns-in-Div
returns-in-Div c = rw (divides c.args.op c.args.width c.in-Div.is) (then c.emit_alu-cleared.ensures (last c.emit_alu_ext-in-Div.ensures))
