use Rattle.x86_emit.proofs.WroteLaws.{then, last}
use borrow.Author.Rules.{rules}
use Rattle.jit_slots.proofs.alu.emit_be.Goals as goal

pub returns-in-16 : goal.returns-in-16
returns-in-16 c = rw (c.in-16.is, ← c.map_register-dst.ensures.0) (then c.emit_rol16-rotated.ensures (last c.emit_alu_imm32.ensures))
