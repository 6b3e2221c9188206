use native.Mathlib.Omega.{arith}
use Rattle.x86_emit.proofs.WroteLaws.{then, last}
use borrow.Author.Rules.{rules}
use Rattle.jit_slots.proofs.alu.emit_shift.Goals as goal

pub returns-in-Reg : goal.returns-in-Reg
returns-in-Reg c =
    let emit-alu = c.emit_alu-counted in
    let map-register2 = c.map_register in
    rw (
      c.in-Reg.is,
      ← c.map_register-dst.ensures.0,
      ← map-register2.ensures.0,
      ←
          c.shift_extension-extension.ensures,
    ) (then emit-alu.ensures (last c.emit_alu_ext.ensures))
