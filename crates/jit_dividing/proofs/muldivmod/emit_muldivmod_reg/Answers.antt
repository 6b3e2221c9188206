use Rattle.jit_dividing.proofs.Pieces.{sizes, pieces}
use native.Mathlib.Omega.{arith}
use borrow.Author.Rules.{rules}
use Rattle.jit_dividing.proofs.muldivmod.emit_muldivmod_reg.Goals as goal

pub returns : goal.returns
returns c =
    let guarded = c.emit_guard-guarded.ensures in
    let a = c.args in (
      pieces a.mode a.op a.slot.number a.width a.src a.dst
          guarded.0 c.emit_saves-saved.ensures c.emit_alu-loaded.ensures c.emit_operated.ensures,
      guarded.1,
    )
