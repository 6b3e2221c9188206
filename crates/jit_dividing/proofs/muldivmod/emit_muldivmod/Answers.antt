use native.Mathlib.Omega.{arith}
use Rattle.jit_dividing.proofs.Pieces.{ahead-sizes, ahead}
use borrow.Author.Rules.{rules}
use Rattle.jit_dividing.proofs.muldivmod.emit_muldivmod.Goals as goal

pub returns : goal.returns
returns c =
    let a = c.args in
    let operation = c.emit_operation.ensures in
    (ahead a.mode a.op a.width a.source a.slot.number a.i c.emit_cleared-ready.ensures operation.0, operation.1)
