use Rattle.jit.specs.MulDivMod.{restores, operate}
use Rattle.x86.proofs.CodeLaws.{blanks-append, size-append, length-blanks}
use native.Mathlib.Omega.{arith}
use Rattle.x86_emit.proofs.WroteLaws.{then}
use borrow.Author.Rules.{rules}
use Rattle.jit_dividing.proofs.muldivmod.emit_operated.Goals as goal

pub returns : goal.returns
returns c =
    let emit-operate = c.emit_operate-done in
    rw (blanks-append (operate c.args.op c.args.width) (restores c.args.op c.args.dst))
    (then c.emit_alu-ready.ensures (then emit-operate.ensures c.emit_restores.ensures))
