use Rattle.x86.specs.Registers.{RAX, RDX}
use mathlib.Core.Bool.{not}
use Rattle.jit.specs.MulDivMod.{restored}
use Rattle.x86.proofs.CodeLaws.{blanks-append, size-append, length-blanks}
use native.Mathlib.Omega.{arith}
use Rattle.x86_emit.proofs.WroteLaws.{then}
use borrow.Author.Rules.{rules}
use Rattle.jit_dividing.proofs.muldivmod.emit_restores.Goals as goal

pub returns : goal.returns
returns c =
    let emit-restored = c.emit_restored-next in
    let from-rax = c.from_rax-result in
    rw (← from-rax.ensures, blanks-append (restored c.args.dst RDX (not from-rax.result)) (restored c.args.dst RAX from-rax.result))
    (then emit-restored.ensures c.emit_restored.ensures)
