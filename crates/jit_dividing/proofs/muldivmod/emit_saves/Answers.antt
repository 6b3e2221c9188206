use Rattle.x86.specs.Registers.{RAX, RDX}
use Rattle.jit.specs.MulDivMod.{saved}
use Rattle.x86.proofs.CodeLaws.{blanks-append, size-append, length-blanks}
use native.Mathlib.Omega.{arith}
use Rattle.x86_emit.proofs.WroteLaws.{then}
use borrow.Author.Rules.{rules}
use Rattle.jit_dividing.proofs.muldivmod.emit_saves.Goals as goal

pub returns : goal.returns
returns c =
    let emit-saved = c.emit_saved-next in
    rw (blanks-append (saved c.args.dst RAX) (saved c.args.dst RDX)) (then emit-saved.ensures c.emit_saved.ensures)
