use Rattle.x86.specs.Registers.{RCX}
use Rattle.base.specs.declared.Width.TheVariants.{W64}
use Rattle.x86.specs.Instr.{op, alu_imm, MOV}
use mathlib.Core.List.{◌∷◌}
use Rattle.jit.specs.Constants.{loaded}
use Rattle.jit.specs.MulDivMod.{saves, operated}
use Rattle.x86.proofs.CodeLaws.{blanks-append, size-append, length-blanks}
use borrow.Author.Tests.{eq-eqb, ne_eqb}
use native.Mathlib.Omega.{arith}
use Rattle.x86_emit.proofs.WroteLaws.{then}
use borrow.Author.Rules.{rules}
use Rattle.jit_dividing.proofs.muldivmod.emit_muldivmod_imm.Goals as goal

pub returns : goal.returns
returns c =
    let emit-load-signed = c.emit_load_signed-loaded in
    rw (
      ne_eqb _ _ c.if-imm-eq0.false,
      blanks-append (saves c.args.dst)
          (op (loaded c.args.mode (alu_imm MOV W64 RCX c.args.imm)) ∷ operated c.args.op c.args.width c.args.dst),
    )
    (then c.emit_saves-saved.ensures (then emit-load-signed.ensures c.emit_operated.ensures))
