use mathlib.Core.List.{◌++◌}
use Rattle.jit_recording.proofs.EmitsLaws.{jumped}
use Rattle.base.specs.declared.Width.TheVariants.{W32}
use Rattle.x86.specs.Instr.{op, alu, jump, jmp, jcc, XOR, JNE}
use Prim.Native.Nat.{◌+◌}
use mathlib.Core.List.{[], ◌∷◌}
use Rattle.jit.specs.MulDivMod.{tested, div_by_zero}
use Rattle.x86.specs.Code.{near, to, size}
use Rattle.x86.proofs.CodeLaws.{blanks-append, length-blanks}
use mathlib.Core.Path.{◌∙◌, refl}
use native.Mathlib.Omega.{arith}
use Rattle.x86_emit.proofs.WroteLaws.{then, last}
use borrow.Author.Rules.{rules}
use Rattle.jit_dividing.proofs.muldivmod.emit_div_guard.Goals as goal

pub returns : goal.returns
returns c =
    let recorded = c.record_jump.ensures in (
      jumped ((tested c.args.mode c.args.slot.number c.args.width c.args.src) ++
          (jump (jcc JNE) (near (size (div_by_zero c.args.slot.number c.args.dst))) ∷ op (alu XOR W32 c.args.dst c.args.dst) ∷
          [])) jmp refl (rw (
            blanks-append (tested c.args.mode c.args.slot.number c.args.width c.args.src)
                (jump (jcc JNE) (near (size (div_by_zero c.args.slot.number c.args.dst))) ∷ op (alu XOR W32 c.args.dst c.args.dst)
                ∷ jump jmp (to (c.args.slot.number + 1)) ∷ []),
            ← c.skip_of.ensures,
          )
          (then c.emit_tested-checked.ensures
          (then c.emit_jcc-branched.ensures (then c.emit_alu-cleared.ensures (last c.emit_jmp-next.ensures))))) recorded.0,
      recorded.1,
    )
