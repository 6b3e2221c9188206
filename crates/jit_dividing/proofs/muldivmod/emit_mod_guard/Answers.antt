use Rattle.jit_recording.proofs.EmitsLaws.{jumped}
use Rattle.x86.specs.Instr.{jump, jcc, JE}
use Prim.Native.Nat.{◌+◌}
use mathlib.Core.List.{[], ◌∷◌}
use Rattle.jit.specs.MulDivMod.{tested}
use Rattle.x86.specs.Code.{to}
use Rattle.x86.proofs.CodeLaws.{blanks-append, length-blanks}
use mathlib.Core.Path.{refl}
use native.Mathlib.Omega.{arith}
use Rattle.x86_emit.proofs.WroteLaws.{then, last}
use borrow.Author.Rules.{rules}
use Rattle.jit_dividing.proofs.muldivmod.emit_mod_guard.Goals as goal

pub returns : goal.returns
returns c =
    let recorded = c.record_jump.ensures in (
      jumped (tested c.args.mode c.args.slot.number c.args.width c.args.src) (jcc JE) refl
          (rw (blanks-append (tested c.args.mode c.args.slot.number c.args.width c.args.src)
          (jump (jcc JE) (to (c.args.slot.number + 1)) ∷ [])) (then c.emit_tested-checked.ensures (last c.emit_jcc-next.ensures)))
          recorded.0,
      recorded.1,
    )
