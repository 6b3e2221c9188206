use Rattle.jit_slots.specs.JumpParts.{call_saves, call_restores}
use Rattle.x86.specs.Code.{to}
use Rattle.x86.proofs.CodeLaws.{blanks-append, length-blanks}
use Rattle.x86.specs.Instr.{call, jump}
use mathlib.Core.List.{[], ◌∷◌, ◌++◌}
use Rattle.jit_recording.proofs.EmitsLaws.{jumped, plainly, emits_then}
use mathlib.Core.Path.{refl}
use native.Mathlib.Omega.{arith}
use Rattle.x86_emit.proofs.WroteLaws.{then, last}
use borrow.Author.Rules.{rules}
use Rattle.jit_slots.proofs.jump.emit_local_call.Goals as goal

pub returns : goal.returns
returns c =
    let recorded = c.record_jump.ensures in (
      emits_then (call_saves ++ (jump call (to c.args.target) ∷ [])) call_restores
          (jumped call_saves call refl (rw (blanks-append call_saves (jump call (to c.args.target) ∷ []))
          (then c.emit_saved_registers-saved.ensures (last c.emit_call-called.ensures))) recorded.0)
          (plainly call_restores refl c.emit_restored_registers.ensures),
      recorded.1,
    )
