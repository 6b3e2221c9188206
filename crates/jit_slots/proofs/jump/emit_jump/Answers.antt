use Rattle.jit.specs.Slots.{compare, cond_of}
use Rattle.ebpf.specs.Kinds.{condition_of}
use Rattle.x86.specs.Instr.{op, jcc}
use mathlib.Core.List.{[], ◌∷◌}
use Rattle.jit_recording.proofs.EmitsLaws.{jumped}
use mathlib.Core.Path.{refl}
use Rattle.x86_emit.proofs.WroteLaws.{then, last}
use borrow.Author.Rules.{rules}
use Rattle.jit_slots.proofs.jump.emit_jump.Goals as goal

pub returns : goal.returns
returns c =
    let recorded = c.record_jump.ensures in
    let condition = condition_of c.args.i.opc in (
      rw (← c.target_of-target.ensures) (jumped (op (compare condition c.args.width c.args.source c.args.i) ∷ [])
          (jcc (cond_of condition)) refl
          (rw (← c.condition_byte.ensures) (then c.emit_compare-compared.ensures (last c.emit_jcc-next.ensures)))
          recorded.0),
      recorded.1,
    )
