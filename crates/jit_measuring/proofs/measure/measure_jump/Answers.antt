use Rattle.jit_measuring.proofs.Listed.{jump-lists}
use Rattle.jit_measuring.proofs.LooksLaws.{finds-jump}
use Rattle.jit_lengths.proofs.LengthsLaws.{jump-size}
use Rattle.jit.specs.Slots.{test_of, target_of}
use Rattle.ebpf.specs.declared.kind.Kind.TheVariants.{Jump}
use Rattle.ebpf.specs.Kinds.{condition_of}
use native.Mathlib.Omega.{arith}
use mathlib.Core.Path.{refl}
use Rattle.jit_measuring.proofs.measure.measure_jump.Goals as goal

pub returns : goal.returns
returns c =
    let args = c.args in
    let width = c.width_of in
    let source = c.source_of in
    let length = c.operands_length-size.ensures in
    let op = condition_of args.i.opc in
    let slot = args.slot.number in
    let jump = jump-size op width.result source.result slot args.i in
    let lists = jump-lists op width.result source.result slot args.i in
    λ m. rw (← width.ensures, ← source.ensures, c.jumps.ensures, c.target_of.ensures) (
      finds-jump m (Jump op width.result source.result) args.n slot args.i 0 (target_of slot args.i.off)
          (omega (arith, length.0 (test_of op), jump)) refl lists,
      omega (arith, length.1),
    )
