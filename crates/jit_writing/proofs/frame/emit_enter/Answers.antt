use Rattle.x86.specs.Registers.{RSP, RBP}
use Rattle.base.specs.declared.Width.TheVariants.{W64}
use Rattle.x86.specs.Code.{near}
use Rattle.x86.specs.Instr.{op, alu, alu_imm, jump, jmp, call, MOV, SUB}
use mathlib.Core.List.{[], ◌∷◌}
use Rattle.jit_recording.proofs.EmitsLaws.{jumped}
use Rattle.jit.specs.Frame.{enter}
use Rattle.x86.specs.Encode.{rex, modrm, memory, bare, short}
use mathlib.Core.Path.{◌∙◌, refl}
use native.Mathlib.Omega.{arith}
use Rattle.x86_emit.proofs.WroteLaws.{then, last}
use borrow.Author.Rules.{rules}
use Rattle.jit_writing.proofs.frame.emit_enter.Goals as goal

pub emit_alu_imm32-stacked-requires : goal.emit_alu_imm32-stacked-requires
unfolding rex modrm memory bare short enter
emit_alu_imm32-stacked-requires c =
    let pre = c.requires in
    (omega (arith, pre.0.page, c.emit_alu-based.ensures.next), search rules)

pub emit_call-called-requires : goal.emit_call-called-requires
unfolding rex modrm memory bare short enter
emit_call-called-requires c =
    let pre = c.requires in
    let emit-alu = c.emit_alu-based.ensures in
    omega (arith, pre.0.page, emit-alu.next, c.emit_alu_imm32-stacked.ensures.next)

pub emit_jmp-jumped-requires : goal.emit_jmp-jumped-requires
unfolding rex modrm memory bare short enter
emit_jmp-jumped-requires c =
    let pre = c.requires in
    let emit-alu = c.emit_alu-based.ensures in
    let emit-alu-imm = c.emit_alu_imm32-stacked.ensures in
    omega (arith, pre.0.page, emit-alu.next, emit-alu-imm.next, c.emit_call-called.ensures.next)

pub returns : goal.returns
unfolding enter
returns c =
    let emit-alu = c.emit_alu-based.ensures in
    let emit-alu-imm = c.emit_alu_imm32-stacked.ensures in
    let emit-call = c.emit_call-called.ensures in
    let emit-jmp = c.emit_jmp-jumped.ensures in
    let recorded = c.record_jump.ensures in (
      jumped (op (alu MOV W64 RSP RBP) ∷ op (alu_imm SUB W64 RSP 512) ∷ jump call (near 5) ∷ []) jmp refl
          (then emit-alu (then emit-alu-imm (then emit-call (last emit-jmp)))) recorded.0,
      recorded.1,
    )
