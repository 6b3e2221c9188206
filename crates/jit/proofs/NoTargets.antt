-- Slots that list no jump: arithmetic, shifts and moves, by either source.
use mathlib.Core.Path.{◌≡◌, refl}
use mathlib.Core.List.{[]}
use Rattle.base.specs.declared.Width.{Width}
use Rattle.ebpf.specs.declared.insn.Insn.{Insn}
use Rattle.ebpf.specs.declared.kind.Source.{Source}
use Rattle.ebpf.specs.declared.kind.Source.TheVariants.{Imm, Reg}
use Rattle.ebpf.specs.declared.kind.AluOp.{AluOp}
use Rattle.ebpf.specs.declared.kind.ShiftOp.{ShiftOp}
use Rattle.x86.specs.Code.{targets_of}
use Rattle.jit.specs.declared.Mode.{Mode}
use Rattle.jit.specs.Slots.{alu_code, shift_code, mov_code}

pub alu-none : (o : AluOp) (w : Width) (s : Source) (i : Insn) → targets_of (alu_code o w s i) ≡ []
alu-none o w Imm i = refl
alu-none o w Reg i = refl

pub shift_none : (o : ShiftOp) (w : Width) (s : Source) (i : Insn) → targets_of (shift_code o w s i) ≡ []
shift_none o w Imm i = refl
shift_none o w Reg i = refl

pub mov-none : (m : Mode) (w : Width) (s : Source) (i : Insn) → targets_of (mov_code m w s i) ≡ []
mov-none m w Imm i = refl
mov-none m w Reg i = refl
