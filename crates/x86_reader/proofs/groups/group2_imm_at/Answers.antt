use lib.ListN.{drop}
use mathlib.Core.Path.{◌∙◌, refl}
use Rattle.x86.specs.Instr.{op, shift_imm}
use Rattle.x86.specs.Decode.{opcode, number, got}
use Rattle.x86_reader.proofs.ByExtension.{group2}
use Rattle.x86_reader.proofs.groups.group2_imm_at.Goals as goal

pub returns-in_err-reg : goal.returns-in_err-reg
unfolding opcode
returns-in_err-reg c = rw (c.registers_at.ensures _ (λ n b v l. refl), c.in_err-reg.was, c.from_residual.ensures)

pub returns-in_err-group2_of : goal.returns-in_err-group2_of
unfolding opcode
returns-in_err-group2_of c =
    rw (c.registers_at.ensures _ (λ n b v l. refl), c.in_ok-reg.was, c.from_residual-in_err-group2_of.ensures)
    (group2 (λ o. number 1 (λ i. got (op (shift_imm o c.args.x.width c.in_ok-reg.d i)))) c.in_ok-reg.reg (drop c.in_ok-reg.next c.args.code.now) c.in_err-group2_of.ensures)

pub returns : goal.returns
unfolding opcode
returns c =
    rw (c.registers_at.ensures _ (λ n b v l. refl), c.in_ok-reg.was)
    (group2 (λ o. number 1 (λ i. got (op (shift_imm o c.args.x.width c.in_ok-reg.d i)))) c.in_ok-reg.reg (drop c.in_ok-reg.next c.args.code.now) c.in_ok-group2_of.ensures ∙ c.shift_imm_at.ensures)
