use lib.ListN.{drop}
use mathlib.Core.Path.{refl}
use Rattle.base.proofs.Tests.{eqb-true, eqb-false}
use Rattle.x86.specs.Instr.{op, unary}
use Rattle.x86.specs.Decode.{opcode, got}
use Rattle.x86_reader.proofs.ByExtension.{group3}
use Rattle.x86_reader.proofs.groups.group3_at.Goals as goal

pub returns-in_err-reg : goal.returns-in_err-reg
unfolding opcode
returns-in_err-reg c = rw (c.registers_at.ensures _ (λ n b v l. refl), c.in_err-reg.was, c.from_residual.ensures)

pub returns-then-reg-eq0 : goal.returns-then-reg-eq0
unfolding opcode
returns-then-reg-eq0 c = rw (c.registers_at.ensures _ (λ n b v l. refl), c.in_ok-reg.was, eqb-true _ _ c.if-reg-eq0.true) c.alu_imm_at.ensures

pub returns-in_err-group3_of : goal.returns-in_err-group3_of
unfolding opcode
returns-in_err-group3_of c =
    rw (c.registers_at.ensures _ (λ n b v l. refl), c.in_ok-reg.was, eqb-false _ _ c.if-reg-eq0.false, c.from_residual-in_err-group3_of.ensures)
    (group3 (λ o. got (op (unary o c.args.x.width c.in_ok-reg.d))) c.in_ok-reg.reg (drop c.in_ok-reg.next c.args.code.now) c.in_err-group3_of.ensures)

pub returns : goal.returns
unfolding opcode
returns c =
    rw (c.registers_at.ensures _ (λ n b v l. refl), c.in_ok-reg.was, eqb-false _ _ c.if-reg-eq0.false)
    (group3 (λ o. got (op (unary o c.args.x.width c.in_ok-reg.d))) c.in_ok-reg.reg (drop c.in_ok-reg.next c.args.code.now) c.in_ok-group3_of.ensures)
