use mathlib.Core.Path.{refl}
use Rattle.base.proofs.Tests.{eqb-true, eqb-false}
use Rattle.x86.specs.Decode.{opcode}
use Rattle.x86_reader.proofs.groups.group5_at.Goals as goal

pub returns-in_err-reg : goal.returns-in_err-reg
unfolding opcode
returns-in_err-reg c = rw (c.registers_at.ensures _ (λ n b v l. refl), c.in_err-reg.was, c.from_residual.ensures)

pub returns-then-reg-eq2 : goal.returns-then-reg-eq2
unfolding opcode
returns-then-reg-eq2 c = rw (c.registers_at.ensures _ (λ n b v l. refl), c.in_ok-reg.was, eqb-true _ _ c.if-reg-eq2.true)

pub returns : goal.returns
unfolding opcode
returns c = rw (c.registers_at.ensures _ (λ n b v l. refl), c.in_ok-reg.was, eqb-false _ _ c.if-reg-eq2.false)
