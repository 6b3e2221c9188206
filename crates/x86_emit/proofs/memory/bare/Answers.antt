use Rattle.std.proofs.Common.{eq-eqb, ne_eqb}
use Rattle.x86.specs.Encode.{bare}
use Rattle.x86_emit.proofs.memory.bare.Goals as goal

pub returns-then-disp-eq0 : goal.returns-then-disp-eq0
unfolding bare
returns-then-disp-eq0 c = simp (eq-eqb _ _ c.if-disp-eq0.true)

pub returns-else-disp-eq0 : goal.returns-else-disp-eq0
unfolding bare
returns-else-disp-eq0 c = simp (ne_eqb _ _ c.if-disp-eq0.false)
