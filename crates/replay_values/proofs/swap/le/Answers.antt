use Rattle.ebpf_meaning.specs.Values.{le_value}
use Rattle.std.proofs.Common.{rules}
use Rattle.replay_values.proofs.SwapLaws.{unit, whole}
use Rattle.replay_values.proofs.swap.le.Goals as goal

pub returns-then-width-lt64 : goal.returns-then-width-lt64
unfolding le_value
returns-then-width-lt64 c = rw (unit c.args.width c.if-width-lt64.true)

pub returns : goal.returns
unfolding le_value
returns c = whole c.args.width c.args.a c.if-width-lt64.false (search rules)
