use Rattle.jit_dividing.proofs.Skips.{skip-low, skip-high}
use Rattle.jit_dividing.proofs.muldivmod.skip_of.Goals as goal

pub returns-then-dst-lt8 : goal.returns-then-dst-lt8
returns-then-dst-lt8 c = skip-low c.args.slot.number _ c.if-dst-lt8.true

pub returns-else-dst-lt8 : goal.returns-else-dst-lt8
returns-else-dst-lt8 c = skip-high c.args.slot.number _ c.if-dst-lt8.false
