use Rattle.base.specs.Widths.{bits}
use Rattle.replay_values.proofs.ShiftLaws.{is_negative, taken}
use Rattle.replay_values.proofs.shift.fill.Goals as goal

pub returns : goal.returns
returns c =
    let w = c.args.w in
    rw (is_negative w c.args.a (rw c.half.ensures at c.if-a-half.false), c.ones-all.ensures)
    (taken (bits w) c.args.by c.requires)
