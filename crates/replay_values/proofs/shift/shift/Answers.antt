use Rattle.replay_values.proofs.ShiftLaws.{fits, word}
use Rattle.replay_values.proofs.shift.shift.Goals as goal

pub overflow_add-result : goal.overflow_add-result
overflow_add-result c =
    let w = c.args.w in
    rw c.fill.ensures (record { fits = word w (fits w c.args.a _ c.count-by.ensures.1 c.requires) })
