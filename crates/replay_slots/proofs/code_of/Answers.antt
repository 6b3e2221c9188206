use Rattle.replay_slots.proofs.CodesLaws.{good}
use borrow.Author.Rules.{rules}
use Rattle.replay_slots.proofs.code_of.Goals as goal

pub returns : goal.returns
returns c =
    let a = c.args in rw (c.code_by.ensures, c.number_of.ensures)
    (good a.more a.i (search rules) (search rules) (search rules))
