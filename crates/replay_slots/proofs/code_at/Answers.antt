use Rattle.replay_slots.proofs.CodesLaws.{first, second}
use mathlib.Core.Path.{sym, ◌∙◌}
use Rattle.replay_slots.proofs.code_at.Goals as goal

pub returns-then-second : goal.returns-then-second
returns-then-second c = second _ _ (sym c.requires.1 ∙ c.if-second.true)

pub returns : goal.returns
returns c =
    rw (c.code_of.ensures, c.insn_at.ensures)
    (first _ _ c.requires.0 (sym c.requires.1 ∙ c.if-second.false))
