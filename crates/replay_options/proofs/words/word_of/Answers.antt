use mathlib.Core.Path.{◌∙◌}
use Rattle.replay_options.specs.Words.{word_of}
use Rattle.replay_options.proofs.words.word_of.Goals as goal

pub returns-then-is : goal.returns-then-is
unfolding word_of
returns-then-is c = rw (← c.is.ensures, c.if-is.true)

pub returns-then-is-2 : goal.returns-then-is-2
unfolding word_of
returns-then-is-2 c = rw (← c.is.ensures, c.if-is.false, ← c.is-2.ensures, c.if-is-2.true)

pub returns : goal.returns
unfolding word_of
returns c =
    c.sorted.ensures
    ∙ rw (
      c.word_of.ensures,
      ← c.is.ensures,
      c.if-is.false,
      ← c.is-2.ensures,
      c.if-is-2.false,
    )
