use borrow.Author.Tests.{le-leb, lt-leb}
use Rattle.cases_bytes.specs.Answers.{room_for}
use Rattle.cases_bytes.proofs.answer.is_room.Goals as goal

pub returns-then-out-lt-ANSWER : goal.returns-then-out-lt-ANSWER
unfolding room_for
returns-then-out-lt-ANSWER c = rw (lt-leb _ _ c.if-out-lt-ANSWER.true)

pub returns-then-of-gt-PAGE : goal.returns-then-of-gt-PAGE
unfolding room_for
returns-then-of-gt-PAGE c = rw (le-leb _ _ c.if-out-lt-ANSWER.false, lt-leb _ _ c.if-of-gt-PAGE.true)

pub returns-then-of-gt-TABLE : goal.returns-then-of-gt-TABLE
unfolding room_for
returns-then-of-gt-TABLE c =
    rw (
      le-leb _ _ c.if-out-lt-ANSWER.false,
      le-leb _ _ c.if-of-gt-PAGE.false,
      lt-leb _ _ c.if-of-gt-TABLE.true,
    )

pub returns-then-of-gt-TABLE-2 : goal.returns-then-of-gt-TABLE-2
unfolding room_for
returns-then-of-gt-TABLE-2 c =
    rw (
      le-leb _ _ c.if-out-lt-ANSWER.false,
      le-leb _ _ c.if-of-gt-PAGE.false,
      le-leb _ _ c.if-of-gt-TABLE.false,
      lt-leb _ _ c.if-of-gt-TABLE-2.true,
    )

pub returns-then-of-gt-TABLE-3 : goal.returns-then-of-gt-TABLE-3
unfolding room_for
returns-then-of-gt-TABLE-3 c =
    rw (
      le-leb _ _ c.if-out-lt-ANSWER.false,
      le-leb _ _ c.if-of-gt-PAGE.false,
      le-leb _ _ c.if-of-gt-TABLE.false,
      le-leb _ _ c.if-of-gt-TABLE-2.false,
      lt-leb _ _ c.if-of-gt-TABLE-3.true,
    )

pub returns-then-of-gt-TABLE-4 : goal.returns-then-of-gt-TABLE-4
unfolding room_for
returns-then-of-gt-TABLE-4 c =
    rw (
      le-leb _ _ c.if-out-lt-ANSWER.false,
      le-leb _ _ c.if-of-gt-PAGE.false,
      le-leb _ _ c.if-of-gt-TABLE.false,
      le-leb _ _ c.if-of-gt-TABLE-2.false,
      le-leb _ _ c.if-of-gt-TABLE-3.false,
      lt-leb _ _ c.if-of-gt-TABLE-4.true,
    )

pub returns : goal.returns
unfolding room_for
returns c =
    rw (
      le-leb _ _ c.if-out-lt-ANSWER.false,
      le-leb _ _ c.if-of-gt-PAGE.false,
      le-leb _ _ c.if-of-gt-TABLE.false,
      le-leb _ _ c.if-of-gt-TABLE-2.false,
      le-leb _ _ c.if-of-gt-TABLE-3.false,
      le-leb _ _ c.if-of-gt-TABLE-4.false,
    )
