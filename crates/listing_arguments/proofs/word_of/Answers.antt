use borrow.Author.Tests.{eq-eqb, ne_eqb}
use Rattle.listing_arguments.specs.Arguments.{word_of}
use Rattle.listing_arguments.proofs.ArgumentsLaws.{first-none, first_some}
use Rattle.listing_arguments.proofs.word_of.Goals as goal

pub returns-then-is : goal.returns-then-is
unfolding word_of
returns-then-is c = rw (← c.is.ensures, c.if-is.true)

pub returns-then-is-2 : goal.returns-then-is-2
unfolding word_of
returns-then-is-2 c = rw (← c.is.ensures, c.if-is.false, ← c.is-2.ensures, c.if-is-2.true)

pub returns-then-is-3 : goal.returns-then-is-3
unfolding word_of
returns-then-is-3 c =
    rw (
      ← c.is.ensures,
      c.if-is.false,
      ← c.is-2.ensures,
      c.if-is-2.false,
      ← c.is-3.ensures,
      c.if-is-3.true,
    )

pub returns-then-is-4 : goal.returns-then-is-4
unfolding word_of
returns-then-is-4 c =
    rw (
      ← c.is.ensures,
      c.if-is.false,
      ← c.is-2.ensures,
      c.if-is-2.false,
      ← c.is-3.ensures,
      c.if-is-3.false,
      ← c.is-4.ensures,
      c.if-is-4.true,
    )

pub returns-then-is-5 : goal.returns-then-is-5
unfolding word_of
returns-then-is-5 c =
    rw (
      ← c.is.ensures,
      c.if-is.false,
      ← c.is-2.ensures,
      c.if-is-2.false,
      ← c.is-3.ensures,
      c.if-is-3.false,
      ← c.is-4.ensures,
      c.if-is-4.false,
      ← c.is-5.ensures,
      c.if-is-5.true,
    )

pub returns-then-is-6 : goal.returns-then-is-6
unfolding word_of
returns-then-is-6 c =
    rw (
      ← c.is.ensures,
      c.if-is.false,
      ← c.is-2.ensures,
      c.if-is-2.false,
      ← c.is-3.ensures,
      c.if-is-3.false,
      ← c.is-4.ensures,
      c.if-is-4.false,
      ← c.is-5.ensures,
      c.if-is-5.false,
      ← c.is-6.ensures,
      c.if-is-6.true,
    )

pub returns-then-is-7 : goal.returns-then-is-7
unfolding word_of
returns-then-is-7 c =
    rw (
      ← c.is.ensures,
      c.if-is.false,
      ← c.is-2.ensures,
      c.if-is-2.false,
      ← c.is-3.ensures,
      c.if-is-3.false,
      ← c.is-4.ensures,
      c.if-is-4.false,
      ← c.is-5.ensures,
      c.if-is-5.false,
      ← c.is-6.ensures,
      c.if-is-6.false,
      ← c.is-7.ensures,
      c.if-is-7.true,
    )

pub returns-then-word-eq0 : goal.returns-then-word-eq0
unfolding word_of
returns-then-word-eq0 c =
    rw (
      ← c.is.ensures,
      c.if-is.false,
      ← c.is-2.ensures,
      c.if-is-2.false,
      ← c.is-3.ensures,
      c.if-is-3.false,
      ← c.is-4.ensures,
      c.if-is-4.false,
      ← c.is-5.ensures,
      c.if-is-5.false,
      ← c.is-6.ensures,
      c.if-is-6.false,
      ← c.is-7.ensures,
      c.if-is-7.false,
      first-none _ c.if-word-eq0.true,
    )

pub returns-then-word-eq45 : goal.returns-then-word-eq45
unfolding word_of
returns-then-word-eq45 c =
    rw (
      ← c.is.ensures,
      c.if-is.false,
      ← c.is-2.ensures,
      c.if-is-2.false,
      ← c.is-3.ensures,
      c.if-is-3.false,
      ← c.is-4.ensures,
      c.if-is-4.false,
      ← c.is-5.ensures,
      c.if-is-5.false,
      ← c.is-6.ensures,
      c.if-is-6.false,
      ← c.is-7.ensures,
      c.if-is-7.false,
      first_some _ 0 c.if-word-eq0.false,
      eq-eqb _ _ c.if-word-eq45.true,
    )

pub returns : goal.returns
unfolding word_of
returns c =
    rw (
      ← c.is.ensures,
      c.if-is.false,
      ← c.is-2.ensures,
      c.if-is-2.false,
      ← c.is-3.ensures,
      c.if-is-3.false,
      ← c.is-4.ensures,
      c.if-is-4.false,
      ← c.is-5.ensures,
      c.if-is-5.false,
      ← c.is-6.ensures,
      c.if-is-6.false,
      ← c.is-7.ensures,
      c.if-is-7.false,
      first_some _ 0 c.if-word-eq0.false,
      ne_eqb _ _ c.if-word-eq45.false,
    )
