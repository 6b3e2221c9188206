use borrow.Author.Tests.{lt-ltb, le-ltb}
use Rattle.pcap.specs.Capture.{header_of}
use Rattle.pcap.proofs.header_of.Goals as goal

-- `header_of`: its tests are those of `header_of`, in that order.

pub returns-then-file-lt-HEADER : goal.returns-then-file-lt-HEADER
unfolding header_of
returns-then-file-lt-HEADER c = rw (lt-ltb _ _ c.if-file-lt-HEADER.true)

pub returns-then-is_magic : goal.returns-then-is_magic
unfolding header_of
returns-then-is_magic c = rw (le-ltb _ _ c.if-file-lt-HEADER.false, ← c.number_at.ensures, ← c.is_magic.ensures, c.if-is_magic.true)

pub returns-then-is_magic-2 : goal.returns-then-is_magic-2
unfolding header_of
returns-then-is_magic-2 c =
    rw (
      le-ltb _ _ c.if-file-lt-HEADER.false,
      ← c.number_at.ensures,
      ← c.is_magic.ensures,
      c.if-is_magic.false,
      ← c.number_at-2.ensures,
      ← c.is_magic-2.ensures,
      c.if-is_magic-2.true,
    )

pub returns : goal.returns
unfolding header_of
returns c =
    rw (
      le-ltb _ _ c.if-file-lt-HEADER.false,
      ← c.number_at.ensures,
      ← c.is_magic.ensures,
      c.if-is_magic.false,
      ← c.number_at-2.ensures,
      ← c.is_magic-2.ensures,
      c.if-is_magic-2.false,
    )
