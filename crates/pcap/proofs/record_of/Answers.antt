use mathlib.Core.Path.{sym, ◌∙◌}
use borrow.Author.Tests.{eqb-true, eqb-false}
use native.Mathlib.Omega.{arith}
use Rattle.pcap.proofs.CaptureLaws.{is-end, is-torn, is-too-long, is_cut, packet}
use Rattle.pcap.proofs.record_of.Goals as goal

-- `record_of`: its tests are those of `record_of`, in that order.

pub returns-then-is_empty : goal.returns-then-is_empty
returns-then-is_empty c = sym (is-end _ _ (eqb-true _ _ (sym c.is_empty.ensures ∙ c.if-is_empty.true)))

pub returns-then-bytes-lt-RECORD : goal.returns-then-bytes-lt-RECORD
returns-then-bytes-lt-RECORD c = sym (is-torn _ _ (omega (arith, eqb-false _ _ (sym c.is_empty.ensures ∙ c.if-is_empty.false))) c.if-bytes-lt-RECORD.true)

pub returns-then-captured-gt-LONGEST_PACKET : goal.returns-then-captured-gt-LONGEST_PACKET
returns-then-captured-gt-LONGEST_PACKET c = sym (is-too-long _ _ c.if-bytes-lt-RECORD.false (omega (arith, c.number_at-captured.ensures, c.if-captured-gt-LONGEST_PACKET.true)))

pub returns-then-bytes-captured : goal.returns-then-bytes-captured
returns-then-bytes-captured c =
    sym
    (is_cut _ _ c.if-bytes-lt-RECORD.false (omega (arith, c.number_at-captured.ensures, c.if-captured-gt-LONGEST_PACKET.false))
    (omega (arith, c.number_at-captured.ensures, c.if-bytes-captured.true)))

pub returns : goal.returns
returns c = sym (packet _ _ (record { said = sym c.number_at-captured.ensures; small = omega (arith, c.if-captured-gt-LONGEST_PACKET.false); there = omega (arith, c.if-bytes-captured.false) }))
