use Rattle.std.proofs.Common.{length, sym, ◌∙◌, rules}
use Rattle.std.proofs.lemmas.Result.{err_from_is_err_and}
use borrow.Author.Tests.{not-false}
use Rattle.replay.specs.Report.{inputs_of}
use Rattle.replay_capture.proofs.PacketLaws.{is-run, is-refused, refuses, too_long}
use Rattle.replay_capture.proofs.packet.replay_packet.Goals as goal

pub returns-in_err-prepare : goal.returns-in_err-prepare
returns-in_err-prepare c =
    let at = c.args in
    let p = err_from_is_err_and c.from_residual.result c.from_residual.ensures.1 in
    rw (p.1, p.2)
    (refuses (inputs_of at.prog.now at.ids.now at.addresses.now at.page (length at.counts.now)) at.packet.now at.copy.now
    at.counts.now (is-refused _ (sym c.in_err-prepare.was ∙ c.prepare.ensures.decided)))

pub returns-then-not-is_good : goal.returns-then-not-is_good
returns-then-not-is_good c =
    let at = c.args in
    too_long (inputs_of at.prog.now at.ids.now at.addresses.now at.page (length at.counts.now)) at.packet.now at.copy.now
    at.counts.now
    (is-run _ (sym c.in_ok-prepare.was ∙ c.prepare.ensures.decided))
    (not-false _ (sym c.is_good.ensures ∙ c.if-not-is_good.true))
