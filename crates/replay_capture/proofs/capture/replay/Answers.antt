use Rattle.std.proofs.Common.{◌≡◌, Option, None, length, sym, ◌∙◌, arith, rules}
use Rattle.std.proofs.lemmas.Result.{err_from_is_err_and}
use Rattle.replay.specs.Report.{inputs_of}
use Rattle.replay_capture.proofs.PacketLaws.{is-run, is-refused}
use Rattle.replay_capture.proofs.AnswerLaws.{capture-refused, no_header, with-header, header-there, behind-header}
use Rattle.replay_capture.proofs.capture.replay.Goals as goal

pub slice_bounds-report-count : goal.slice_bounds-report-count
slice_bounds-report-count c =
    header-there c.args.capture.now
    (sym c.header_of.ensures ∙ c.in-Some.is)

pub slice_bounds-report-start : goal.slice_bounds-report-start
slice_bounds-report-start c =
    header-there c.args.capture.now
    (sym c.header_of.ensures ∙ c.in-Some.is)

pub returns-in_err-prepare : goal.returns-in_err-prepare
returns-in_err-prepare c =
    let at = c.args in
    let p = err_from_is_err_and c.from_residual.result c.from_residual.ensures.1 in
    rw (p.1, p.2)
    (capture-refused (inputs_of at.prog.now at.ids.now at.addresses.now at.page (length at.counts.now)) at.capture.now
    at.counts.now (is-refused _ (sym c.in_err-prepare.was ∙ c.prepare.ensures.decided)))

pub returns-in_default : goal.returns-in_default
returns-in_default c =
    let at = c.args in
    no_header (inputs_of at.prog.now at.ids.now at.addresses.now at.page (length at.counts.now)) at.capture.now
    at.counts.now (is-run _
    (sym c.in_ok-prepare.was ∙ c.prepare.ensures.decided))
    (sym c.header_of.ensures ∙ c.in_default.is)

pub returns : goal.returns
returns c =
    let at = c.args in
    with-header (inputs_of at.prog.now at.ids.now at.addresses.now at.page (length at.counts.now)) at.capture.now
    at.counts.now (is-run _
    (sym c.in_ok-prepare.was ∙ c.prepare.ensures.decided))
    (sym c.header_of.ensures ∙ c.in-Some.is)
    (rw (behind-header at.capture.now) at c.report.ensures)
