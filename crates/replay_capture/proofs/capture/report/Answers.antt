use Rattle.std.proofs.Common.{◌≡◌, rules}
use Rattle.replay_capture.specs.Captured.{nothing}
use Rattle.replay_capture.proofs.AnswerLaws.{all_read}
use Rattle.replay_capture.proofs.capture.report.Goals as goal

pub returns-then-progress-records : goal.returns-then-progress-records
returns-then-progress-records c =
    let from : c.default-none.result ≡ nothing = search rules in
    all_read _ _ _ _ _ _ _ from c.run_records-progress.ensures c.if-progress-records.true
