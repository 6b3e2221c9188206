use Rattle.std.proofs.Common.{◌≡◌, ◌-◌, length, refl, ◌∙◌, arith, rules, ⊎_elim}
use Rattle.pcap.specs.declared.Record.{Record}
use Rattle.pcap.proofs.CaptureLaws.{bounds, Stops}
use Rattle.replay_capture.proofs.SoFarLaws.{SoFar, starts, there, has_room, goes_on, ends, stands}
use Rattle.replay_capture.proofs.window.run_records.Goals as goal

pub loop-n-init : goal.loop-n-init
loop-n-init c = (
  starts _ _ _ _ (record {
    packets-fit = search rules;
    kept-fit = search rules;
    dropped-fit = search rules;
    step-limit-fit = search rules;
    access-fit = search rules;
    no-slot-fit = search rules;
  }),
  (refl, (refl, refl)),
)

pub run_record-progress-requires : goal.run_record-progress-requires
run_record-progress-requires c =
    let at = c.args in
    let on = c.loop-n in
    let pre = c.requires in
    let e = stands at.order at.window.now c.loop-n.progress.used
    c.record_of.ensures c.in-Packet.is in
    let inside = there at.prog.now at.order at.window.now _
    c.loop-n.progress
    c.loop-n.counts
    c.loop-n.copy
    c.loop-n.kept
    c.loop-n.invariant.0 _ e in
    record {
      prepared =
          record {
            coded = pre.0.coded;
            codes_for = pre.0.codes_for;
            counts_for = omega (arith, pre.0.counts_for, on.invariant.1.0);
          };
      inside = inside;
      short = (bounds at.order _ e).0;
      copies = omega (arith, pre.1, on.invariant.1.1.0);
      room = λ h. has_room at.prog.now at.order at.window.now _
          c.loop-n.progress
          c.loop-n.counts
          c.loop-n.copy
          c.loop-n.kept
          c.loop-n.invariant.0 _ inside h on.invariant.1.1.1;
    }

pub loop-n-smaller : goal.loop-n-smaller
loop-n-smaller c =
    let at = c.args in
    let g = c.run_record-progress.ensures in
    let e = stands at.order at.window.now
    c.loop-n.progress.used
    c.record_of.ensures
    c.in-Packet.is in
    omega (
      arith,
      g.used_is,
      there at.prog.now at.order at.window.now _
          c.loop-n.progress
          c.loop-n.counts
          c.loop-n.copy
          c.loop-n.kept
          c.loop-n.invariant.0 _ e,
    )

pub loop-n-preserved : goal.loop-n-preserved
loop-n-preserved c =
    let at = c.args in
    let on = c.loop-n in
    let run = c.run_record-progress in
    let e = stands at.order at.window.now
    c.loop-n.progress.used
    c.record_of.ensures
    c.in-Packet.is in (
      goes_on at.prog.now at.order at.window.now _
          c.loop-n.progress
          c.loop-n.counts
          c.loop-n.copy
          c.loop-n.kept
          c.loop-n.invariant.0 _ e
          on.invariant.1.1.1 run.ensures,
      (
        run.auto.counts ∙ on.invariant.1.0,
        (run.auto.copy ∙ on.invariant.1.1.0, run.auto.kept ∙ on.invariant.1.1.1),
      ),
    )

pub returns-in-End : goal.returns-in-End
returns-in-End c =
    let on = c.loop-n in
    let at = c.args in
    let stop = λ (q : Record) (e : c.record_of.result ≡ q) (h : Stops q).
    ends at.prog.now at.order at.window.now _ on.progress on.counts on.copy on.kept on.invariant.0 q
    (stands at.order at.window.now on.progress.used c.record_of.ensures e) h in
    ⊎_elim (λ e. stop _ e tt) (⊎_elim (λ e. stop _ e tt) (λ e. stop _ e tt)) c.in-End.is
