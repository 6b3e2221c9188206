-- A window so far: what holds between two records, how one more keeps it, and that it comes to the contract where there is none.
use Rattle.std.proofs.Common.{◌≡◌, ℕ, ◌+◌, ◌-◌, ◌^◌, ◌<◌, ◌≤◌, Bool, true, false, leb, List, [], ◌∷◌, ◌++◌, length, take, drop}
use Rattle.std.proofs.Common.{sym, refl, ap, ◌∙◌, append-nil, arith, length-append, length-drop, length-take, length-take-le, take_all, leb-true}
use Rattle.base.specs.Lists.{over}
use Rattle.base.specs.Pick.{pick}
use Rattle.pcap.specs.declared.Order.{Order}
use Rattle.pcap.specs.declared.Record.{Record}
use Rattle.pcap.specs.declared.Record.TheVariants.{Packet}
use Rattle.pcap.specs.Capture.{Records, record_of, records_of, record_size, longest_packet}
use Rattle.pcap.proofs.CaptureLaws.{Stops, bounds}
use Rattle.pcap.proofs.WindowLaws as WindowLaws
use Rattle.pcap.proofs.WindowLaws.{Taken, start-at, taken_at, done_at, there-at}
use Rattle.replay.specs.declared.Totals.{Totals}
use Rattle.replay.specs.Run.{Run, run_of}
use Rattle.replay.specs.Report.{is_kept, runs_of, report_of, slots_run, tallied, added, plus}
use Rattle.replay.proofs.ReportLaws.{added-packet, tallied-packet, added-append, tallied-runs, alone}
use Rattle.replay_capture.specs.declared.Progress.{Progress}
use Rattle.replay_capture.specs.Counted.{totals_of, one}
use Rattle.replay_capture.specs.Windowed.{kept_in, kept_of, copied, Lent, SameEnd, Windowed}
use Rattle.replay_capture.specs.Going.{packet_at, piece, wants, put_behind, KeptRecord, Gone}
use Rattle.replay_capture.proofs.CountedLaws.{Words, added-run}
use Rattle.replay_capture.proofs.KeptLaws.{span, span_more, kept_more, kept-short, over-more, over_none, copied_more}

-- what is kept of the packets that are done
abbrev pub kept_so : (program window : List ℕ) → (done : List (List ℕ)) → (room : ℕ) → List ℕ
kept_so program window done room = pick (leb (length window) room) (kept_in program window done) []

pub record SoFar (program : List ℕ) (order : Order) (window : List ℕ) (before : Lent) (progress : Progress) (counts copy kept : List ℕ) : Type 0 where
  pub done : List (List ℕ)
  pub taken : Taken order window done progress.used
  pub inside : progress.used ≤ length window
  pub spans : progress.used ≡ span done
  pub totals_are : progress.totals ≡ added before.totals (report_of (runs_of program done))
  pub counts_are : counts ≡ tallied (slots_run (runs_of program done)) before.counts
  pub copy_is : copy ≡ copied (runs_of program done) before.copy
  pub kept_is : kept ≡ over (kept_so program window done (length before.kept)) before.kept
  pub kept_length : progress.kept ≡ length (kept_so program window done (length before.kept))

-- nothing added
same-totals : (t : Totals) → Words t → t ≡ added t (report_of [])
same-totals t w =
    let p : t.packets ≡ plus t.packets 0 = omega (arith, w.packets-fit) in
    let k : t.kept ≡ plus t.kept 0 = omega (arith, w.kept-fit) in
    let d : t.dropped ≡ plus t.dropped 0 = omega (arith, w.dropped-fit) in
    let s : t.step_limit ≡ plus t.step_limit 0 = omega (arith, w.step-limit-fit) in
    let a : t.access ≡ plus t.access 0 = omega (arith, w.access-fit) in
    let n : t.no_slot ≡ plus t.no_slot 0 = omega (arith, w.no-slot-fit) in
    rw (← p, ← k, ← d, ← s, ← a, ← n)

-- one record more, kept or not
pub record KeptOn (ys l kept' : List ℕ) (r : ℕ) : Type 0 where
  pub kept_is : kept' ≡ over ys l
  pub length_is : r ≡ length ys

kept_step : (t k : Bool) (ys rec l : List ℕ) {kept kept' : List ℕ} {before r : ℕ} → kept ≡ over (pick t ys []) l → before ≡ length (pick t ys [])
    → r ≡ pick (pick k t false) (before + length rec) before → kept' ≡ pick (pick k t false) (put_behind kept before rec) kept
    → KeptOn (pick t (ys ++ pick k rec []) []) l kept' r
kept_step true true ys rec l e b q g =
    record { kept_is = g ∙ rw (e, b) (over-more ys rec l); length_is = rw (q, b, length-append ys rec) }
kept_step true false ys rec l e b q g = record { kept_is = g ∙ (e ∙ over_none ys l); length_is = rw (q, b, append-nil ys) }
kept_step false true ys rec l e b q g = record { kept_is = g ∙ e; length_is = q ∙ b }
kept_step false false ys rec l e b q g = record { kept_is = g ∙ e; length_is = q ∙ b }

module _ (program : List ℕ) (order : Order) (window : List ℕ) (before : Lent) where
  nothing-kept : (t : Bool) → ◌≡◌ {A = List ℕ} (pick t [] []) []
  nothing-kept true = refl
  nothing-kept false = refl

  pub starts : Words before.totals
      → SoFar program order window before (record { used = 0; kept = 0; totals = before.totals }) before.counts before.copy before.kept
  unfolding tallied
  starts w =
      record {
        done = [];
        taken = start-at order window;
        inside = omega arith;
        spans = refl;
        totals_are = same-totals before.totals w;
        counts_are = refl;
        copy_is = refl;
        kept_is = rw (nothing-kept (leb (length window) (length before.kept)));
        kept_length = rw (nothing-kept (leb (length window) (length before.kept)));
      }

  module _ (progress : Progress) (counts copy kept : List ℕ) (so : SoFar program order window before progress counts copy kept) where
    -- there is room for what is still to be kept
    pub has_room : (n : ℕ) → progress.used + record_size + n ≤ length window → length window ≤ length kept → length kept ≡ length before.kept
        → progress.kept + (record_size + n) ≤ length kept
    has_room n h g e =
        let k = kept-short program window so.done in
        by (leb (length window) (length before.kept)) so.kept_length k
      where
        by : (t : Bool) → progress.kept ≡ length (pick t (kept_in program window so.done) [])
            → length (kept_in program window so.done) ≤ span so.done → progress.kept + (record_size + n) ≤ length kept
        by true q k = omega (arith, q, k, so.spans, h, g)
        by false q k = omega (arith, q, h, g)

    module _ (n : ℕ) (e : record_of order (drop progress.used window) ≡ Packet n) where
      pub there : progress.used + record_size + n ≤ length window
      there = there-at order window progress.used e

      packet-length : length (packet_at window progress.used n) ≡ n
      packet-length =
          length-take-le n (drop (progress.used + record_size) window)
          (omega (arith, length-drop (progress.used + record_size) window, there))

      -- the record's bytes, by the packets before it
      record-bytes : piece window progress.used (progress.used + record_size + n)
          ≡ take (record_size + length (packet_at window progress.used n)) (drop (span so.done) window)
      record-bytes =
          let k : progress.used + record_size + n - progress.used ≡ record_size + length (packet_at window progress.used n) =
          omega (arith, packet-length) in
          rw (k, so.spans)

      pub goes_on : {counts' copy' kept' : List ℕ} {r : Progress} → length kept ≡ length before.kept
          → Gone program window n progress counts counts' copy copy' kept kept' r → SoFar program order window before r counts' copy' kept'
      goes_on {counts'} {copy'} {kept'} {r} z g =
          record {
            done = so.done ++ (p ∷ []);
            taken = rw g.used_is (taken_at order window so.done progress.used so.taken e);
            inside = omega (arith, g.used_is, there);
            spans = omega (arith, g.used_is, so.spans, span_more so.done p, packet-length);
            totals_are =
                g.totals_are
                ∙ (sym (added-run progress.totals (run_of program p))
                ∙ (ap (λ (t : Totals). added t (report_of (run_of program p ∷ []))) so.totals_are
                ∙ sym (added-packet program so.done p before.totals)));
            counts_are =
                g.counts_are
                ∙ (ap (tallied (run_of program p).ran) so.counts_are ∙ sym (tallied-packet program so.done p before.counts));
            copy_is =
                g.copy_is
                ∙ (ap (over (run_of program p).packet) so.copy_is
                ∙ (sym (copied_more (runs_of program so.done) (run_of program p) before.copy)
                ∙ ap (λ (rs : List Run). copied rs before.copy) (sym (alone program so.done (p ∷ [])))));
            kept_is = more.kept_is;
            kept_length = more.length_is;
          }
        where
          p : List ℕ
          p = packet_at window progress.used n

          rec : List ℕ
          rec = take (record_size + length p) (drop (span so.done) window)

          t : Bool
          t = leb (length window) (length before.kept)

          k : Bool
          k = is_kept (run_of program p).how

          stepped : KeptOn (pick t (kept_in program window so.done ++ pick k rec []) []) before.kept kept' r.kept
          stepped =
              kept_step t k (kept_in program window so.done) rec before.kept so.kept_is so.kept_length
              (rw (← z, ← record-bytes) g.keeps.length_is) (rw (← z, ← record-bytes) g.keeps.kept_is)

          more : KeptOn (kept_so program window (so.done ++ (p ∷ [])) (length before.kept)) before.kept kept' r.kept
          more = rw (kept_more program window so.done p) stepped

    -- where no whole record is left
    module _ (q : Record) (e : record_of order (drop progress.used window) ≡ q) (h : Stops q) where
      all : records_of order window ≡ record { packets = so.done; rest = drop progress.used window }
      all = done_at order window so.done progress.used q so.taken e h

      behind : (more : List ℕ) → records_of order (window ++ more)
          ≡ record {
            packets = so.done ++ (records_of order (drop progress.used window ++ more)).packets;
            rest = (records_of order (drop progress.used window ++ more)).rest;
          }
      behind more =
          WindowLaws.window order window more
          ∙ ap
          (λ (r : Records).
          record { packets = r.packets ++ (records_of order (r.rest ++ more)).packets; rest = (records_of order (r.rest ++ more)).rest })
          all

      pub ends : Windowed program order window before (record { totals = progress.totals; counts = counts; copy = copy; kept = kept })
          progress.used progress.kept
      ends =
          record {
            used_is = rw all (omega (arith, length-drop progress.used window, so.inside));
            totals_are = rw all so.totals_are;
            counts_are = rw all so.counts_are;
            copy_is = rw all so.copy_is;
            kept_is = rw all so.kept_is;
            kept_length = rw all so.kept_length;
            onward = λ more. let qs = (records_of order (drop progress.used window ++ more)).packets in
                record {
                  totals_same =
                      rw (behind more, so.totals_are, alone program so.done qs)
                      (added-append before.totals (runs_of program so.done) (runs_of program qs));
                  counts_same =
                      rw (behind more, so.counts_are, alone program so.done qs)
                      (sym (tallied-runs (runs_of program so.done) (runs_of program qs) before.counts));
                  rest_same = rw (behind more);
                };
          }

-- what stands at a place of a window
pub stands : (order : Order) (window : List ℕ) (at : ℕ) {r q : Record} → r ≡ record_of order (take (length window - at) (drop at window)) → r ≡ q
    → record_of order (drop at window) ≡ q
stands order window at e g =
    ap (record_of order) (sym (take_all (length window - at) (drop at window) (omega (arith, length-drop at window)))) ∙ (sym e ∙ g)
