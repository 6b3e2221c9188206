-- What is answered for a part of a capture and for a capture, by the verdict on the filter and by what is left behind the records.
use Rattle.std.proofs.Common.{◌≡◌, ℕ, ◌-◌, ◌≤◌, Bool, true, false, ltb, Option, Some, None, Result, Ok, Err, List, [], ◌∷◌, length, take, drop}
use Rattle.std.proofs.Common.{sym, refl, ap, ◌∙◌, arith, length-drop, take_all, ltb-false}
use Rattle.base.specs.Pick.{pick}
use Rattle.pcap.specs.declared.Order.TheVariants.{Little, Big}
use Rattle.jit.specs.Limits.{most_slots}
use Rattle.jit.specs.Translation.{Inputs}
use Rattle.pcap.specs.declared.Order.{Order}
use Rattle.pcap.specs.Capture.{Records, records_of, header_of, header_size, is_magic, number_at}
use Rattle.pcap.proofs.CaptureLaws.{rest-suffix}
use Rattle.replay.specs.declared.Refusal.{Refusal}
use Rattle.replay.specs.declared.Refusal.TheVariants.{NotPcap}
use Rattle.replay.specs.declared.Totals.{Totals}
use Rattle.replay.specs.Report as report
use Rattle.replay.specs.Report.{Verdict, runs, refused, verdict_of, of_records, replay_of, runs_of, report_of, slots_run, tallied, added, inputs_of, unless_left}
use Rattle.replay_run.specs.Running.{Prepared}
use Rattle.replay_capture.specs.declared.Progress.{Progress}
use Rattle.replay_capture.specs.declared.Report.{Report}
use Rattle.replay_capture.specs.declared.Report.TheVariants as capture
use Rattle.replay_capture.specs.Going.{PreparedFor}
use Rattle.replay_capture.specs.Windowed.{Lent, Windowed, Answered}
use Rattle.replay_capture.specs.Captured.{nothing, answer_of, ran_in, Reported}

-- a filter that is run has its table of codes
pub ready : (program ids addresses : List ℕ) (page : ℕ) (counts : List ℕ) {codes : List ℕ} {r : Result (Unit {0}) Refusal}
    → PreparedFor (inputs_of program ids addresses page (length counts)) codes r → r ≡ Ok tt → most_slots ≤ length codes → Prepared codes program counts
ready program ids addresses page counts p e h =
    record {
      coded = p.coded e;
      codes_for = omega (arith, p.few e, h);
      counts_for = omega (arith, p.counts_for e);
    }

module _ (program : List ℕ) (order : Order) (window : List ℕ) (before : Lent) (v : Verdict) where
  pub window-refused : {q : Refusal} → v ≡ refused q
      → Answered v program order window before before.counts before.copy before.kept (Err q)
  window-refused e = rw e (refl, (refl, (refl, refl)))

  pub window-ran : v ≡ runs → {counts' copy' kept' : List ℕ} {r : Progress}
      → Windowed program order window before (record { totals = r.totals; counts = counts'; copy = copy'; kept = kept' }) r.used r.kept
      → Answered v program order window before counts' copy' kept' (Ok r)
  window-ran e h = rw e h

-- a capture's records, all of them or up to a bad one
module _ (program : List ℕ) (order : Order) (records : List ℕ) (before after : Lent) (used kept : ℕ) (from : before.totals ≡ nothing)
    (h : Windowed program order records before after used kept) where
  totals : after.totals ≡ added nothing (report_of (runs_of program (records_of order records).packets))
  totals = h.totals_are ∙ ap (λ (t : Totals). added t (report_of (runs_of program (records_of order records).packets))) from

  none : (rest : List ℕ) → length rest ≡ 0 → rest ≡ []
  none [] e = refl
  none (b ∷ bs) e = absurd (omega (arith, e))

  pub all_read : used ≡ length records
      → Reported (of_records program (records_of order records)) before.counts after.counts (Ok (capture.Whole after.totals))
  all_read e =
      let z : (records_of order records).rest ≡ [] =
      none (records_of order records).rest (omega (arith, e, h.used_is, (rest-suffix order records).short)) in
      record { answer = rw (z, totals); counts_are = rw z h.counts_are }

  by-rest : (rest : List ℕ) (r : report.Report) → ¬ (length rest ≡ 0) → unless_left rest r ≡ report.cut r
  by-rest [] r n = absurd (n refl)
  by-rest (b ∷ bs) r n = refl

  pub cut_short : ¬ (used ≡ length records)
      → Reported (of_records program (records_of order records)) before.counts after.counts (Ok (capture.Cut after.totals))
  cut_short n =
      let z = by-rest (records_of order records).rest (report_of (runs_of program (records_of order records).packets))
      (λ e. n (omega (arith, e, h.used_is))) in
      record { answer = rw (z, totals); counts_are = rw z h.counts_are }

-- a capture, by its header
module _ (x : Inputs) (file counts : List ℕ) where
  pub capture-refused : {q : Refusal} → verdict_of x ≡ refused q → Reported (replay_of x file) counts counts (Err q)
  unfolding replay_of tallied
  capture-refused e = record { answer = rw e; counts_are = rw e }

  pub no_header : verdict_of x ≡ runs → header_of file ≡ None → Reported (replay_of x file) counts counts (Err NotPcap)
  unfolding replay_of tallied
  no_header e h = record { answer = rw (e, h); counts_are = rw (e, h) }

  pub with-header : verdict_of x ≡ runs → {order : Order} → header_of file ≡ Some order → {counts' : List ℕ} {r : Result Report Refusal}
      → Reported (of_records x.filter.program (records_of order (drop header_size file))) counts counts' r → Reported (replay_of x file) counts counts' r
  unfolding replay_of
  with-header e h g = rw (e, h) g

-- what has a header is as long as one
pub header-there : (file : List ℕ) {order : Order} → header_of file ≡ Some order → header_size ≤ length file
unfolding header_of
header-there file {order} e = by (ltb (length file) header_size) refl e
  where
    by : (t : Bool) → ltb (length file) header_size ≡ t
        → pick t None (pick (is_magic (number_at Little file 0)) (Some Little) (pick (is_magic (number_at Big file 0)) (Some Big) None)) ≡ Some order
        → header_size ≤ length file
    by true l q = let z : ◌≡◌ {A = ℕ} 0 1 = cc in absurd (omega arith)
    by false l q = ltb-false (length file) header_size l

-- the bytes behind it
pub behind-header : (file : List ℕ) → take (length file - header_size) (drop header_size file) ≡ drop header_size file
behind-header file = take_all (length file - header_size) (drop header_size file) (omega (arith, length-drop header_size file))
