-- Wrong answers, refuted from the contracts alone. The window has one record, of a packet that the filter keeps, and three bytes of another.
use Rattle.std.proofs.Common.{◌≡◌, ℕ, List, [], ◌∷◌, ◌++◌, length, drop, Result, sym, refl, ap, ◌∙◌, arith}
use Rattle.ebpf.specs.Insn.{insn_at}
use Rattle.ebpf.specs.Opcode.{kind_of}
use Rattle.pcap.specs.declared.Order.TheVariants.{Little}
use Rattle.pcap.specs.Capture.{record_of, records_from, records_of}
use Rattle.replay.specs.declared.Refusal.{Refusal}
use Rattle.replay.specs.Memory.{place_of}
use Rattle.replay.specs.Run.{is_second, kind_at, turn_at, run_from, run_of}
use Rattle.replay.specs.Report.{refused, plus, tallied, report_of, runs_of, added}
use Rattle.replay.proofs.WorkedReports.{filter}
use Rattle.replay_capture.specs.declared.Progress.{Progress}
use Rattle.replay_capture.specs.Windowed.{Lent, Windowed, Answered}

abbrev window : List ℕ
window = 1 ∷ 2 ∷ 3 ∷ 4 ∷ 5 ∷ 6 ∷ 7 ∷ 8 ∷ 1 ∷ 0 ∷ 0 ∷ 0 ∷ 60 ∷ 0 ∷ 0 ∷ 0 ∷ 7 ∷ (1 ∷ 2 ∷ 3 ∷ [])

module _ {before after : Lent} {used kept : ℕ} (h : Windowed filter Little window before after used kept) where
  -- the record and no more is used
  pub one-record : used ≡ 17
  unfolding record_of records_from
  one-record = h.used_is

  pub tail-taken : used ≡ 20 → ⊥
  tail-taken e = omega (arith, e, one-record)

  -- its packet is counted, and kept
  pub counted-once : after.totals.packets ≡ plus before.totals.packets 1
  unfolding record_of records_from run_of run_from turn_at kind_at is_second insn_at kind_of place_of
  counted-once = ap (λ t. t.packets) h.totals_are

  pub kept-once : after.totals.kept ≡ plus before.totals.kept 1
  unfolding record_of records_from run_of run_from turn_at kind_at is_second insn_at kind_of place_of
  kept-once = ap (λ t. t.kept) h.totals_are

  pub not-counted : before.totals.packets ≡ 5 → after.totals.packets ≡ 5 → ⊥
  not-counted e g = omega (arith, counted-once, e, g)

  -- both slots ran
  pub both-ran : before.counts ≡ 0 ∷ 0 ∷ 9 ∷ [] → after.counts ≡ 1 ∷ 1 ∷ 9 ∷ []
  unfolding record_of records_from run_of run_from turn_at kind_at is_second insn_at kind_of place_of tallied
  both-ran e = h.counts_are ∙ rw e

  pub slot-forgotten : before.counts ≡ 0 ∷ 0 ∷ 9 ∷ [] → after.counts ≡ 1 ∷ 0 ∷ 9 ∷ [] → ⊥
  slot-forgotten e g = let q = sym (both-ran e) ∙ g in let z : ◌≡◌ {A = ℕ} 1 0 = cc in omega (arith, z)

  -- the record is kept as it was, its header with it; and not where the window has no room
  pub record-kept : length before.kept ≡ 20 → kept ≡ 17
  unfolding record_of records_from run_of run_from turn_at kind_at is_second insn_at kind_of place_of
  record-kept e = h.kept_length ∙ rw e

  pub header-left-out : length before.kept ≡ 20 → kept ≡ 1 → ⊥
  header-left-out e g = omega (arith, record-kept e, g)

  pub none-without-room : length before.kept ≡ 19 → kept ≡ 0
  unfolding record_of records_from run_of run_from turn_at kind_at is_second insn_at kind_of place_of
  none-without-room e = h.kept_length ∙ rw e

  -- the run leaves the packet in the copy
  pub packet-copied : before.copy ≡ 0 ∷ 0 ∷ [] → after.copy ≡ 7 ∷ 0 ∷ []
  unfolding record_of records_from run_of run_from turn_at kind_at is_second insn_at kind_of place_of
  packet-copied e = h.copy_is ∙ rw e

  -- whatever follows, going on comes to what the whole comes to
  pub goes_on : (more : List ℕ)
      → added after.totals (report_of (runs_of filter (records_of Little (drop used window ++ more)).packets))
      ≡ added before.totals (report_of (runs_of filter (records_of Little (window ++ more)).packets))
  goes_on more = (h.onward more).totals_same

-- a refused filter: another answer, and something changed
module _ {q : Refusal} (before : Lent) {counts copy kept : List ℕ} {r : Result Progress Refusal}
    (h : Answered (refused q) filter Little window before counts copy kept r) where
  pub refused-and-counted : (counts ≡ before.counts → ⊥) → ⊥
  refused-and-counted n = n h.1.0

  pub refused-and-copied : (copy ≡ before.copy → ⊥) → ⊥
  refused-and-copied n = n h.1.1.0

  pub refused-and-kept : (kept ≡ before.kept → ⊥) → ⊥
  refused-and-kept n = n h.1.1.1
