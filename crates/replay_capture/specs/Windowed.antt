-- What is answered for a part of a capture, a window, and what is left of what is lent. Every whole record at its head is run. Window after window
-- gives what the whole gives: whatever follows, what is left of the window and what follows comes, from the totals and the counts that are
-- left, to what the window and what follows came to from those that were lent.
use Rattle.std.specs.Prelude.{◌≡◌, ℕ, ◌+◌, ◌-◌, List, [], ◌∷◌, ◌++◌, length, take, drop, nat_le, Result, Ok, Err}
use Rattle.base.specs.Lists.{over}
use Rattle.base.specs.Pick.{pick}
use Rattle.pcap.specs.declared.Order.{Order}
use Rattle.pcap.specs.Capture.{Records, records_of, record_size}
use Rattle.replay.specs.declared.Refusal.{Refusal}
use Rattle.replay.specs.declared.Totals.{Totals}
use Rattle.replay.specs.Run.{Run, run_of}
use Rattle.replay_capture.specs.declared.Progress.{Progress}
use Rattle.replay.specs.Report.{Verdict, runs, refused, is_kept, runs_of, report_of, slots_run, tallied, added}

-- the records of the kept packets, as they were, of bytes that begin with the records of these packets
abbrev pub kept_in : (program bytes : List ℕ) → (packets : List (List ℕ)) → List ℕ
kept_in program bytes [] = []
kept_in program bytes (p ∷ ps) =
    pick (is_kept (run_of program p).how) (take (record_size + length p) bytes) [] ++ kept_in program (drop (record_size + length p) bytes) ps

-- a buffer for copies, in which each run leaves its packet
abbrev pub copied : List Run → (copy : List ℕ) → List ℕ
copied [] copy = copy
copied (r ∷ rs) copy = copied rs (over r.packet copy)

-- What is lent, at one moment: the totals so far, the counts, the buffer for copies and that for kept records.
pub record Lent : Type 0 where
  pub totals : Totals
  pub counts : List ℕ
  pub copy : List ℕ
  pub kept : List ℕ

-- records are kept where there is room for all of the window
abbrev pub kept_of : (program window : List ℕ) → Records → (room : ℕ) → List ℕ
kept_of program window records room = pick (nat_le (length window) room) (kept_in program window records.packets) []

-- what the packets of a capture's records add up to
pub record SameEnd (program : List ℕ) (one other : Records) (totals totals' : Totals) (counts counts' : List ℕ) : Type 0 where
  pub totals_same : added totals' (report_of (runs_of program other.packets)) ≡ added totals (report_of (runs_of program one.packets))
  pub counts_same : tallied (slots_run (runs_of program other.packets)) counts' ≡ tallied (slots_run (runs_of program one.packets)) counts
  pub rest_same : other.rest ≡ one.rest

-- THE CONTRACT, of a filter that is run
pub record Windowed (program : List ℕ) (order : Order) (window : List ℕ) (before after : Lent) (used kept : ℕ) : Type 0 where
  pub used_is : used ≡ length window - length (records_of order window).rest
  pub totals_are : after.totals ≡ added before.totals (report_of (runs_of program (records_of order window).packets))
  pub counts_are : after.counts ≡ tallied (slots_run (runs_of program (records_of order window).packets)) before.counts
  pub copy_is : after.copy ≡ copied (runs_of program (records_of order window).packets) before.copy
  pub kept_is : after.kept ≡ over (kept_of program window (records_of order window) (length before.kept)) before.kept
  pub kept_length : kept ≡ length (kept_of program window (records_of order window) (length before.kept))
  pub onward : (more : List ℕ)
      → SameEnd program (records_of order (window ++ more)) (records_of order (drop used window ++ more))
      before.totals after.totals before.counts after.counts

-- .. and of any filter: an answer by the verdict on it; refused, nothing is changed
abbrev pub Answered : Verdict → (program : List ℕ) → Order → (window : List ℕ) → (before : Lent) → (counts' copy' kept' : List ℕ) → Result Progress Refusal → Type 0
Answered (refused q) program order window before counts' copy' kept' r =
    (r ≡ Err q) × ((counts' ≡ before.counts) × ((copy' ≡ before.copy) × (kept' ≡ before.kept)))
Answered runs program order window before counts' copy' kept' (Err q) = ⊥
Answered runs program order window before counts' copy' kept' (Ok r) =
    Windowed program order window before (record { totals = r.totals; counts = counts'; copy = copy'; kept = kept' }) r.used r.kept
