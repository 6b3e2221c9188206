-- What the passes over a window ask and leave, over lists. Only they speak of it; the proofs join them to the contract (Windowed.antt).
use Rattle.std.specs.Prelude.{◌≡◌, ℕ, ◌+◌, ◌-◌, ◌<◌, ◌≤◌, Bool, false, Result, Ok, List, ◌++◌, length, take, drop, nat_le}
use Rattle.base.specs.Lists.{over}
use Rattle.base.specs.Pick.{pick}
use Rattle.jit.specs.Limits.{most_slots}
use Rattle.jit.specs.Translation.{Inputs, slots_of}
use Rattle.pcap.specs.Capture.{record_size, longest_packet}
use Rattle.replay.specs.declared.Ended.{Ended}
use Rattle.replay.specs.declared.Refusal.{Refusal}
use Rattle.replay.specs.Run.{Run, run_of}
use Rattle.replay.specs.Report.{verdict_of, tallied, added, is_kept}
use Rattle.replay_run.specs.Running.{Prepared}
use Rattle.replay_slots.specs.Codes.{Coded}
use Rattle.replay_capture.specs.Decided.{decided_in}
use Rattle.replay_capture.specs.declared.Progress.{Progress}
use Rattle.replay_capture.specs.Counted.{one}

-- A filter, prepared: where the filter is run, the table is its codes, it is within the limit, and there is an entry of the counts for each slot, and one
pub record PreparedFor (x : Inputs) (codes' : List ℕ) (r : Result (Unit {0}) Refusal) : Type 0 where
  pub decided : r ≡ decided_in (verdict_of x)
  pub coded : r ≡ Ok tt → Coded x.filter.program codes'
  pub few : r ≡ Ok tt → slots_of x.filter.program ≤ most_slots
  pub counts_for : r ≡ Ok tt → slots_of x.filter.program < x.locations

pub record Copied (run : Run) (counts counts' copy copy' : List ℕ) (r : Ended) : Type 0 where
  pub how : r ≡ run.how
  pub counts_are : counts' ≡ tallied run.ran counts
  pub copy_is : copy' ≡ over run.packet copy

pub record Put (kept kept' : List ℕ) (at : ℕ) (packet : List ℕ) (r : ℕ) : Type 0 where
  pub end_is : r ≡ at + length packet
  pub kept_is : kept' ≡ take at kept ++ (packet ++ drop (at + length packet) kept)

-- The record from a place on to an end, kept where it is wanted and there is room for all of the window.
pub record Keeping (window : List ℕ) (at end : ℕ) (kept : List ℕ) (before : ℕ) : Type 0 where
  pub order : at ≤ end
  pub inside : end ≤ length window
  pub room : length window ≤ length kept → before + (end - at) ≤ length kept

abbrev pub piece : (window : List ℕ) → (at end : ℕ) → List ℕ
piece window at end = take (end - at) (drop at window)

abbrev pub wants : Bool → (window kept : List ℕ) → Bool
wants wanted window kept = pick wanted (nat_le (length window) (length kept)) false

-- behind the first `before` bytes of a buffer stand those of a list, and behind them is what was there
abbrev pub put_behind : (kept : List ℕ) → (before : ℕ) → List ℕ → List ℕ
put_behind kept before l = take before kept ++ (l ++ drop (before + length l) kept)

pub record KeptRecord (wanted : Bool) (window : List ℕ) (at end : ℕ) (kept kept' : List ℕ) (before r : ℕ) : Type 0 where
  pub length_is : r ≡ pick (wants wanted window kept) (before + length (piece window at end)) before
  pub kept_is : kept' ≡ pick (wants wanted window kept) (put_behind kept before (piece window at end)) kept

-- One record: what is asked, and what it leaves.
pub record Going (codes program window : List ℕ) (n : ℕ) (progress : Progress) (counts copy kept : List ℕ) : Type 0 where
  pub prepared : Prepared codes program counts
  pub inside : progress.used + record_size + n ≤ length window
  pub short : n ≤ longest_packet
  pub copies : longest_packet ≤ length copy
  pub room : length window ≤ length kept → progress.kept + (record_size + n) ≤ length kept

-- the packet of the record
abbrev pub packet_at : (window : List ℕ) → (at n : ℕ) → List ℕ
packet_at window at n = take n (drop (at + record_size) window)

pub record Gone (program window : List ℕ) (n : ℕ) (progress : Progress) (counts counts' copy copy' kept kept' : List ℕ) (r : Progress) : Type 0 where
  pub used_is : r.used ≡ progress.used + record_size + n
  pub totals_are : r.totals ≡ added progress.totals (one (run_of program (packet_at window progress.used n)).how)
  pub counts_are : counts' ≡ tallied (run_of program (packet_at window progress.used n)).ran counts
  pub copy_is : copy' ≡ over (run_of program (packet_at window progress.used n)).packet copy
  pub keeps : KeptRecord (is_kept (run_of program (packet_at window progress.used n)).how) window progress.used
      (progress.used + record_size + n) kept kept' progress.kept r.kept
