-- What the passes ask and leave (Going.antt), of the parameters by their names (base/specs/Lent.antt). Only they speak of it; the proofs join
-- them to the contracts (Lent.antt).
use Rattle.std.specs.Prelude.{ℕ, Bool, length, Result, Ok}
use Rattle.base.specs.Lent.{Slice, MutSlice, Lent, MutLent}
use Rattle.pcap.specs.declared.Order.{Order}
use Rattle.pcap.specs.Capture.{records_of}
use Rattle.replay.specs.declared.Ended.{Ended}
use Rattle.replay.specs.declared.Refusal.{Refusal}
use Rattle.replay.specs.declared.Totals.{Totals}
use Rattle.replay.specs.Run.{run_of}
use Rattle.replay.specs.Report.{of_records}
use Rattle.replay_capture.specs.declared.Report.{Report}
use Rattle.replay_capture.specs.declared.Progress.{Progress}
use Rattle.replay_capture.specs.Lent.{inputs_in, moment}
use Rattle.replay_capture.specs.Windowed as W
use Rattle.replay_capture.specs.Captured as C
use Rattle.replay_capture.specs.Going as G

abbrev pub PreparedFor : (prog ids addresses : Lent) → (page counts : ℕ) → (codes : MutLent) → Result (Unit {0}) Refusal → Type 0
PreparedFor prog ids addresses page counts codes r = G.PreparedFor (inputs_in prog ids addresses page counts) codes.exit.now r

-- a packet, run on a copy; a record, put behind those before it
abbrev pub Copied : (prog : Lent) (counts copy : MutLent) (packet : Lent) → Ended → Type 0
Copied prog counts copy packet r =
    G.Copied (run_of prog.entry.now packet.entry.now)
    counts.entry.now counts.exit.now copy.entry.now copy.exit.now r

abbrev pub Put : (kept : MutLent) → (at : ℕ) → (packet : Lent) → ℕ → Type 0
Put kept at packet r = G.Put kept.entry.now kept.exit.now at packet.entry.now r

-- a window: a record that is kept, a record, all records, and what is answered
abbrev pub Keeping : (window : Slice) → (at end : ℕ) → (kept : MutSlice) → (length : ℕ) → Type 0
Keeping window at end kept length = G.Keeping window.now at end kept.now length

abbrev pub KeptRecord : Bool → (window : Lent) → (at end : ℕ) → (kept : MutLent) → (length r : ℕ) → Type 0
KeptRecord wanted window at end kept length r = G.KeptRecord wanted window.entry.now at end kept.entry.now kept.exit.now length r

abbrev pub Going : (codes prog window : Slice) → (n : ℕ) → Progress → (counts copy kept : MutSlice) → Type 0
Going codes prog window n progress counts copy kept = G.Going codes.now prog.now window.now n progress counts.now copy.now kept.now

abbrev pub Gone : (prog window : Lent) → (n : ℕ) → Progress → (counts copy kept : MutLent) → Progress → Type 0
Gone prog window n progress counts copy kept r =
    G.Gone prog.entry.now window.entry.now n progress
    counts.entry.now counts.exit.now copy.entry.now copy.exit.now kept.entry.now kept.exit.now r

abbrev pub RanAll : (prog : Lent) → Order → (window : Lent) → Totals → (counts copy kept : MutLent) → Progress → Type 0
RanAll prog order window totals counts copy kept r =
    W.Windowed prog.entry.now order window.entry.now
    (moment totals counts.entry copy.entry kept.entry) (moment r.totals counts.exit copy.exit kept.exit) r.used r.kept

-- a capture's records
abbrev pub Reported : (prog : Lent) → Order → (records : Lent) (counts : MutLent) → Report → Type 0
Reported prog order records counts r =
    C.Reported (of_records prog.entry.now (records_of order records.entry.now)) counts.entry.now counts.exit.now (Ok r)
