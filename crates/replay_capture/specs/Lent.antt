-- What is asked and what is left, of the parameters by their names (base/specs/Lent.antt). What only the passes speak of is in PassesLent.antt.
use Rattle.std.specs.Prelude.{ℕ, length, Result}
use Rattle.base.specs.Lent.{MutSlice, Lent, MutLent}
use Rattle.jit.specs.Translation.{Inputs}
use Rattle.pcap.specs.declared.Order.{Order}
use Rattle.replay.specs.declared.Ended.{Ended}
use Rattle.replay.specs.declared.Refusal.{Refusal}
use Rattle.replay.specs.declared.Totals.{Totals}
use Rattle.replay.specs.Report.{inputs_of, verdict_of, replay_of}
use Rattle.replay_capture.specs.declared.Progress.{Progress}
use Rattle.replay_capture.specs.declared.Report.{Report}
use Rattle.replay_capture.specs.Decided.{decided_in}
use Rattle.replay_capture.specs.Packet as P
use Rattle.replay_capture.specs.Windowed as W
use Rattle.replay_capture.specs.Captured as C

-- what is asked of a filter, a page's length and that of the table of counts
abbrev pub inputs_in : (prog ids addresses : Lent) → (page counts : ℕ) → Inputs
inputs_in prog ids addresses page counts = inputs_of prog.entry.now ids.entry.now addresses.entry.now page counts

abbrev pub decided_of : (prog ids addresses : Lent) → (page counts : ℕ) → Result (Unit {0}) Refusal
decided_of prog ids addresses page counts = decided_in (verdict_of (inputs_in prog ids addresses page counts))

-- a packet
abbrev pub PacketReplayed : (prog ids addresses : Lent) → (page : ℕ) → (packet : Lent) (copy counts : MutLent) → Result Ended Refusal → Type 0
PacketReplayed prog ids addresses page packet copy counts r =
    P.PacketReplayed (inputs_in prog ids addresses page (length counts.entry.now))
    packet.entry.now copy.entry.now copy.exit.now counts.entry.now counts.exit.now r

-- a window
abbrev pub moment : Totals → (counts copy kept : MutSlice) → W.Lent
moment totals counts copy kept = record { totals = totals; counts = counts.now; copy = copy.now; kept = kept.now }

abbrev pub Windowed : (prog ids addresses : Lent) → (page : ℕ) → Order → (window : Lent) → Totals → (counts copy kept : MutLent) → Result Progress Refusal → Type 0
Windowed prog ids addresses page order window totals counts copy kept r =
    W.Answered (verdict_of (inputs_in prog ids addresses page (length counts.entry.now))) prog.entry.now order window.entry.now
    (moment totals counts.entry copy.entry kept.entry) counts.exit.now copy.exit.now kept.exit.now r

-- a capture
abbrev pub Captured : (prog ids addresses : Lent) → (page : ℕ) → (capture : Lent) (counts : MutLent) → Result Report Refusal → Type 0
Captured prog ids addresses page capture counts r =
    C.Reported (replay_of (inputs_in prog ids addresses page (length counts.entry.now)) capture.entry.now)
    counts.entry.now counts.exit.now r
