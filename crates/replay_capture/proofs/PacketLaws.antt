-- What is answered for one packet, by the verdict on the filter.
use Rattle.std.proofs.Common.{◌≡◌, ℕ, ◌≤◌, Bool, true, false, not, ◌||◌, ltb, leb, Result, Ok, Err, List, length}
use Rattle.std.proofs.Common.{sym, refl, ap, ◌∙◌, arith, ltb-false, le-ltb, leb-false, leb-true}
use Rattle.jit.specs.Translation.{Inputs}
use Rattle.pcap.specs.Capture.{longest_packet}
use Rattle.replay.specs.declared.Refusal.{Refusal}
use Rattle.replay.specs.declared.Refusal.TheVariants.{BadRecord}
use Rattle.replay.specs.declared.Ended.{Ended as How}
use Rattle.replay.specs.Run.{run_of}
use Rattle.replay.specs.Report.{Verdict, runs, refused, verdict_of, tallied}
use Rattle.replay_capture.specs.Decided.{decided_in}
use Rattle.replay_capture.specs.Packet.{PacketReplayed}
use Rattle.replay_capture.specs.Going.{Copied}

-- the verdict that an answer tells
pub is-run : (v : Verdict) → Ok tt ≡ decided_in v → v ≡ runs
is-run runs e = refl
is-run (refused r) e = let z : ◌≡◌ {A = ℕ} 0 1 = cc in absurd (omega arith)

pub is-refused : (v : Verdict) {r : Refusal} → Err r ≡ decided_in v → v ≡ refused r
is-refused runs e = let z : ◌≡◌ {A = ℕ} 0 1 = cc in absurd (omega arith)
is-refused (refused r) e = cc

module _ (x : Inputs) (packet copy counts : List ℕ) where
  pub refuses : {r : Refusal} → verdict_of x ≡ refused r → PacketReplayed x packet copy copy counts counts (Err r)
  unfolding tallied
  refuses e = record { answer = rw e; counts_are = rw e; copy_is = rw e }

  abbrev bad : Bool
  bad = ltb longest_packet (length packet) || ltb (length copy) (length packet)

  pub too_long : verdict_of x ≡ runs → bad ≡ true → PacketReplayed x packet copy copy counts counts (Err BadRecord)
  unfolding tallied
  too_long e b = record { answer = rw (e, b); counts_are = rw (e, b); copy_is = rw (e, b) }

  pub runs_on : verdict_of x ≡ runs → bad ≡ false → {copy' counts' : List ℕ} {r : How}
      → Copied (run_of x.filter.program packet) counts counts' copy copy' r → PacketReplayed x packet copy copy' counts counts' (Ok r)
  runs_on e b h =
      record { answer = rw (e, b, h.how); counts_are = rw (e, b) h.counts_are; copy_is = rw (e, b) h.copy_is }

-- what a good packet is
pub good-is : (packet room : ℕ) → packet ≤ longest_packet → leb packet room ≡ not (ltb longest_packet packet || ltb room packet)
good-is packet room h = rw (le-ltb longest_packet packet h) (by (leb packet room) refl)
  where
    by : (t : Bool) → leb packet room ≡ t → t ≡ not (ltb room packet)
    by true q = rw (le-ltb room packet (leb-true packet room q))
    by false q = rw (borrow.Author.Tests.lt-ltb room packet (leb-false packet room q))

pub record Good (packet room : ℕ) : Type 0 where
  pub short : packet ≤ longest_packet
  pub fits : packet ≤ room

pub good : (packet room : ℕ) → ltb longest_packet packet || ltb room packet ≡ false → Good packet room
good packet room e = by (ltb longest_packet packet) (ltb room packet) refl refl e
  where
    by : (t u : Bool) → ltb longest_packet packet ≡ t → ltb room packet ≡ u → t || u ≡ false → Good packet room
    by false false p q e = record { short = ltb-false longest_packet packet p; fits = ltb-false room packet q }
    by false true p q e = let z : ◌≡◌ {A = ℕ} 0 1 = cc in absurd (omega arith)
    by true u p q e = let z : ◌≡◌ {A = ℕ} 0 1 = cc in absurd (omega arith)
