-- What `ExportedRun` (specs/ExportedRun.antt) shuts out, each of its parts used: a packet that there is no room for, run; a refusal that counts
-- slots, or changes the copy; another copy or other counts than the run's; a stopped run told as an EXIT, or with an r0 that is not 0.
use mathlib.Core.Path.{◌≡◌, ◌∙◌, ap, refl}
use mathlib.Core.Bool.{Bool, true, false, ◌||◌}
use mathlib.Core.Logic.{◌≢◌}
use mathlib.Core.List.{List}
use Prim.Native.Nat.{ℕ, ◌+◌}
use native.Mathlib.Omega.{arith}
use lib.Dec.{ltb}
use lib.ListN.{length}
use borrow.Author.Tests.{lt-ltb}
use Rattle.base.specs.Lists.{over}
use Rattle.jit.specs.Translation.{Inputs}
use Rattle.pcap.specs.Capture.{longest_packet}
use Rattle.replay.specs.declared.Refusal.{Refusal}
use Rattle.replay.specs.declared.Refusal.TheVariants.{BadRecord}
use Rattle.replay.specs.declared.Ended.TheVariants.{Exit, StepLimit, Access, NoSlot}
use Rattle.replay.specs.Refusals.{number_of}
use Rattle.replay.specs.Report.{runs, refused, verdict_of, tallied}
use Rattle.replay_capture.specs.Packet.{PacketRun, no, packet_of, answer_of}
use Rattle.ndakoleem_replay.specs.declared.RanPacket.{RanPacket}
use Rattle.ndakoleem_replay.specs.ExportedRun.{ended_of, value_of, number_in, ExportedRun}
use Rattle.ndakoleem_replay.proofs.ExportedRunLaws.{numbered, run_in, ended_so, value-so, counts-so, copy-so, refused-so}

or-true : (a : Bool) → (a || true) ≡ true
or-true true = refl
or-true false = refl

module _ {x : Inputs} {packet copy copy' counts counts' : List ℕ} {r : RanPacket} (h : ExportedRun x packet copy copy' counts counts' r) where
  number-so : (w : PacketRun) → packet_of x packet (length copy) ≡ w → r.number ≡ number_in (answer_of w)
  number-so w e = h.number_is ∙ ap number_in (h.replayed.answer ∙ ap answer_of e)

  -- A FILTER THAT IS REFUSED: its number, and nothing of what is lent is changed
  module _ {q : Refusal} (v : verdict_of x ≡ refused q) where
    theirs : r.number ≡ number_of q
    theirs = number-so (no q) (rw v refl)

    not-run : r.number ≢ 0
    not-run z = omega (arith, numbered q, theirs, z)

    pub other-refusal : r.number ≢ number_of q → ⊥
    other-refusal n = n theirs

    pub refused-and-counted : counts' ≢ counts → ⊥
    refused-and-counted n = n (refused-so h not-run).3

    pub refused-and-copied : copy' ≢ copy → ⊥
    refused-and-copied n = n (refused-so h not-run).2

  -- 18 ANSWERED AS RUN: a packet of 65,536 bytes, or of one more than there is room for
  module _ (v : verdict_of x ≡ runs) where
    bad : (ltb longest_packet (length packet) || ltb (length copy) (length packet)) ≡ true → r.number ≡ 0 → ⊥
    bad t z = omega (arith, number-so (no BadRecord) (rw (v, t) refl), z)

    pub longer-than-any : length packet ≡ 65536 → r.number ≡ 0 → ⊥
    longer-than-any n = bad (rw (lt-ltb longest_packet (length packet) (omega (arith, n))) refl)

    pub no_room : length packet ≡ length copy + 1 → r.number ≡ 0 → ⊥
    no_room n = bad (rw (lt-ltb (length copy) (length packet) (omega (arith, n))) (or-true (ltb longest_packet (length packet))))

  -- A RUN: another copy, other counts, another end, another r0
  module _ (z : r.number ≡ 0) where
    pub copy-not-left : copy' ≢ over (run_in x packet).packet copy → ⊥
    copy-not-left n = n (copy-so h z)

    pub miscounted : counts' ≢ tallied (run_in x packet).ran counts → ⊥
    miscounted n = n (counts-so h z)

    pub access-told-as-exit : (run_in x packet).how ≡ Access → r.ended ≡ 0 → ⊥
    access-told-as-exit e t = omega (arith, ended_so h z, ap ended_of e, t)

    pub limit-told-as-access : (run_in x packet).how ≡ StepLimit → r.ended ≡ ended_of Access → ⊥
    limit-told-as-access e t = omega (arith, ended_so h z, ap ended_of e, t)

    pub stopped-with-a-value : (run_in x packet).how ≡ NoSlot → r.r0 ≢ 0 → ⊥
    stopped-with-a-value e n = n (value-so h z ∙ ap value_of e)

    pub other-value : {value : ℕ} → (run_in x packet).how ≡ Exit value → r.r0 ≢ value → ⊥
    other-value e n = n (value-so h z ∙ ap value_of e)
