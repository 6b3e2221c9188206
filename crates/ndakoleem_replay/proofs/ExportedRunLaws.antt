-- The laws of specs/ExportedRun.antt: one struct only; where the number is 0, the packet was run, and r0 alone says whether it was kept; where it
-- is not, nothing was changed; how the contract is met.
use mathlib.Core.Path.{◌≡◌, ◌∙◌, ap, sym, refl}
use mathlib.Core.Bool.{Bool, true, false, not, ◌||◌}
use mathlib.Core.Logic.{◌≢◌}
use Rattle.std.specs.Prelude.{Result, Ok}
use mathlib.Core.List.{List}
use Prim.Native.Nat.{ℕ, ◌≤◌}
use native.Mathlib.Omega.{arith}
use lib.Dec.{eqb, ltb}
use lib.ListN.{length}
use Rattle.base.specs.Lists.{over}
use Rattle.base.specs.Pick.{pick}
use Rattle.jit.specs.declared.Refusal.{Refusal as TranslationRefusal}
use Rattle.jit.specs.declared.Refusal.TheVariants as refusal
use Rattle.jit.specs.Refusals.{number_of as translation_number}
use Rattle.jit.specs.Translation.{Inputs}
use Rattle.pcap.specs.Capture.{longest_packet}
use Rattle.replay.specs.declared.Refusal.{Refusal}
use Rattle.replay.specs.declared.Refusal.TheVariants.{Translation, NotPcap, BadRecord, NotModelled}
use Rattle.replay.specs.declared.Ended as ended
use Rattle.replay.specs.declared.Ended.TheVariants.{Exit, StepLimit, Access, NoSlot}
use Rattle.replay.specs.Refusals.{number_of}
use Rattle.replay.specs.Run as model
use Rattle.replay.specs.Run.{run_of}
use Rattle.replay.specs.Report.{Verdict, runs, refused, verdict_of, is_kept, tallied}
use Rattle.replay_capture.specs.Packet.{PacketRun, no, ran, of_packet, packet_of, answer_of, ran_in, copy_in, PacketReplayed}
use Rattle.ndakoleem_replay.specs.declared.RanPacket.{RanPacket}
use Rattle.ndakoleem_replay.specs.ExportedRun.{ended_of, value_of, number_in, slot_in, ended_in, value_in, ExportedRun}

-- The struct of an answer's four numbers meets the contract.
pub exported-run : {x : Inputs} {packet copy copy' counts counts' : List ℕ} {a : Result ended.Ended Refusal} {number slot how value : ℕ}
    → PacketReplayed x packet copy copy' counts counts' a
    → number ≡ number_in a → slot ≡ slot_in a → how ≡ ended_in a → value ≡ value_in a
    → ExportedRun x packet copy copy' counts counts' (record { number = number; slot = slot; ended = how; r0 = value })
exported-run {x} {packet} {copy} {copy'} {counts} {counts'} {a} h n s e v =
    record { answer = a; replayed = h; number_is = n; slot_is = s; ended_is = e; value_is = v }

-- It admits one struct and one set of contents at exit only.
pub one-run : {x : Inputs} {packet copy copy' copy'' counts counts' counts'' : List ℕ} {r s : RanPacket}
    → ExportedRun x packet copy copy' counts counts' r → ExportedRun x packet copy copy'' counts counts'' s
    → ((r.number ≡ s.number) × (r.slot ≡ s.slot) × (r.ended ≡ s.ended) × (r.r0 ≡ s.r0)) × (copy' ≡ copy'') × (counts' ≡ counts'')
one-run a b =
    let by = a.replayed.answer ∙ sym b.replayed.answer in (
      (
        a.number_is ∙ ap number_in by ∙ sym b.number_is,
        a.slot_is ∙ ap slot_in by ∙ sym b.slot_is,
        a.ended_is ∙ ap ended_in by ∙ sym b.ended_is,
        a.value_is ∙ ap value_in by ∙ sym b.value_is,
      ),
      a.replayed.copy_is ∙ sym b.replayed.copy_is,
      a.replayed.counts_are ∙ sym b.replayed.counts_are,
    )

-- No refusal has number 0: none of a translation (crates/ndakoleem/proofs/ExportedLaws.antt has that too, for its own library), and none of the
-- model's own.
translation-numbered : (r : TranslationRefusal) → 1 ≤ translation_number r
translation-numbered refusal.PageTooShort = omega arith
translation-numbered refusal.PageTooLong = omega arith
translation-numbered refusal.ProgramTooLong = omega arith
translation-numbered refusal.TableTooShort = omega arith
translation-numbered refusal.BadHelpers = omega arith
translation-numbered (refusal.Torn s) = omega arith
translation-numbered (refusal.BadRegister s) = omega arith
translation-numbered (refusal.UnknownOpcode s) = omega arith
translation-numbered (refusal.Unimplemented s) = omega arith
translation-numbered (refusal.BadSwap s) = omega arith
translation-numbered (refusal.UnknownHelper s) = omega arith
translation-numbered (refusal.BadCall s) = omega arith
translation-numbered (refusal.NoRoom s) = omega arith
translation-numbered (refusal.BadTarget s) = omega arith

pub numbered : (r : Refusal) → 1 ≤ number_of r
numbered (Translation r) = translation-numbered r
numbered NotPcap = omega arith
numbered BadRecord = omega arith
numbered (NotModelled s) = omega arith

-- So what has it was run.
run_in_lem : (v : Verdict) (program packet : List ℕ) (room : ℕ) → number_in (answer_of (of_packet v program packet room)) ≡ 0
    → of_packet v program packet room ≡ ran (run_of program packet)
run_in_lem (refused r) program packet room e = absurd (omega (arith, numbered r, e))
run_in_lem runs program packet room e = by (ltb longest_packet (length packet) || ltb room (length packet)) e
  where
    by : (t : Bool) → number_in (answer_of (pick t (no BadRecord) (ran (run_of program packet)))) ≡ 0
        → pick t (no BadRecord) (ran (run_of program packet)) ≡ ran (run_of program packet)
    by true q = absurd (omega (arith, q))
    by false q = refl

-- kept is r0 not 0: what is stopped, and what is refused, has 0 there
kept_by : (e : ended.Ended) → is_kept e ≡ not (eqb (value_of e) 0)
kept_by (Exit r0) = refl
kept_by StepLimit = refl
kept_by Access = refl
kept_by NoSlot = refl

-- the run of the packet
abbrev pub run_in : Inputs → (packet : List ℕ) → model.Run
run_in x packet = run_of x.filter.program packet

module _ {x : Inputs} {packet copy copy' counts counts' : List ℕ} {r : RanPacket} (h : ExportedRun x packet copy copy' counts counts' r) where
  -- WHAT NUMBER 0 SAYS
  module _ (z : r.number ≡ 0) where
    pub ran-so : packet_of x packet (length copy) ≡ ran (run_in x packet)
    ran-so = run_in_lem (verdict_of x) x.filter.program packet (length copy) (sym (ap number_in h.replayed.answer) ∙ sym h.number_is ∙ z)

    answered : h.answer ≡ Ok (run_in x packet).how
    answered = h.replayed.answer ∙ ap answer_of ran-so

    pub ended_so : r.ended ≡ ended_of (run_in x packet).how
    ended_so = h.ended_is ∙ ap ended_in answered

    pub value-so : r.r0 ≡ value_of (run_in x packet).how
    value-so = h.value_is ∙ ap value_in answered

    pub kept-so : is_kept (run_in x packet).how ≡ not (eqb r.r0 0)
    kept-so = kept_by (run_in x packet).how ∙ ap (λ (v : ℕ). not (eqb v 0)) (sym value-so)

    pub counts-so : counts' ≡ tallied (run_in x packet).ran counts
    counts-so = h.replayed.counts_are ∙ ap (λ (w : PacketRun). tallied (ran_in w) counts) ran-so

    pub copy-so : copy' ≡ over (run_in x packet).packet copy
    copy-so = h.replayed.copy_is ∙ ap (λ (w : PacketRun). over (copy_in w) copy) ran-so

  -- WHAT ANOTHER NUMBER SAYS: what is lent is as it was
  pub refused-so : r.number ≢ 0 → (r.ended ≡ 0) × (r.r0 ≡ 0) × (copy' ≡ copy) × (counts' ≡ counts)
  unfolding tallied
  refused-so z = by (packet_of x packet (length copy)) refl
    where
      by : (w : PacketRun) → packet_of x packet (length copy) ≡ w → (r.ended ≡ 0) × (r.r0 ≡ 0) × (copy' ≡ copy) × (counts' ≡ counts)
      by (no q) e = (
        h.ended_is ∙ ap ended_in (h.replayed.answer ∙ ap answer_of e),
        h.value_is ∙ ap value_in (h.replayed.answer ∙ ap answer_of e),
        h.replayed.copy_is ∙ ap (λ (w : PacketRun). over (copy_in w) copy) e,
        h.replayed.counts_are ∙ ap (λ (w : PacketRun). tallied (ran_in w) counts) e,
      )
      by (ran m) e = absurd (z (h.number_is ∙ ap number_in (h.replayed.answer ∙ ap answer_of e)))
