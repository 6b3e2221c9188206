-- Worked reports: a small capture, whole and with a bad record behind it, what is handed over of it, and which refusal comes first. The filter
-- keeps the packets whose first byte is not 0.
use mathlib.Core.Path.{◌≡◌, refl, ap}
use mathlib.Core.List.{List, [], ◌∷◌, ◌++◌, map}
use Prim.Native.Nat.{ℕ, ◌-◌, ◌^◌}
use Rattle.ebpf.specs.Insn.{insn_at}
use Rattle.ebpf.specs.Opcode.{kind_of}
use Rattle.jit.specs.declared.Refusal as jit
use Rattle.jit.specs.Translation.{translation_of, sizes_of, slots_of}
use Rattle.pcap.specs.Capture.{header_of, record_of, records_from}
use Rattle.replay.specs.declared.Refusal.TheVariants.{Translation, NotPcap}
use Rattle.replay.specs.declared.Totals.{Totals}
use Rattle.replay.specs.Memory.{place_of}
use Rattle.replay.specs.Refusals.{number_of, slot_of}
use Rattle.replay.specs.Run.{is_second, kind_at, turn_at, run_from, run_of}
use Rattle.replay.specs.Report.{Report, report_of, runs_of, whole, cut, no, of_capture, replay_of, tallied, added}
use Rattle.replay.specs.Report.{inputs_of, Verdict, runs, refused, first_from, verdict_of}
use Rattle.replay.proofs.Worked.{slot, exit, load_byte}

abbrev pub filter : List ℕ
filter = load_byte 0x10 0 0

abbrev packets : List (List ℕ)
packets = (7 ∷ 8 ∷ []) ∷ [] ∷ (0 ∷ []) ∷ (9 ∷ []) ∷ []

abbrev pub report : Report
report =
    record {
      packets = 4;
      kept = 2;
      dropped = 1;
      step_limit = 0;
      access = 1;
      no_slot = 0;
      ran = 0 ∷ 1 ∷ 0 ∷ 0 ∷ 1 ∷ 0 ∷ 1 ∷ [];
    }

pub worked-report : report_of (runs_of filter packets) ≡ report
unfolding run_of run_from turn_at kind_at is_second insn_at kind_of place_of
worked-report = refl

-- THE CAPTURE: a header, and a record for each packet, by its length.
abbrev header : List ℕ
header = 0xd4 ∷ 0xc3 ∷ 0xb2 ∷ 0xa1 ∷ 2 ∷ 0 ∷ 4 ∷ 0 ∷ 0 ∷ 0 ∷ 0 ∷ 0 ∷ 0 ∷ 0 ∷ 0 ∷ 0 ∷ 0 ∷ 0 ∷ 4 ∷ 0 ∷ 1 ∷ 0 ∷ 0 ∷ 0 ∷ []

abbrev record_with : (length : ℕ) → List ℕ → List ℕ
record_with n s = 1 ∷ 2 ∷ 3 ∷ 4 ∷ 5 ∷ 6 ∷ 7 ∷ 8 ∷ n ∷ 0 ∷ 0 ∷ 0 ∷ 60 ∷ 0 ∷ 0 ∷ 0 ∷ s

-- .. and what is behind them
abbrev captured : List ℕ → List ℕ
captured rest = header ++ record_with 2 (7 ∷ 8 ∷ record_with 0 (record_with 1 (0 ∷ record_with 1 (9 ∷ rest))))

pub whole-capture : of_capture filter (captured []) (header_of (captured [])) ≡ whole report
unfolding header_of record_of records_from
whole-capture = ap whole worked-report

-- two bytes of a fifth packet, of which three were captured: 18, with what was counted before it
pub cut-capture : of_capture filter (captured (record_with 3 (1 ∷ 2 ∷ []))) (header_of (captured (record_with 3 (1 ∷ 2 ∷ [])))) ≡ cut report
unfolding header_of record_of records_from
cut-capture = ap cut worked-report

pub no_capture : of_capture filter [] (header_of []) ≡ no NotPcap
unfolding header_of
no_capture = refl

-- WHAT IS HANDED OVER. A slot's entry begins with what it had, and one of 2 ^ 64 - 1 begins anew; the entry behind the slots stays.
pub handed-over : tallied report.ran (100 ∷ (2 ^ 64 - 1) ∷ 5 ∷ []) ≡ 104 ∷ 2 ∷ 5 ∷ []
unfolding tallied
handed-over = refl

abbrev totals : (packets kept dropped step access slot : ℕ) → Totals
totals p k d s a n = record { packets = p; kept = k; dropped = d; step_limit = s; access = a; no_slot = n }

pub added-up : added (totals 10 (2 ^ 64 - 1) 30 40 50 60) report ≡ totals 14 1 31 40 51 60
added-up = refl

-- THE REFUSALS. LD_ABS, LD_IND and CALL are the first such slot; a second half is none.
abbrev told : Verdict → List ℕ
told runs = []
told (refused r) = number_of r ∷ slot_of r ∷ []

abbrev first : List ℕ → List ℕ
first program = told (first_from program (slots_of program) 0)

abbrev pub call : List ℕ
call = slot 0x85 0x00 0 0 1 0 0 0

pub worked-first : map first
    (filter
    ∷ (filter ++ slot 0x30 0x00 0 0 0 0 0 0)
    ∷ (slot 0x50 0x00 0 0 0 0 0 0 ++ call)
    ∷ (exit ++ call)
    ∷ (slot 0x18 0x00 0 0 0 0 0 0 ++ call)
    ∷ [])
    ≡ [] ∷ (19 ∷ 2 ∷ []) ∷ (19 ∷ 0 ∷ []) ∷ (19 ∷ 1 ∷ []) ∷ [] ∷ []
unfolding kind_of insn_at is_second kind_at
worked-first = refl

-- the translator's come first: a page of no byte, a table with too few entries
pub translator-first : (replay_of (inputs_of call [] [] 0 2) [] ≡ no (Translation jit.Refusal.PageTooShort))
    × (replay_of (inputs_of call [] [] 4096 1) [] ≡ no (Translation jit.Refusal.TableTooShort))
unfolding replay_of verdict_of translation_of sizes_of
translator-first = (refl, refl)
