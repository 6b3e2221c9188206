-- What is reported of a capture: for every filter, page size, helper lists, table of counts and capture the packets, how the run of each ended
-- and how often each slot ran; or one refusal. The order: the translator's refusals, then 19, then 17, then 18, which comes with what was
-- counted before it.
use Rattle.std.specs.Prelude.{Bool, true, false, not, Option, Some, None, List, [], ◌∷◌, ◌++◌, map, ℕ, zero, suc, ◌+◌, ◌%◌, ◌^◌, eqb, length, get_or, set, drop}
use Rattle.base.specs.Pick.{pick}
use Rattle.ebpf.specs.declared.kind.Kind.TheVariants.{LdAbs, LdInd, LdDwImm, LdReg, StImm, StReg, Alu, Shift, Neg, MulDivMod, Mov, Le, Be, Ja, Jump, Call, Exit}
use Rattle.ebpf.specs.declared.kind.Lookup.{Lookup}
use Rattle.ebpf.specs.declared.kind.Lookup.TheVariants.{Known, Unimplemented, Unknown}
use Rattle.jit.specs.Translation as translation
use Rattle.jit.specs.Translation.{Filter, Inputs, Outcome, translation_of, slots_of, at}
use Rattle.pcap.specs.Capture.{Records, records_of, header_of, header_size}
use Rattle.pcap.specs.declared.Order.{Order}
use Rattle.replay.specs.declared.Ended.{Ended}
use Rattle.replay.specs.declared.Ended.TheVariants as ended
use Rattle.replay.specs.declared.Refusal.{Refusal}
use Rattle.replay.specs.declared.Refusal.TheVariants.{Translation, NotPcap, NotModelled}
use Rattle.replay.specs.declared.Totals.{Totals}
use Rattle.replay.specs.Run.{Run, run_of, kind_at}

-- THE FILTER. What is asked of the translator: standard mode, both flags off, so that r1 is the packet; of the tables only the counts are lent,
-- and they stand for all.
abbrev pub inputs_of : (program ids addresses : List ℕ) → (page counts : ℕ) → Inputs
inputs_of program ids addresses page counts =
    record {
      filter = record { program = program; mode = record { standard = true; compact = false }; ids = ids; addresses = addresses };
      flags = record { use_mbuff = false; update_data_ptr = false };
      page = page;
      locations = counts;
      fields = counts;
      targets = counts;
      kinds = counts;
      makers = counts;
    }

abbrev pub not_modelled : Lookup → Bool
not_modelled Unknown = false
not_modelled Unimplemented = false
not_modelled (Known (LdAbs z)) = true
not_modelled (Known (LdInd z)) = true
not_modelled (Known LdDwImm) = false
not_modelled (Known (LdReg z)) = false
not_modelled (Known (StImm z)) = false
not_modelled (Known (StReg z)) = false
not_modelled (Known (Alu o w s)) = false
not_modelled (Known (Shift o w s)) = false
not_modelled (Known (Neg w)) = false
not_modelled (Known (MulDivMod o w s)) = false
not_modelled (Known (Mov w s)) = false
not_modelled (Known Le) = false
not_modelled (Known Be) = false
not_modelled (Known Ja) = false
not_modelled (Known (Jump c w s)) = false
not_modelled (Known Call) = true
not_modelled (Known Exit) = false

-- a verdict: the filter is run, or why not
pub data Verdict : Type 0 where
  runs : Verdict
  refused : Refusal → Verdict

-- the first such slot, of n from one on
abbrev pub first_from : (program : List ℕ) → (n slot : ℕ) → Verdict
first_from program zero slot = runs
first_from program (suc n) slot = pick (not_modelled (kind_at program slot)) (refused (NotModelled (at slot))) (first_from program n (suc slot))

abbrev pub unless_refused : Outcome → Verdict → Verdict
unless_refused (translation.no r) v = refused (Translation r)
unless_refused (translation.yes c l f t) v = v

unfoldable pub verdict_of : Inputs → Verdict
verdict_of x = unless_refused (translation_of x) (first_from x.filter.program (slots_of x.filter.program) 0)

-- THE COUNTS. Of runs, how many ended so; and how often a slot was run.
abbrev pub how_many : (Ended → Bool) → List Run → ℕ
how_many t [] = 0
how_many t (r ∷ rs) = pick (t r.how) 1 0 + how_many t rs

-- kept is EXIT with r0 not 0
abbrev pub is_kept : Ended → Bool
is_kept (ended.Exit r0) = not (eqb r0 0)
is_kept ended.StepLimit = false
is_kept ended.Access = false
is_kept ended.NoSlot = false

abbrev pub is_dropped : Ended → Bool
is_dropped (ended.Exit r0) = eqb r0 0
is_dropped ended.StepLimit = false
is_dropped ended.Access = false
is_dropped ended.NoSlot = false

abbrev pub is_step_limit : Ended → Bool
is_step_limit (ended.Exit r0) = false
is_step_limit ended.StepLimit = true
is_step_limit ended.Access = false
is_step_limit ended.NoSlot = false

abbrev pub is_access : Ended → Bool
is_access (ended.Exit r0) = false
is_access ended.StepLimit = false
is_access ended.Access = true
is_access ended.NoSlot = false

abbrev pub is_no_slot : Ended → Bool
is_no_slot (ended.Exit r0) = false
is_no_slot ended.StepLimit = false
is_no_slot ended.Access = false
is_no_slot ended.NoSlot = true

abbrev pub times : (slot : ℕ) → (ran : List ℕ) → ℕ
times slot [] = 0
times slot (s ∷ ran) = pick (eqb s slot) 1 0 + times slot ran

abbrev pub slots_run : List Run → List ℕ
slots_run [] = []
slots_run (r ∷ rs) = r.ran ++ slots_run rs

-- What is said of the runs of packets: how many there were, how each ended, and every slot that was run, packet behind packet.
pub record Report : Type 0 where
  pub packets : ℕ
  pub kept : ℕ
  pub dropped : ℕ
  pub step_limit : ℕ
  pub access : ℕ
  pub no_slot : ℕ
  pub ran : List ℕ

abbrev pub report_of : List Run → Report
report_of rs =
    record {
      packets = length rs;
      kept = how_many is_kept rs;
      dropped = how_many is_dropped rs;
      step_limit = how_many is_step_limit rs;
      access = how_many is_access rs;
      no_slot = how_many is_no_slot rs;
      ran = slots_run rs;
    }

-- the runs of a filter over packets: no packet sees another
abbrev pub runs_of : (program : List ℕ) → (packets : List (List ℕ)) → List Run
runs_of program packets = map (run_of program) packets

-- WHAT IS ANSWERED: a report, or a report of what stands before a bad record (18), or a refusal.
pub data Replay : Type 0 where
  whole : Report → Replay
  cut : Report → Replay
  no : Refusal → Replay

abbrev pub unless_left : (rest : List ℕ) → Report → Replay
unless_left [] r = whole r
unless_left (b ∷ bs) r = cut r

abbrev pub of_records : (program : List ℕ) → Records → Replay
of_records program records = unless_left records.rest (report_of (runs_of program records.packets))

abbrev pub of_capture : (program capture : List ℕ) → Option Order → Replay
of_capture program capture None = no NotPcap
of_capture program capture (Some order) = of_records program (records_of order (drop header_size capture))

abbrev pub unless_not : Verdict → Replay → Replay
unless_not (refused r) p = no r
unless_not runs p = p

unfoldable pub replay_of : Inputs → (capture : List ℕ) → Replay
replay_of x capture = unless_not (verdict_of x) (of_capture x.filter.program capture (header_of capture))

-- HOW IT IS HANDED OVER: in 64 bits, added to what was counted before. Each slot that ran adds one to its entry.
abbrev pub plus : (a b : ℕ) → ℕ
plus a b = (a + b) % 2 ^ 64

unfoldable pub tallied : (ran : List ℕ) → (counts : List ℕ) → List ℕ
tallied [] counts = counts
tallied (s ∷ ran) counts = tallied ran (set counts s (plus (get_or counts s 0) 1))

abbrev pub added : Totals → Report → Totals
added t r =
    record {
      packets = plus t.packets r.packets;
      kept = plus t.kept r.kept;
      dropped = plus t.dropped r.dropped;
      step_limit = plus t.step_limit r.step_limit;
      access = plus t.access r.access;
      no_slot = plus t.no_slot r.no_slot;
    }
