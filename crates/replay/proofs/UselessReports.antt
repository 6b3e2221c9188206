-- Wrong reports: each is the definition with one part of it changed, and is refuted at packets that show it; `right-start` and `right-report` say
-- that unchanged they are the definition. What a packet's run starts with, what it finds of another's, how it is counted, and 18 without the counts.
use mathlib.Core.Path.{◌≡◌, refl, ap}
use mathlib.Core.Bool.{Bool, false, not}
use mathlib.Core.List.{List, [], ◌∷◌, ◌++◌}
use Prim.Native.Nat.{ℕ, zero, suc, ◌+◌, ◌%◌, ◌^◌}
use native.Mathlib.Omega.{arith}
use lib.Dec.{eqb}
use lib.ListN.{length, replicate, length-replicate}
use Rattle.ebpf.specs.Insn.{insn_at}
use Rattle.ebpf.specs.Opcode.{kind_of}
use Rattle.pcap.specs.Capture.{Records}
use Rattle.replay.specs.declared.Ended.{Ended}
use Rattle.replay.specs.declared.Ended.TheVariants.{Exit, StepLimit, Access, NoSlot}
use Rattle.replay.specs.declared.Refusal.TheVariants.{BadRecord}
use Rattle.replay.specs.Memory.{State, packet_at, stack_at, stack_size, place_of}
use Rattle.replay.specs.Run.{step_limit, is_second, kind_at, Turn, goes, ends, absent, turn_at}
use Rattle.replay.specs.Run.{Run, run_from, start_of, run_of}
use Rattle.replay.specs.Report.{how_many, is_kept, is_dropped, is_step_limit, is_access, is_no_slot, slots_run, Report, report_of, runs_of}
use Rattle.replay.specs.Report.{Replay, whole, cut, no, of_records}
use Rattle.replay.proofs.Worked.{slot, exit, load_byte}

-- THE START, by what r2 and r10 are and what the stack holds.
abbrev start_by : (r2 r10 : ℕ) → (stack packet : List ℕ) → State
start_by r2 r10 stack packet =
    record { regs = 0 ∷ packet_at ∷ r2 ∷ 0 ∷ 0 ∷ 0 ∷ 0 ∷ 0 ∷ 0 ∷ 0 ∷ r10 ∷ []; stack = stack; packet = packet }

abbrev zeros : List ℕ
zeros = replicate stack_size 0

pub right-start : (packet : List ℕ) → start_of packet ≡ start_by (length packet) (stack_at + stack_size) zeros packet
right-start packet = refl

abbrev pub Starts : (List ℕ → State) → Type 0
Starts start = (program packet : List ℕ) → run_of program packet ≡ run_from step_limit program 0 (start packet)

-- the stack above r10 and not below it: the byte at r10 - 1
pub stack-at-the-wrong-end : Starts (λ packet. start_by (length packet) stack_at zeros packet) → ⊥
unfolding run_of run_from kind_of insn_at place_of is_second kind_at turn_at
stack-at-the-wrong-end f =
    let e = ap (λ (r : Run). r.how) (f (load_byte 0xa0 0xff 0xff) []) in
    let z : ◌≡◌ {A = ℕ} 0 1 = cc in
    omega arith

-- r2 is the captured length, and so not the packet's own: of 60 bytes three were captured
pub length-is-captured : (own : List ℕ → ℕ) → Starts (λ packet. start_by (own packet) (stack_at + stack_size) zeros packet)
    → (packet : List ℕ) → length packet % 2 ^ 64 ≡ own packet % 2 ^ 64
unfolding run_of run_from kind_of insn_at place_of is_second kind_at turn_at
length-is-captured own f packet =
    let e = ap (λ (r : Run). r.how) (f (slot 0xbf 0x20 0 0 0 0 0 0 ++ exit) packet) in
    cc

pub own-length : (own : List ℕ → ℕ) → own (7 ∷ 8 ∷ 9 ∷ []) ≡ 60
    → Starts (λ packet. start_by (own packet) (stack_at + stack_size) zeros packet) → ⊥
own-length own h f = omega (arith, h, length-is-captured own f (7 ∷ 8 ∷ 9 ∷ []))

-- THE STACK NOT CLEARED between packets: what a run leaves of it, and runs that go on with that.
abbrev start_on : (stack packet : List ℕ) → State
start_on stack packet = start_by (length packet) (stack_at + stack_size) stack packet

abbrev stack_behind : State → Turn → (ℕ → State → List ℕ) → List ℕ
stack_behind s (goes next t) k = k next t
stack_behind s (ends e t) k = t.stack
stack_behind s absent k = s.stack

unfoldable pub stack_from : (left : ℕ) → (program : List ℕ) → (slot : ℕ) → State → List ℕ
stack_from zero program slot s = s.stack
stack_from (suc left) program slot s = stack_behind s (turn_at program slot s) (λ next t. stack_from left program next t)

abbrev pub carried : (program stack : List ℕ) → (packets : List (List ℕ)) → List Run
carried program stack [] = []
carried program stack (p ∷ ps) =
    let s = start_on stack p in
    run_from step_limit program 0 s ∷ carried program (stack_from step_limit program 0 s) ps

-- a filter that keeps what stands at r10 - 1 and puts 1 there: it drops every packet, and would keep the second
abbrev marks : List ℕ
marks = slot 0x71 0xa0 0xff 0xff 0 0 0 0 ++ (slot 0x72 0x0a 0xff 0xff 1 0 0 0 ++ exit)

pub stack-carried-over : ((program : List ℕ) (packets : List (List ℕ)) → runs_of program packets ≡ carried program zeros packets) → ⊥
unfolding run_of run_from stack_from kind_of insn_at place_of is_second kind_at turn_at
stack-carried-over f =
    let e = ap (how_many is_kept) (f marks ([] ∷ [] ∷ [])) in
    omega (arith, e)

abbrev ones : List ℕ
ones = replicate stack_size 1

pub stack-as-it-was : ((stack : List ℕ) → length stack ≡ stack_size → Starts (start_on stack)) → ⊥
unfolding run_of run_from kind_of insn_at place_of is_second kind_at turn_at
stack-as-it-was f =
    let e = ap (λ (r : Run). r.how) (f ones (length-replicate {A = ℕ} stack_size 1) marks []) in
    let z : ◌≡◌ {A = ℕ} 0 1 = cc in
    omega arith

-- THE REPORT, by what is kept and what is dropped.
abbrev report_by : (kept dropped : Ended → Bool) → List Run → Report
report_by kept dropped rs =
    record {
      packets = length rs;
      kept = how_many kept rs;
      dropped = how_many dropped rs;
      step_limit = how_many is_step_limit rs;
      access = how_many is_access rs;
      no_slot = how_many is_no_slot rs;
      ran = slots_run rs;
    }

pub right-report : (rs : List Run) → report_of rs ≡ report_by is_kept is_dropped rs
right-report rs = refl

abbrev one : Ended → List Run
one e = record { how = e; ran = []; packet = [] } ∷ []

-- a packet whose run was stopped is counted as dropped; the packets where r0 is 1 alone are kept
pub stopped-as-dropped : ((rs : List Run) → report_of rs ≡ report_by is_kept (λ e. not (is_kept e)) rs) → ⊥
stopped-as-dropped f = omega (arith, ap (λ (r : Report). r.dropped) (f (one Access)))

abbrev is_one : Ended → Bool
is_one (Exit r0) = eqb r0 1
is_one StepLimit = false
is_one Access = false
is_one NoSlot = false

pub only-one-is-kept : ((rs : List Run) → report_of rs ≡ report_by is_one is_dropped rs) → ⊥
only-one-is-kept f = omega (arith, ap (λ (r : Report). r.kept) (f (one (Exit 2))))

-- 18 THAT FORGETS THE COUNTS: a report of no packet, or the refusal alone; a packet was read before the bad record.
abbrev forgets : (rest : List ℕ) → (all none : Replay) → Replay
forgets [] all none = all
forgets (b ∷ rest) all none = none

abbrev Answers : Replay → Type 0
Answers none = (program : List ℕ) (records : Records)
    → of_records program records ≡ forgets records.rest (whole (report_of (runs_of program records.packets))) none

abbrev behind_one : Records
behind_one = record { packets = [] ∷ []; rest = 1 ∷ [] }

pub counts-forgotten : Answers (cut (report_of [])) → ⊥
counts-forgotten f =
    let e : cut (report_of (runs_of exit ([] ∷ []))) ≡ cut (report_of []) = f exit behind_one in
    let q : report_of (runs_of exit ([] ∷ [])) ≡ report_of [] = cc in
    omega (arith, ap (λ (r : Report). r.packets) q)

pub only-refused : Answers (no BadRecord) → ⊥
only-refused f =
    let e : cut (report_of (runs_of exit ([] ∷ []))) ≡ no BadRecord = f exit behind_one in
    let z : ◌≡◌ {A = ℕ} 0 1 = cc in
    omega arith
