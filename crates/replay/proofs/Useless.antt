-- Wrong runs: each is the definition with one part of it changed, and is refuted at a filter that shows it; `right` says that unchanged they are
-- the definition. An access that is not counted, a second half that is run, another limit, the limit tested too late.
use mathlib.Core.Path.{◌≡◌, refl, ap, ◌∙◌, sym}
use mathlib.Core.List.{List, [], ◌∷◌, ◌++◌}
use Prim.Native.Nat.{ℕ, zero, suc, ◌+◌, ◌*◌, ◌%◌, ◌^◌, ◌<◌}
use native.Mathlib.Omega.{arith}
use lib.Dec.{ltb}
use lib.ListN.{length, replicate, length-replicate}
use borrow.Author.Tests.{ne_eqb}
use Rattle.base.specs.Pick.{pick}
use Rattle.ebpf.specs.Insn.{insn_at, le4}
use Rattle.ebpf.specs.Opcode.{kind_of}
use Rattle.ebpf.specs.declared.kind.Lookup.{Lookup}
use Rattle.ebpf.specs.declared.kind.Lookup.TheVariants.{Unknown}
use Rattle.ebpf_meaning.specs.Values.{alu_value, met}
use Rattle.jit.specs.Translation.{slots_of}
use Rattle.replay.specs.declared.Ended.{Ended}
use Rattle.replay.specs.declared.Ended.TheVariants.{Exit, StepLimit, Access, NoSlot}
use Rattle.replay.specs.Memory.{State, packet_at, stack_at, stack_size, place_of}
use Rattle.replay.specs.Run.{step_limit, is_second, kind_in, kind_at, Turn, goes, ends, absent, turned, turn_at}
use Rattle.replay.specs.Run.{Run, ended_as, ran_too, onward, run_from, start_of, run_of}
use Rattle.replay.proofs.RunLaws.{goes_on, limit-first}
use Rattle.replay.proofs.Worked.{slot, exit, load_byte}

-- THE RUN, by what a slot does, by what a slot's turn makes of the run, and by what is said where no slot is left.
module _ (turn : List ℕ → ℕ → State → Turn) (on : ℕ → State → Turn → (ℕ → State → Run) → Run) (over : List ℕ → ℕ → State → Run) where
  unfoldable pub from_by : (left : ℕ) → (program : List ℕ) → (slot : ℕ) → State → Run
  from_by zero program slot s = over program slot s
  from_by (suc left) program slot s = on slot s (turn program slot s) (λ next t. from_by left program next t)

abbrev limited : List ℕ → ℕ → State → Run
limited program slot s = ended_as StepLimit s

onward-same : (slot : ℕ) (s : State) (t : Turn) (f g : ℕ → State → Run) → ((next : ℕ) (u : State) → f next u ≡ g next u)
    → onward slot s t f ≡ onward slot s t g
onward-same slot s (goes next u) f g h = ap (ran_too slot) (h next u)
onward-same slot s (ends e u) f g h = refl
onward-same slot s absent f g h = refl

pub right : (left : ℕ) (program : List ℕ) (slot : ℕ) (s : State) → run_from left program slot s ≡ from_by turn_at onward limited left program slot s
unfolding run_from from_by
right zero program slot s = refl
right (suc left) program slot s =
    onward-same slot s (turn_at program slot s) (λ next t. run_from left program next t) (λ next t. from_by turn_at onward limited left program next t)
    (λ next u. right left program next u)

-- as the definition, under the real limit
abbrev Runs : (ℕ → List ℕ → ℕ → State → Run) → Type 0
Runs run = (program packet : List ℕ) → run_of program packet ≡ run step_limit program 0 (start_of packet)

-- an access that stops the run is not counted
abbrev uncounted : ℕ → State → Turn → (ℕ → State → Run) → Run
uncounted slot s (goes next t) k = ran_too slot (k next t)
uncounted slot s (ends (Exit r0) t) k = ran_too slot (ended_as (Exit r0) t)
uncounted slot s (ends StepLimit t) k = ended_as StepLimit t
uncounted slot s (ends Access t) k = ended_as Access t
uncounted slot s (ends NoSlot t) k = ended_as NoSlot t
uncounted slot s absent k = ended_as NoSlot s

pub access-not-counted : Runs (from_by turn_at uncounted limited) → ⊥
unfolding run_of run_from from_by kind_of insn_at place_of is_second kind_at turn_at
access-not-counted f =
    let e = ap (λ (r : Run). length r.ran) (f (load_byte 0x10 0 0) []) in
    omega (arith, e)

-- a jump into a wide load's second half that goes on: what stands there is EXIT
abbrev any_kind : (program : List ℕ) → (slot : ℕ) → Lookup
any_kind program slot = pick (ltb slot (slots_of program)) (kind_in (ltb (slot + 1) (slots_of program)) (insn_at program slot)) Unknown

abbrev any_turn : (program : List ℕ) → (slot : ℕ) → State → Turn
any_turn program slot s = turned (any_kind program slot) (insn_at program slot) (le4 program (8 * slot + 12)) slot s

pub second-half-goes-on : Runs (from_by any_turn onward limited) → ⊥
unfolding run_of run_from from_by kind_of insn_at place_of is_second kind_at turn_at
second-half-goes-on f =
    let e =
    ap (λ (r : Run). r.how)
    (f (slot 0x05 0x00 1 0 0 0 0 0 ++ (slot 0x18 0x00 0 0 5 0 0 0 ++ (slot 0x95 0x00 0 0 6 0 0 0 ++ exit))) []) in
    let z : ◌≡◌ {A = ℕ} 0 1 = cc in
    omega arith

-- THE LIMIT. A filter that jumps to itself runs as many slots as there may be.
abbrev loop : List ℕ
loop = slot 0x05 0x00 0xff 0xff 0 0 0 0

loop-goes : (s : State) → turn_at loop 0 s ≡ goes 0 s
unfolding turn_at kind_at is_second insn_at kind_of
loop-goes s = refl

pub looping : (left : ℕ) (s : State) → run_from left loop 0 s ≡ record { how = StepLimit; ran = replicate left 0; packet = s.packet }
looping zero s = limit-first loop 0 s
looping (suc left) s = goes_on loop 0 s left (loop-goes s) ∙ ap (ran_too 0) (looping left s)

loop-length : (left : ℕ) (s : State) → length (run_from left loop 0 s).ran ≡ left
loop-length left s = ap (λ (r : Run). length r.ran) (looping left s) ∙ length-replicate {A = ℕ} left 0

abbrev pub Limit : ℕ → Type 0
Limit n = (program packet : List ℕ) → run_of program packet ≡ run_from n program 0 (start_of packet)

-- so that no other number will do
pub other-limit : (n : ℕ) → (n ≡ step_limit → ⊥) → Limit n → ⊥
unfolding run_of
other-limit n h f =
    let e = ap (λ (r : Run). length r.ran) (f loop []) in
    h (sym (loop-length n (start_of [])) ∙ sym e ∙ loop-length step_limit (start_of []))

pub one-slot-too-few : Limit 65535 → ⊥
one-slot-too-few = other-limit 65535 (λ e. omega (arith, e))

pub one-slot-too-many : Limit 65537 → ⊥
one-slot-too-many = other-limit 65537 (λ e. omega (arith, e))

-- TESTED TOO LATE. A filter of just so many slots: r3 is counted to 32,768, in two slots each, and behind that is a slot of some opcode, at which the
-- limit stops the run.
abbrev rounds : (opcode : ℕ) → List ℕ
rounds o = slot 0x07 0x03 0 0 1 0 0 0 ++ (slot 0x55 0x03 0xfe 0xff 0x00 0x80 0 0 ++ slot o 0x30 0 0 0 0 0 0)

abbrev counted : (k : ℕ) → State
counted k = record { regs = 0 ∷ packet_at ∷ 0 ∷ k ∷ 0 ∷ 0 ∷ 0 ∷ 0 ∷ 0 ∷ 0 ∷ (stack_at + stack_size) ∷ []; stack = replicate stack_size 0; packet = [] }

adds : (o k : ℕ) → k < 32768 → turn_at (rounds o) 0 (counted k) ≡ goes 1 (counted (k + 1))
unfolding turn_at kind_at is_second insn_at kind_of alu_value
adds o k h = let e : (k % 2 ^ 64 + 1) % 2 ^ 64 ≡ k + 1 = omega arith in ap (λ (n : ℕ). goes 1 (counted n)) e

goes_back : (o k : ℕ) → k < 32768 → turn_at (rounds o) 1 (counted k) ≡ goes 0 (counted k)
unfolding turn_at kind_at is_second insn_at kind_of met
goes_back o k h = rw (ne_eqb (k % 2 ^ 64) 32768 (λ e. omega (arith, e)))

module _ (over : List ℕ → ℕ → State → Run) (o : ℕ) where
  abbrev ends_as : (left k : ℕ) → Ended
  ends_as left k = (from_by turn_at onward over left (rounds o) 0 (counted k)).how

  goes_by : (left : ℕ) (program : List ℕ) (slot : ℕ) (s : State) {next : ℕ} {t : State} → turn_at program slot s ≡ goes next t
      → from_by turn_at onward over (suc left) program slot s ≡ ran_too slot (from_by turn_at onward over left program next t)
  unfolding from_by
  goes_by left program slot s e = rw e

  one-round : (left k : ℕ) → k + 1 < 32768 → ends_as (suc (suc left)) k ≡ ends_as left (k + 1)
  one-round left k h =
      ap (λ (r : Run). r.how)
      (goes_by (suc left) (rounds o) 0 (counted k) (adds o k (omega arith))
      ∙ ap (ran_too 0) (goes_by left (rounds o) 1 (counted (k + 1)) (goes_back o (k + 1) h)))

  many-rounds : (n left k : ℕ) → k + n < 32768 → ends_as (n + n + left) k ≡ ends_as left (k + n)
  many-rounds zero left k h =
      let a : 0 + 0 + left ≡ left = omega arith in
      let b : k + 0 ≡ k = omega arith in
      rw (a, b)
  many-rounds (suc n) left k h =
      let a : suc n + suc n + left ≡ suc (suc (n + n + left)) = omega arith in
      let b : k + suc n ≡ k + 1 + n = omega arith in
      rw (a, b) (one-round (n + n + left) k (omega arith) ∙ many-rounds n left (k + 1) (omega arith))

  -- the last slot that may be run is the second of the last round
  all-rounds : ends_as step_limit 0 ≡ (over (rounds o) 2 (counted 32768)).how
  unfolding from_by turn_at kind_at is_second insn_at kind_of alu_value met
  all-rounds = many-rounds 32767 2 0 (omega arith)

-- what is said at the limit, by the turn that the slot would have
module _ (said : State → Turn → Run) where
  abbrev late : List ℕ → ℕ → State → Run
  late program slot s = said s (turn_at program slot s)

  shown : (o : ℕ) → Runs (from_by turn_at onward late) → StepLimit ≡ (late (rounds o) 2 (counted 32768)).how
  unfolding run_of
  shown o f =
      sym (all-rounds limited o)
      ∙ ap (λ (r : Run). r.how) (sym (right step_limit (rounds o) 0 (start_of [])) ∙ f (rounds o) [])
      ∙ all-rounds late o

-- behind an access
abbrev access_first : State → Turn → Run
access_first s (goes next t) = ended_as StepLimit s
access_first s (ends (Exit r0) t) = ended_as StepLimit s
access_first s (ends StepLimit t) = ended_as StepLimit s
access_first s (ends Access t) = ended_as Access t
access_first s (ends NoSlot t) = ended_as StepLimit s
access_first s absent = ended_as StepLimit s

pub limit-behind-access : Runs (from_by turn_at onward (late access_first)) → ⊥
unfolding kind_of insn_at place_of is_second kind_at turn_at
limit-behind-access f =
    let e = shown access_first 0x71 f in
    let z : ◌≡◌ {A = ℕ} 0 1 = cc in
    omega arith

-- behind the test whether there is a slot to run: a wide load that is cut
abbrev slot_first : State → Turn → Run
slot_first s (goes next t) = ended_as StepLimit s
slot_first s (ends e t) = ended_as StepLimit s
slot_first s absent = ended_as NoSlot s

pub limit-behind-slot : Runs (from_by turn_at onward (late slot_first)) → ⊥
unfolding kind_of insn_at place_of is_second kind_at turn_at
limit-behind-slot f =
    let e = shown slot_first 0x18 f in
    let z : ◌≡◌ {A = ℕ} 0 1 = cc in
    omega arith
