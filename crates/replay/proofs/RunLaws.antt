-- The laws of specs/Run.antt. Where there is no slot to run (`behind-the-end`, `second-half`, `elsewhere`). A run by its first turn (`limit-first`,
-- `goes_on`, `ends_there`, `stops-there`). What a turn leaves of the state (`turn-leaves`). What holds of every run, turn by turn (`each-run`): it
-- runs slots of the program alone (`ran-below`), at most as many as are left (`at_most`), and all of them where the limit stops it (`limit-last`);
-- what it leaves of the packet is as long as the packet (`packet-length`); a higher limit changes no run that ends (`higher-limit`, `in-few`).
use mathlib.Core.Path.{◌≡◌, refl, ap, ◌∙◌, sym}
use mathlib.Core.Bool.{Bool, true, false, ◌&&◌}
use Rattle.std.specs.Prelude.{Option, Some, None}
use mathlib.Core.List.{List, [], ◌∷◌}
use Prim.Native.Nat.{ℕ, zero, suc, ◌+◌, ◌-◌, ◌≤◌, ◌<◌}
use native.Mathlib.Nat.{suc-add}
use native.Mathlib.Omega.{arith}
use lib.Dec.{ltb}
use lib.ListN.{length, get_or, length-set}
use lib.Seq.{length-sets}
use borrow.Author.Tests.{ltb-true, ltb-false, le-ltb}
use Rattle.base.specs.Bytes.{bytes_of}
use Rattle.base.specs.Pick.{pick}
use Rattle.base.specs.declared.Size.{Size}
use Rattle.ebpf.specs.Insn.{insn_at}
use Rattle.ebpf.specs.declared.insn.Insn.{Insn}
use Rattle.ebpf.specs.declared.kind.Kind.{Kind}
use Rattle.ebpf.specs.declared.kind.Kind.TheVariants.{LdAbs, LdInd, LdDwImm, LdReg, StImm, StReg, Ja, Jump, Call, Exit}
use Rattle.ebpf.specs.declared.kind.Kind.TheVariants.{Alu, Shift, Neg, MulDivMod, Mov, Le, Be}
use Rattle.ebpf.specs.declared.kind.Lookup.{Lookup}
use Rattle.ebpf.specs.declared.kind.Lookup.TheVariants.{Known, Unimplemented, Unknown}
use Rattle.ebpf_meaning.specs.Step.{Act, writes, branches, other, act, regs_behind}
use Rattle.jit.specs.Translation.{slots_of}
use Rattle.replay.specs.declared.Place.{Place}
use Rattle.replay.specs.declared.Place.TheVariants.{Packet, Stack}
use Rattle.replay.specs.declared.Ended.{Ended}
use Rattle.replay.specs.declared.Ended.TheVariants as ended
use Rattle.replay.specs.Memory.{State, size_bytes}
use Rattle.replay.specs.Run.{step_limit, is_second, kind_at, Turn, goes, ends, absent, loads, stores, acts, does, turned, turn_at, place_in}
use Rattle.replay.specs.Run.{Run, ended_as, ran_too, onward, run_from, start_of, run_of}

-- WHERE THERE IS NO SLOT: at n and behind it, and at a second half.
nowhere : (inside : Bool) (k : Lookup) → pick (inside && false) k Unknown ≡ Unknown
nowhere true k = refl
nowhere false k = refl

module _ (program : List ℕ) (slot : ℕ) where
  pub behind-the-end : slots_of program ≤ slot → kind_at program slot ≡ Unknown
  unfolding kind_at
  behind-the-end h = rw (le-ltb slot (slots_of program) h)

  pub second-half : is_second program slot ≡ true → kind_at program slot ≡ Unknown
  unfolding kind_at
  second-half e = rw e (nowhere (ltb slot (slots_of program)) _)

  module _ (s : State) where
    pub nothing-there : kind_at program slot ≡ Unknown → turn_at program slot s ≡ absent
    unfolding turn_at
    nothing-there e = rw e

    -- what has a turn is a slot of the program
    pub a-slot : (turn_at program slot s ≡ absent → ⊥) → slot < slots_of program
    a-slot f = by (ltb slot (slots_of program)) refl
      where
        by : (t : Bool) → ltb slot (slots_of program) ≡ t → slot < slots_of program
        by true e = ltb-true slot (slots_of program) e
        by false e = absurd (f (nothing-there (behind-the-end (ltb-false slot (slots_of program) e))))

    -- A RUN BY ITS FIRST TURN.
    pub limit-first : run_from 0 program slot s ≡ ended_as ended.StepLimit s
    unfolding run_from
    limit-first = refl

    module _ (left : ℕ) where
      pub goes_on : {next : ℕ} {t : State} → turn_at program slot s ≡ goes next t
          → run_from (suc left) program slot s ≡ ran_too slot (run_from left program next t)
      unfolding run_from
      goes_on e = rw e

      pub ends_there : {q : Ended} {t : State} → turn_at program slot s ≡ ends q t → run_from (suc left) program slot s ≡ ran_too slot (ended_as q t)
      unfolding run_from
      ends_there e = rw e

      pub stops-there : turn_at program slot s ≡ absent → run_from (suc left) program slot s ≡ ended_as ended.NoSlot s
      unfolding run_from
      stops-there e = rw e

-- two slots at which nothing is give the same run
pub elsewhere : (program : List ℕ) (slot another : ℕ) (s : State) → slots_of program ≤ slot → slots_of program ≤ another
    → (left : ℕ) → run_from left program slot s ≡ run_from left program another s
elsewhere program slot another s h k zero = limit-first program slot s ∙ sym (limit-first program another s)
elsewhere program slot another s h k (suc left) =
    stops-there program slot s left (nothing-there program slot s (behind-the-end program slot h))
    ∙ sym (stops-there program another s left (nothing-there program another s (behind-the-end program another k)))

-- WHAT A TURN LEAVES: the registers, the stack and the packet as long as they were; and an end leaves all as it was.
pub record Lengths (s t : State) : Type 0 where
  pub registers : length t.regs ≡ length s.regs
  pub stack-bytes : length t.stack ≡ length s.stack
  pub packet-bytes : length t.packet ≡ length s.packet

-- a slot ends a run by EXIT, with what r0 then is, or by an access
abbrev pub EndsBy : State → Ended → Type 0
EndsBy s (ended.Exit r0) = r0 ≡ get_or s.regs 0 0
EndsBy s ended.StepLimit = ⊥
EndsBy s ended.Access = Unit {0}
EndsBy s ended.NoSlot = ⊥

abbrev pub Leaves : State → Turn → Type 0
Leaves s (goes next t) = Lengths s t
Leaves s (ends e t) = EndsBy s e × (t ≡ s)
Leaves s absent = Unit {0}

module _ (s : State) where
  loads-leaves : (z : Size) (dst slot : ℕ) (p : Option Place) → Leaves s (loads z dst slot p s)
  loads-leaves z dst slot (Some (Packet at)) = record { registers = simp length-set; stack-bytes = refl; packet-bytes = refl }
  loads-leaves z dst slot (Some (Stack at)) = record { registers = simp length-set; stack-bytes = refl; packet-bytes = refl }
  loads-leaves z dst slot None = (tt, refl)

  stores-leaves : (z : Size) (value slot : ℕ) (p : Option Place) → Leaves s (stores z value slot p s)
  stores-leaves z value slot (Some (Packet at)) =
      record { registers = refl; stack-bytes = refl; packet-bytes = length-sets s.packet at (bytes_of (size_bytes z) value) }
  stores-leaves z value slot (Some (Stack at)) =
      record { registers = refl; stack-bytes = length-sets s.stack at (bytes_of (size_bytes z) value); packet-bytes = refl }
  stores-leaves z value slot None = (tt, refl)

  behind-length : (i : Insn) (r : List ℕ) (a : Act) → length (regs_behind i r a) ≡ length r
  behind-length i r (writes v) = length-set r i.dst v
  behind-length i r (branches t x) = refl
  behind-length i r other = refl

  acts-leaves : (k : Kind) (i : Insn) (slot : ℕ) → Leaves s (acts k i slot s)
  acts-leaves k i slot = record { registers = behind-length i s.regs (act k i s.regs); stack-bytes = refl; packet-bytes = refl }

  module _ (i : Insn) (upper slot : ℕ) where
    does-leaves : (k : Kind) → Leaves s (does k i upper slot s)
    does-leaves (LdAbs z) = tt
    does-leaves (LdInd z) = tt
    does-leaves LdDwImm = record { registers = simp length-set; stack-bytes = refl; packet-bytes = refl }
    does-leaves (LdReg z) = loads-leaves z i.dst slot (place_in s z i.src i.off)
    does-leaves (StImm z) = stores-leaves z _ slot (place_in s z i.dst i.off)
    does-leaves (StReg z) = stores-leaves z (get_or s.regs i.src 0) slot (place_in s z i.dst i.off)
    does-leaves (Alu o w x) = acts-leaves (Alu o w x) i slot
    does-leaves (Shift o w x) = acts-leaves (Shift o w x) i slot
    does-leaves (Neg w) = acts-leaves (Neg w) i slot
    does-leaves (MulDivMod o w x) = acts-leaves (MulDivMod o w x) i slot
    does-leaves (Mov w x) = acts-leaves (Mov w x) i slot
    does-leaves Le = acts-leaves Le i slot
    does-leaves Be = acts-leaves Be i slot
    does-leaves Ja = acts-leaves Ja i slot
    does-leaves (Jump c w x) = acts-leaves (Jump c w x) i slot
    does-leaves Call = tt
    does-leaves Exit = (refl, refl)

    turned-leaves : (k : Lookup) → Leaves s (turned k i upper slot s)
    turned-leaves Unknown = tt
    turned-leaves Unimplemented = tt
    turned-leaves (Known k) = does-leaves k

pub turn-leaves : (program : List ℕ) (slot : ℕ) (s : State) → Leaves s (turn_at program slot s)
unfolding turn_at
turn-leaves program slot s = turned-leaves s (insn_at program slot) _ slot (kind_at program slot)

-- WHAT HOLDS OF EVERY RUN: of one that the limit stops, of one with nothing to run, of a last slot, and of a slot that goes on if it holds of the run
-- from there.
module _ (program : List ℕ) (P : (left slot : ℕ) → State → Run → Type 0)
    (limit : (slot : ℕ) (s : State) → P 0 slot s (ended_as ended.StepLimit s))
    (none : (left slot : ℕ) (s : State) → turn_at program slot s ≡ absent → P (suc left) slot s (ended_as ended.NoSlot s))
    (last : (left slot : ℕ) (s : State) (q : Ended) (t : State) → turn_at program slot s ≡ ends q t → P (suc left) slot s (ran_too slot (ended_as q t)))
    (more :
    (left slot : ℕ) (s : State) (next : ℕ) (t : State) (r : Run) → turn_at program slot s ≡ goes next t → P left next t r
    → P (suc left) slot s (ran_too slot r)) where
  by_turn : (left slot : ℕ) (s : State) (turn : Turn) → turn_at program slot s ≡ turn
      → (k : ℕ → State → Run) → ((next : ℕ) (t : State) → P left next t (k next t)) → P (suc left) slot s (onward slot s turn k)
  by_turn left slot s (goes next t) e k h = more left slot s next t (k next t) e (h next t)
  by_turn left slot s (ends q t) e k h = last left slot s q t e
  by_turn left slot s absent e k h = none left slot s e

  pub each-run : (left slot : ℕ) (s : State) → P left slot s (run_from left program slot s)
  unfolding run_from
  each-run zero slot s = limit slot s
  each-run (suc left) slot s =
      by_turn left slot s (turn_at program slot s) refl (λ next t. run_from left program next t) (λ next t. each-run left next t)

-- each of the slots is below n
abbrev pub Below : (n : ℕ) → List ℕ → Type 0
Below n [] = Unit {0}
Below n (s ∷ ran) = (s < n) × Below n ran

module _ (program : List ℕ) where
  pub ran-below : (left slot : ℕ) (s : State) → Below (slots_of program) (run_from left program slot s).ran
  ran-below =
      each-run program (λ left slot s r. Below (slots_of program) r.ran) (λ slot s. tt) (λ left slot s e. tt)
      (λ left slot s q t e. (a-slot program slot s (λ f. let z : ◌≡◌ {A = ℕ} 0 1 = cc in omega arith), tt))
      (λ left slot s next t r e h. (a-slot program slot s (λ f. let z : ◌≡◌ {A = ℕ} 0 1 = cc in omega arith), h))

  pub at_most : (left slot : ℕ) (s : State) → length (run_from left program slot s).ran ≤ left
  at_most =
      each-run program (λ left slot s r. length r.ran ≤ left) (λ slot s. omega arith) (λ left slot s e. omega arith)
      (λ left slot s q t e. omega arith) (λ left slot s next t r e h. omega arith)

  -- the limit stops a run when all slots that were left have been run, and not earlier
  pub limit-last : (left slot : ℕ) (s : State) → (run_from left program slot s).how ≡ ended.StepLimit → length (run_from left program slot s).ran ≡ left
  limit-last =
      each-run program (λ left slot s r. r.how ≡ ended.StepLimit → length r.ran ≡ left) (λ slot s h. refl)
      (λ left slot s e h. let z : ◌≡◌ {A = ℕ} 0 1 = cc in absurd (omega arith))
      (λ left slot s q t e h. absurd (rw h at (rw e at (turn-leaves program slot s)).0))
      (λ left slot s next t r e f h. ap suc (f h))

  pub packet-length : (left slot : ℕ) (s : State) → length (run_from left program slot s).packet ≡ length s.packet
  packet-length =
      each-run program (λ left slot s r. length r.packet ≡ length s.packet) (λ slot s. refl) (λ left slot s e. refl)
      (λ left slot s q t e. ap (λ (u : State). length u.packet) (rw e at (turn-leaves program slot s)).1)
      (λ left slot s next t r e h. h ∙ (rw e at (turn-leaves program slot s)).packet-bytes)

  -- a run that the limit does not stop is the same under a higher one
  pub higher-limit : (k left slot : ℕ) (s : State) → ((run_from left program slot s).how ≡ ended.StepLimit → ⊥)
      → run_from (left + k) program slot s ≡ run_from left program slot s
  higher-limit k =
      each-run program (λ left slot s r. (r.how ≡ ended.StepLimit → ⊥) → run_from (left + k) program slot s ≡ r) (λ slot s h. absurd (h refl))
      (λ left slot s e h. rw (suc-add left k) (stops-there program slot s (left + k) e))
      (λ left slot s q t e h. rw (suc-add left k) (ends_there program slot s (left + k) e))
      (λ left slot s next t r e f h. rw (suc-add left k) (goes_on program slot s (left + k) e ∙ ap (ran_too slot) (f h)))

  -- so a run that some lower limit does not stop is the one under the real limit
  pub in-few : (left slot : ℕ) (s : State) → left ≤ step_limit → ((run_from left program slot s).how ≡ ended.StepLimit → ⊥)
      → run_from step_limit program slot s ≡ run_from left program slot s
  in-few left slot s l h =
      let same : left + (step_limit - left) ≡ step_limit = omega arith in
      rw same at (higher-limit (step_limit - left) left slot s h)

  -- THE SAME OF A PACKET'S RUN.
  module _ (packet : List ℕ) where
    pub run-below : Below (slots_of program) (run_of program packet).ran
    unfolding run_of
    run-below = ran-below step_limit 0 (start_of packet)

    pub run-at-most : length (run_of program packet).ran ≤ step_limit
    unfolding run_of
    run-at-most = at_most step_limit 0 (start_of packet)

    pub run-limit-last : (run_of program packet).how ≡ ended.StepLimit → length (run_of program packet).ran ≡ step_limit
    unfolding run_of
    run-limit-last = limit-last step_limit 0 (start_of packet)

    pub run-packet-length : length (run_of program packet).packet ≡ length packet
    unfolding run_of
    run-packet-length = packet-length step_limit 0 (start_of packet)

    pub run-in-few : (left : ℕ) → left ≤ step_limit → ((run_from left program 0 (start_of packet)).how ≡ ended.StepLimit → ⊥)
        → run_of program packet ≡ run_from left program 0 (start_of packet)
    unfolding run_of
    run-in-few left l h = in-few left 0 (start_of packet) l h
