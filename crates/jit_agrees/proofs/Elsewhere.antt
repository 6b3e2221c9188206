-- That code does not do what a slot says, shown by one run: from registers that are given, with inputs of which each is fair, it is computed, and
-- at each of its places what is amiss there (`trace`). Where something is amiss at every one, and the run ends, there is no `Leads`
-- (`elsewhere`), and so no `Does` (`refuted`). What was amiss where it ended is what refutes it (`blame`).
use mathlib.Core.Path.{◌≡◌, refl, ap, sym, ◌∙◌}
use mathlib.Core.Logic.{◌≢◌}
use mathlib.Core.Bool.{Bool, true, false, not, ◌&&◌, ◌||◌}
use mathlib.Core.List.{List, [], ◌∷◌}
use Prim.Native.Nat.{ℕ, zero, suc, ◌+◌, ◌≤◌}
use native.Mathlib.Omega.{arith}
use lib.Dec.{T, eqb, eqb→eq}
use lib.ListN.{length, get_or, drop}
use Rattle.base.specs.Pick.{pick}
use Rattle.base.proofs.Tests.{T_true, true-T, and_l, and_r, eqb-true}
use Rattle.ebpf.specs.declared.insn.Insn.{Insn}
use Rattle.ebpf.specs.declared.kind.Kind.{Kind}
use Rattle.ebpf_meaning.specs.Step.{Act, writes, branches, other, act, regs_behind, next_slot}
use Rattle.x86.specs.Registers.{RCX, RSP}
use Rattle.x86.specs.Instr.{Instr}
use Rattle.x86.specs.Decode.{Read, bad, got, decode}
use Rattle.x86.specs.Code.{size}
use Rattle.code.proofs.LandingLaws.{never}
use Rattle.jit.specs.Frame.{epilogue}
use Rattle.jit.specs.Slots.{reg_of}
use Rattle.x86_machine.specs.Machine.{Regs, Input, Frame, State, Outcome, running, finished, faulted, unbalanced, divided, astray, step}
use Rattle.x86_machine.proofs.WorkedRun.{input}
use Rattle.jit_agrees.specs.Runs.{use_of, left, Leads, there, onward}
use Rattle.jit_agrees.specs.Agrees.{Mapped, Unchanged, GoesTo, at_location, at_epilogue, Behind, may_be_empty, Does}
use Rattle.jit_agrees.proofs.Mapping.{unmapped, mapped-back}
use Rattle.jit_agrees.proofs.RunsLaws.{behaving, Chosen, chosen}
use Rattle.jit_agrees.proofs.Starts.{start_at, eleven_words, mapped-at-start}

unlike : (a b : ℕ) → T (not (eqb a b)) → a ≢ b
unlike a b t e = rw (eqb-true a b e) at t

-- what the statement asks where a run arrives: the parts of Behind, that all that was pushed is popped, and that a jump has run
pub data Part : Type 0 where
  registers stack others calls place popped ran : Part

abbrev unless : Bool → Part → List Part → List Part
unless b p l = pick b l (p ∷ l)

-- what is amiss at each place of a run, from its first on
pub data Trace : Type 0 where
  at : (amiss : List Part) → Trace → Trace
  ended unfinished : Trace

-- a run that comes to a place where nothing is amiss; and one that ends, and something was amiss all along it
abbrev pub arrived : Trace → Bool
arrived (at [] t) = true
arrived (at (p ∷ l) t) = arrived t
arrived ended = false
arrived unfinished = false

abbrev pub missed : Trace → Bool
missed (at [] t) = false
missed (at (p ∷ l) t) = missed t
missed ended = true
missed unfinished = false

-- what was amiss at the last place; all of it, if the run was not seen to end
abbrev pub blame : Trace → List Part
blame t = last everything t
  where
    everything : List Part
    everything = registers ∷ stack ∷ others ∷ calls ∷ place ∷ popped ∷ ran ∷ []

    last : List Part → Trace → List Part
    last l (at m t) = last m t
    last l ended = l
    last l unfinished = everything

abbrev empty : List ℕ → Bool
empty [] = true
empty (x ∷ l) = false

-- Any code, inputs that are chosen, and what is amiss at a state.
module _ (code : List ℕ) (choose : Instr ℕ → List ℕ → State → Input) (amiss : State → List Part) where
  abbrev lacking : (at_once : Bool) → (pushed : List ℕ) → State → List Part
  lacking b k s = unless b ran (unless (empty k) popped (amiss s))

  abbrev onwards : (List ℕ → State → Trace) → (pushed : List ℕ) → Outcome → Trace
  onwards go k (running t) = go k t
  onwards go k (finished t) = ended
  onwards go k faulted = ended
  onwards go k unbalanced = ended
  onwards go k divided = ended
  onwards go k astray = ended

  abbrev from : (List ℕ → State → Trace) → Read → (pushed : List ℕ) → State → Trace
  from go bad k s = ended
  from go (got i r) k s = onwards go (left (use_of i) s.regs k) (step code s (choose i k s))

  -- n places at most
  abbrev pub trace : (n : ℕ) → (at_once : Bool) → (pushed : List ℕ) → State → Trace
  trace zero b k s = unfinished
  trace (suc n) b k s = at (lacking b k s) (from (λ k t. trace n true k t) (decode (drop s.pos code)) k s)

  module _ (P : State → Type 0) (start : ℕ) (seen : (t : State) → P t → amiss t ≡ []) (fair : Chosen start choose) where
    pub elsewhere : (n : ℕ) {b : Bool} {k : List ℕ} {s : State} → Leads code P start b k s → missed (trace n b k s) ≡ true → ⊥
    elsewhere zero l h = never (sym h)
    elsewhere (suc n) {s = s} (there p) h = let q : false ≡ true = rw (seen s p) at h in never (sym q)
    elsewhere (suc n) {b} {k} {s} (onward i r e next a on) h =
        let u = choose i k s in
        let f = fair i k s in
        elsewhere n (on u f) (rw (e, a u f) at (later (lacking b k s) (from (λ k t. trace n true k t) (decode (drop s.pos code)) k s) h))
      where
        later : (l : List Part) (t : Trace) → missed (at l t) ≡ true → missed t ≡ true
        later [] t h = never (sym h)
        later (p ∷ l) t h = h

-- What is amiss of Behind.
abbrev alike : (n : ℕ) → List ℕ → Regs → Bool
alike zero r g = true
alike (suc n) r g = eqb (g (reg_of n)) (get_or r n 0) && alike n r g

alike-true : (n : ℕ) (r : List ℕ) (g : Regs) → n ≤ 11 → Mapped r g → alike n r g ≡ true
alike-true zero r g h m = refl
alike-true (suc n) r g h m = rw (eqb-true _ _ (m.each n (omega arith)), alike-true n r g (omega arith) m)

abbrev same_calls : List Frame → List Frame → Bool
same_calls [] [] = true
same_calls [] (h ∷ l) = false
same_calls (f ∷ k) [] = false
same_calls (f ∷ k) (h ∷ l) = eqb f.back h.back && (eqb f.sp h.sp && same_calls k l)

calls-true : (k : List Frame) → same_calls k k ≡ true
calls-true [] = refl
calls-true (f ∷ k) = rw (eqb-true f.back f.back refl, eqb-true f.sp f.sp refl, calls-true k)

-- registers below n that have none of r0 to r10, but for RCX and RSP
abbrev free : ℕ → Bool
free m = eqb (unmapped m) 11 && (not (eqb m RCX) && not (eqb m RSP))

abbrev same_others : (n : ℕ) → (g h : Regs) → Bool
same_others zero g h = true
same_others (suc n) g h = pick (free n) (eqb (h n) (g n)) true && same_others n g h

others-true : (n : ℕ) (s t : State) → Unchanged s t → same_others n s.regs t.regs ≡ true
others-true zero s t u = refl
others-true (suc n) s t u = rw (others-true n s t u) (by (free n) refl)
  where
    by : (b : Bool) → free n ≡ b → (pick b (eqb (t.regs n) (s.regs n)) true && true) ≡ true
    by false e = refl
    by true e =
        let parts = true-T (free n) e in
        let none : unmapped n ≡ 11 = eqb→eq _ _ (and_l (eqb (unmapped n) 11) (not (eqb n RCX) && not (eqb n RSP)) parts) in
        let neither = and_r (eqb (unmapped n) 11) (not (eqb n RCX) && not (eqb n RSP)) parts in
        let same : t.regs n ≡ s.regs n =
        u.others n (unlike n RCX (and_l (not (eqb n RCX)) (not (eqb n RSP)) neither)) (unlike n RSP (and_r (not (eqb n RCX)) (not (eqb n RSP)) neither))
        (λ k l q. let z : k ≡ 11 = sym (mapped-back k l) ∙ ap unmapped (sym q) ∙ none in omega arith) in
        rw (eqb-true _ _ same)

-- n is where the next slot begins, and p the place
abbrev goes_to : (code : List ℕ) → (n p : ℕ) → Bool
goes_to code n p = eqb p n || (eqb n 0 && eqb (p + size epilogue) (length code))

goes-true : (code : List ℕ) (n p : ℕ) → GoesTo code n p → goes_to code n p ≡ true
goes-true code n p (at_location e) = rw (eqb-true p n e)
goes-true code n p (at_epilogue z e) = by (eqb p n)
  where
    by : (b : Bool) → (b || (eqb n 0 && eqb (p + size epilogue) (length code))) ≡ true
    by true = refl
    by false = rw (eqb-true n 0 z, eqb-true (p + size epilogue) (length code) e)

module _ (code locs : List ℕ) (slot : ℕ) (i : Insn) (r : List ℕ) (a : Act) (s : State) where
  abbrev pub amiss_at : State → List Part
  amiss_at t =
      unless (alike 11 (regs_behind i r a) t.regs) registers (unless (eqb (t.regs RSP) (s.regs RSP)) stack
      (unless (same_others 16 s.regs t.regs) others (unless (same_calls t.calls s.calls) calls
      (unless (goes_to code (get_or locs (next_slot slot a) 0) t.pos) place []))))

  pub nothing-amiss : (t : State) → Behind code locs slot i r a s t → amiss_at t ≡ []
  nothing-amiss t b =
      let held = alike-true 11 (regs_behind i r a) t.regs (omega arith) b.registers in
      let level : t.regs RSP ≡ s.regs RSP = b.unchanged.stack in
      let free-ones = others-true 16 s t b.unchanged in
      let open-calls : t.calls ≡ s.calls = b.unchanged.calls in
      let come = goes-true code (get_or locs (next_slot slot a) 0) t.pos b.place in
      rw (held, eqb-true _ _ level, free-ones, open-calls, calls-true s.calls, come)

-- A slot that acts, from registers that are given.
abbrev pub acts : Act → Bool
acts (writes v) = true
acts (branches t x) = true
acts other = false

pub acts-other : (a : Act) → T (acts a) → a ≢ other
acts-other a t e = rw e at t

-- Inputs of which those are fair that have to be; whether memory allows any other access is to be said.
abbrev pub inputs : (start : ℕ) → (allowed : Bool) → Instr ℕ → List ℕ → State → Input
inputs start a = behaving start (λ s. input a 0)

pub inputs-fair : (start : ℕ) (allowed : Bool) → Chosen start (inputs start allowed)
inputs-fair start a = chosen start (λ s. input a 0)

-- more places than the runs have
abbrev longest : ℕ
longest = 40

module _ (code locs : List ℕ) (slot : ℕ) (k : Kind) (i : Insn) (r : List ℕ) (allowed : Bool) where
  abbrev pub begun : State
  begun = start_at (get_or locs slot 0) r

  abbrev begun_rsp : ℕ
  begun_rsp = begun.regs RSP

  abbrev pub traced : Trace
  traced =
      trace code (inputs begun_rsp allowed) (amiss_at code locs slot i r (act k i r) begun) longest (may_be_empty (act k i r)) [] begun

  pub not-led : T (missed traced) → Leads code (Behind code locs slot i r (act k i r) begun) begun_rsp (may_be_empty (act k i r)) [] begun → ⊥
  not-led t leads =
      elsewhere code (inputs begun_rsp allowed) (amiss_at code locs slot i r (act k i r) begun) (Behind code locs slot i r (act k i r) begun) begun_rsp
      (nothing-amiss code locs slot i r (act k i r) begun) (inputs-fair begun_rsp allowed) longest leads (T_true (missed traced) t)

  abbrev asked : Bool
  asked = eleven_words r && acts (act k i r)

  abbrev pub refutes : Bool
  refutes = asked && missed traced

  pub refuted : T refutes → Does code locs slot k i → ⊥
  refuted t does =
      let given = and_l asked (missed traced) t in
      let acting = acts-other (act k i r) (and_r (eleven_words r) (acts (act k i r)) given) in
      let mapped = mapped-at-start (get_or locs slot 0) r (and_l (eleven_words r) (acts (act k i r)) given) in
      not-led (and_r asked (missed traced) t) (does r begun acting mapped refl)
