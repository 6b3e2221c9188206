-- What a slot comes to, by the class of its code: how each arm of a step goes on from what it calls.
use Rattle.std.proofs.Common.{◌≡◌, ℕ, zero, suc, ◌+◌, ◌*◌, ◌/◌, ◌%◌, ◌^◌, ◌<◌, ◌≤◌, Bool, true, false, not, ◌&&◌, eqb, ltb, List, [], ◌∷◌, length, get_or, set, sym, refl, ap, ◌∙◌, subst, arith, lit<, ltb-true, eq-eqb, ne_eqb, eqb-true}
use Rattle.base.specs.Pick.{pick}
use Rattle.base.specs.declared.Width.TheVariants.{W32, W64}
use Rattle.ebpf.specs.Insn.{insn_at, le4}
use Rattle.ebpf.specs.Opcode.{kind_of, source_of, size_of, arithmetic, ld}
use Rattle.ebpf.specs.declared.insn.Insn.{Insn}
use Rattle.ebpf.specs.declared.kind.Kind.{Kind}
use Rattle.ebpf.specs.declared.kind.Kind.TheVariants.{LdAbs, LdInd, LdDwImm, LdReg, StImm, StReg, Alu, Shift, Neg, MulDivMod, Mov, Le, Be, Ja, Jump, Call, Exit}
use Rattle.ebpf.specs.declared.kind.Lookup.{Lookup}
use Rattle.ebpf.specs.declared.kind.Lookup.TheVariants.{Known, Unimplemented, Unknown}
use Rattle.ebpf_meaning.specs.Step.{dst_of, src_of}
use Rattle.ebpf_meaning.specs.Values.{immediate}
use Rattle.jit.specs.Translation.{slots_of, swap_bits}
use Rattle.replay.specs.Memory.{State}
use Rattle.replay.specs.declared.Ended as ended
use Rattle.replay.specs.Run.{Turn, goes, ends, absent, kind_at, kind_in, is_second, does, turn_at, turned}
use Rattle.replay_memory.specs.AtPlace.{is_inside, StoredIn}
use Rattle.replay_slots.specs.Codes.{code_of, code_at}
use Rattle.replay_step.specs.declared.step.Next.{Next}
use Rattle.replay_step.specs.declared.step.Next.TheVariants as next
use Rattle.replay_step.specs.declared.step.Work.{Work}
use Rattle.replay_step.specs.declared.step.Work.TheVariants as work
use Rattle.replay_step.specs.Classes.{value_by}
use Rattle.replay_step.specs.Steps.{Fetches, Ready, Stepped, state, turn_of, finished, went_to, place_by, regs_after, low_by, branch_by, branch_low_by}
use Rattle.replay_step.proofs.CodeLaws.{Asks, Behind, There, behind, there, kind-of, turn-of, one-kind, unknown}
use Rattle.replay_step.proofs.ClassLaws.{class-1, class-2, class-3, class-4, class-5, class-6, class-7}
use Rattle.replay_step.proofs.ClassLaws.{computes, computes-low, swaps, jumps-64, jumps-32, is-load, is-store-imm, is-store-reg}
use Rattle.replay_step.proofs.AccessLaws.{load-turn, store-turn}

-- A turn that goes on, or ends the run, is none at which there is nothing to run.
module _ (program : List ℕ) (slot : ℕ) (s s' : State) where
  pub went_on : {n : ℕ} → turn_at program slot s ≡ goes n s' → Stepped program slot s s' (next.Go n)
  went_on e = record { turn = e; same = λ q. let f = sym e ∙ q in let z : ◌≡◌ {A = ℕ} 0 1 = cc in absurd (omega arith) }

  pub exited : {r0 : ℕ} → turn_at program slot s ≡ ends (ended.Ended.Exit r0) s' → Stepped program slot s s' (next.Exit r0)
  exited e = record { turn = e; same = λ q. let f = sym e ∙ q in let z : ◌≡◌ {A = ℕ} 0 1 = cc in absurd (omega arith) }

  pub accessed : (code : ℕ) (i : Insn) (t : Bool) → turn_at program slot s ≡ turn_of (finished code i slot (went_to t slot)) s'
      → Stepped program slot s s' (finished code i slot (went_to t slot))
  accessed code i true e = went_on e
  accessed code i false e = record { turn = e; same = λ q. let f = sym e ∙ q in let z : ◌≡◌ {A = ℕ} 0 1 = cc in absurd (omega arith) }

pub nothing : (program : List ℕ) (slot : ℕ) (s : State) → turn_at program slot s ≡ absent → Stepped program slot s s next.Absent
nothing program slot s e = record { turn = e; same = λ q. refl }

module _ (program : List ℕ) (slot code : ℕ) (regs stack packet : List ℕ) (ready : Ready program slot code regs stack packet) where
  abbrev is : ¬ (code % 8 ≡ 0) → Behind program slot code
  is n = behind program slot code ready.code_is n

  pub fetches : ¬ (code % 8 ≡ 0) → Fetches program slot regs
  fetches n =
      let t = there program slot (is n).looked in
      record {
        there = omega (arith, t.inside);
        dst = omega (arith, t.dst, ready.eleven);
        src = omega (arith, t.src, ready.eleven);
      }

  -- a class that is not LD
  other : {c : ℕ} → code % 8 ≡ c → 0 < c → ¬ (code % 8 ≡ 0)
  other e h z = omega (arith, e, z, h)

  pub loads-turn : code % 8 ≡ 1
      → let place = place_by (size_of code) (insn_at program slot) (insn_at program slot).src regs packet in
      turn_at program slot (state regs stack packet)
      ≡ turn_of (finished code (insn_at program slot) slot (went_to (is_inside place) slot))
      (state (regs_after (size_of code) (insn_at program slot).dst regs stack packet place) stack packet)
  loads-turn e =
      let b = is (other e (lit< tt)) in
      let place = place_by (size_of code) (insn_at program slot) (insn_at program slot).src regs packet in
      turn-of program slot code b (state regs stack packet)
      ∙ rw (← (is-load code (class-1 code (kind-of program slot code b) e)))
      (load-turn (size_of code) code (insn_at program slot) slot regs stack packet (insn_at program slot).dst place)

  module _ {packet' stack' : List ℕ} {r : Bool} where
    pub store-imm-turn : code % 8 ≡ 2
        → StoredIn (size_of code) (immediate W64 (insn_at program slot).imm) packet packet' stack stack'
        (place_by (size_of code) (insn_at program slot) (insn_at program slot).dst regs packet) r
        → turn_at program slot (state regs stack packet) ≡ turn_of (finished code (insn_at program slot) slot (went_to r slot)) (state regs stack' packet')
    store-imm-turn e h =
        let b = is (other e (lit< tt)) in
        let place = place_by (size_of code) (insn_at program slot) (insn_at program slot).dst regs packet in
        turn-of program slot code b (state regs stack packet)
        ∙ rw (← (is-store-imm code (class-2 code (kind-of program slot code b) e)))
        (store-turn (size_of code) code (insn_at program slot) slot regs stack packet (immediate W64 (insn_at program slot).imm) place h)

    pub store-reg-turn : code % 8 ≡ 3
        → StoredIn (size_of code) (get_or regs (insn_at program slot).src 0) packet packet' stack stack'
        (place_by (size_of code) (insn_at program slot) (insn_at program slot).dst regs packet) r
        → turn_at program slot (state regs stack packet) ≡ turn_of (finished code (insn_at program slot) slot (went_to r slot)) (state regs stack' packet')
    store-reg-turn e h =
        let b = is (other e (lit< tt)) in
        let place = place_by (size_of code) (insn_at program slot) (insn_at program slot).dst regs packet in
        turn-of program slot code b (state regs stack packet)
        ∙ rw (← (is-store-reg code (class-3 code (kind-of program slot code b) e)))
        (store-turn (size_of code) code (insn_at program slot) slot regs stack packet (get_or regs (insn_at program slot).src 0) place h)

  -- classes ALU and ALU64
  pub low_turn : code % 8 ≡ 4
      → turn_at program slot (state regs stack packet)
      ≡ goes (slot + 1) (state (set regs (insn_at program slot).dst (low_by code (insn_at program slot) regs)) stack packet)
  low_turn e = turn-of program slot code b s ∙ by (eqb (code / 16) 13) refl
    where
      b : Behind program slot code
      b = is (other e (lit< tt))

      s : State
      s = state regs stack packet

      u : ℕ
      u = le4 program (8 * slot + 12)

      j : Insn
      j = insn_at program slot

      k : arithmetic W32 (pick (eqb (code / 8 % 2) 0) (Known Le) (Known Be)) code ≡ Known b.kind
      k = class-4 code (kind-of program slot code b) e

      by : (t : Bool) → eqb (code / 16) 13 ≡ t
          → does b.kind j u slot s ≡ goes (slot + 1) (state (set regs j.dst (low_by code j regs)) stack packet)
      by true q = rw q (swaps j u slot s code k (eqb-true (code / 16) 13 q))
      by false q =
          rw q
          (computes-low j u slot s (pick (eqb (code / 8 % 2) 0) (Known Le) (Known Be)) code k (borrow.Author.Tests.eqb-false (code / 16) 13 q))

  pub wide-turn : code % 8 ≡ 7
      → turn_at program slot (state regs stack packet)
      ≡ goes (slot + 1)
      (state
      (set regs (insn_at program slot).dst
      (value_by W64 (code / 16) (dst_of W64 (insn_at program slot) regs) (src_of W64 (source_of code) (insn_at program slot) regs)))
      stack packet)
  wide-turn e =
      let b = is (other e (lit< tt)) in
      turn-of program slot code b (state regs stack packet)
      ∙ computes (insn_at program slot) (le4 program (8 * slot + 12)) slot (state regs stack packet) W64 code
      (class-7 code (kind-of program slot code b) e)

  -- the width of a swap is one of the three
  pub swap-width : code % 8 ≡ 4 → code / 16 ≡ 13 → swap_bits (insn_at program slot).imm ≡ true
  swap-width e n = by (eqb (code / 8 % 2) 0) (rw n at (class-4 code (kind-of program slot code b) e))
    where
      b : Behind program slot code
      b = is (other e (lit< tt))

      asks : Asks (ltb (slot + 1) (slots_of program)) (insn_at program slot) b.kind
      asks = (there program slot b.looked).kept.asks

      by : (t : Bool) → pick t (Known Le) (Known Be) ≡ Known b.kind → swap_bits (insn_at program slot).imm ≡ true
      by true q = subst (λ (x : Kind). Asks (ltb (slot + 1) (slots_of program)) (insn_at program slot) x) (sym (one-kind q)) asks
      by false q = subst (λ (x : Kind). Asks (ltb (slot + 1) (slots_of program)) (insn_at program slot) x) (sym (one-kind q)) asks

  -- classes JMP and JMP32
  pub jump-turn : code % 8 ≡ 5
      → turn_at program slot (state regs stack packet)
      ≡ turn_of (finished code (insn_at program slot) slot (branch_by code (insn_at program slot) regs)) (state regs stack packet)
  jump-turn e =
      let b = is (other e (lit< tt)) in
      turn-of program slot code b (state regs stack packet)
      ∙ jumps-64 (insn_at program slot) (le4 program (8 * slot + 12)) slot (state regs stack packet) code e
      (class-5 code (kind-of program slot code b) e) b.as_code

  pub jump-low-turn : code % 8 ≡ 6 → (insn_at program slot).imm < 2 ^ 32
      → turn_at program slot (state regs stack packet)
      ≡ turn_of (finished code (insn_at program slot) slot (branch_low_by code (insn_at program slot) regs)) (state regs stack packet)
  jump-low-turn e h =
      let b = is (other e (lit< tt)) in
      turn-of program slot code b (state regs stack packet)
      ∙ jumps-32 (insn_at program slot) (le4 program (8 * slot + 12)) slot (state regs stack packet) code h
      (class-6 code (kind-of program slot code b) e) b.as_code

-- a slot that goes on is there
pub goes-inside : (program : List ℕ) (slot : ℕ) (s : State) {n : ℕ} {t : State} → turn_at program slot s ≡ goes n t → 8 * slot + 8 ≤ length program
unfolding turn_at kind_at
goes-inside program slot s {n} {t} e = by (ltb slot (slots_of program)) refl e
  where
    by : (b : Bool) → ltb slot (slots_of program) ≡ b
        → turned (pick (b && not (is_second program slot)) (kind_in (ltb (slot + 1) (slots_of program)) (insn_at program slot)) Unknown) (insn_at program slot)
        (le4 program (8 * slot + 12)) slot s ≡ goes n t
        → 8 * slot + 8 ≤ length program
    by true l q = omega (arith, ltb-true slot (slots_of program) l)
    by false l q = let z : ◌≡◌ {A = ℕ} 0 1 = cc in absurd (omega arith)
