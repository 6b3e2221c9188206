-- Proved: the code of every page that is accepted in standard mode, compact or not, does what its slots say (specs/Agrees.antt); and so it does
-- slot after slot (specs/Follows.antt).
use Rattle.std.proofs.Common.{Some, None}
use mathlib.Core.Path.{◌≡◌, refl, ap, sym, ◌∙◌, subst}
use mathlib.Core.Logic.{◌≢◌}
use mathlib.Core.Bool.{Bool, true, false}
use mathlib.Core.List.{List, []}
use Prim.Native.Nat.{ℕ, zero, suc, ◌+◌, ◌*◌, ◌^◌, ◌<◌, ◌≤◌}
use native.Mathlib.Omega.{arith}
use lib.Dec.{leb, ltb, leb→le}
use lib.ListN.{length, get_or, get_or-eq_default}
use Rattle.base.specs.Pick.{pick}
use Rattle.base.proofs.Tests.{true-T, and_l, and_r, leb_no}
use Rattle.ebpf.specs.Insn.{insn_at, read_at}
use Rattle.ebpf.specs.Opcode.{kind_of}
use Rattle.ebpf.specs.declared.insn.Insn.{Insn}
use Rattle.ebpf.specs.declared.kind.Kind.{Kind}
use Rattle.ebpf.specs.declared.kind.Kind.TheVariants.{Le}
use Rattle.ebpf.specs.declared.kind.Lookup.TheVariants.{Known}
use Rattle.ebpf_meaning.specs.Step.{other, act, regs_behind, next_slot}
use Rattle.x86.specs.Registers.{RSP}
use Rattle.x86.specs.Encode.{isa}
use Rattle.x86.specs.Code.{size}
use Rattle.x86.specs.Lowered.{code_of}
use Rattle.code.proofs.LandingLaws.{never}
use Rattle.code.proofs.PageLaws as pages
use Rattle.code.proofs.PageLaws.{Start, first, start, found}
use Rattle.jit.specs.Limits.{most_slots}
use Rattle.jit.specs.Frame.{prologue}
use Rattle.jit.specs.Passes.{exit_of}
use Rattle.jit.specs.Translation.{Inputs, slots_of, slots_in, Block, wide_kind, block_of, go, step_at, whole, locations, place_of, yes, translation_of}
use Rattle.jit.specs.MulDivMod.{Code}
use Rattle.jit.specs.Modes.{named}
use Rattle.jit.proofs.ModesLaws.{modes}
use Rattle.jit.proofs.Bounds.{Bound, bounds}
use Rattle.jit.specs.declared.Mode.{Mode}
use Rattle.jit_safety.specs.Demand3.{Given}
use Rattle.jit_safety.proofs.Program.{Parts, parts, OriginsIn, origins-of, origin-at, imm_lt}
use Rattle.jit_safety.proofs.PageLayout.{page-wf}
use Rattle.x86_machine.specs.Machine.{State}
use Rattle.jit_agrees.specs.Runs.{Leads}
use Rattle.jit_agrees.specs.Agrees.{Mapped, at_location, Behind, may_be_empty, Does, Agrees}
use Rattle.jit_agrees.specs.Follows.{AtSlot, Follows, FollowsAll}
use Rattle.jit_agrees.proofs.RunsLaws.{leads-on}
use Rattle.jit_agrees.proofs.AgreesLaws.{goes-to-start, unchanged-here, unchanged-then}
use Rattle.jit_agrees.proofs.Slots.{standard_with}
use Rattle.jit_agrees.proofs.Gave.{Gave, gave, le-fine, be-fine}
use Rattle.jit_agrees.proofs.OnPage.{narrow, does}

-- the slot's immediate has 32 bits
imm-small : (x : Inputs) → Given x → (slot : ℕ) (i : Insn) → read_at x.filter.program slot ≡ Some i → i.imm < 2 ^ 32
unfolding read_at
imm-small x given slot i e = by (ltb (length x.filter.program) (8 * slot + 8)) e
  where
    by : (t : Bool) → pick t None (Some (insn_at x.filter.program slot)) ≡ Some i → i.imm < 2 ^ 32
    by true e = let z : ◌≡◌ {A = ℕ} 0 1 = cc in absurd (omega arith)
    by false e = let same : insn_at x.filter.program slot ≡ i = cc in subst (λ (i : Insn). i.imm < 2 ^ 32) same (imm_lt x given slot)

-- A slot that has standard mode's code: LE has it there alone.
pub record Standard (m : Mode) (slot : ℕ) (i : Insn) (k : Kind) : Type 0 where
  pub code : (value : ℕ) → block_of m k slot i value ≡ block_of (standard_with m.compact) k slot i value
  pub le : k ≡ Le → m.standard ≡ true

-- Of an accepted program's parts, such a slot that begins somewhere.
module _ (x : Inputs) (given : Given x) {code locs fields targets : List ℕ} (p : Parts x code locs fields targets)
    (few : slots_of x.filter.program ≤ most_slots) (slot : ℕ) (i : Insn) (k : Kind) (std : Standard x.filter.mode slot i k)
    (read : read_at x.filter.program slot ≡ Some i) (kind : kind_of i.opc ≡ Known k)
    (there : get_or (locations x.flags p.blocks) slot 0 ≢ 0) where
  abbrev bs : List Block
  bs = p.blocks

  abbrev table : List ℕ
  table = locations x.flags bs

  slot_lt : slot < length table
  slot_lt = by (leb (length table) slot) refl
    where
      by : (t : Bool) → leb (length table) slot ≡ t → slot < length table
      by true e = absurd (there (get_or-eq_default table 0 (leb→le _ _ (true-T _ e))))
      by false e = leb_no (length table) slot e

  of-block : (q : ℕ) (v : Start isa bs slot q) → get_or table slot 0 ≡ size (prologue x.flags) + q → Gave x.filter slot i k v.block
      → Does (code_of (place_of table (exit_of x.flags bs)) (whole x.flags bs)) table slot k i
  of-block q v here g r s speaks m e =
      let c = x.filter.mode.compact in
      let same : v.block ≡ block_of (standard_with c) k slot i g.value = g.same ∙ std.code g.value in
      let single : v.block.wide ≡ false = ap (λ (b : Block). b.wide) same ∙ narrow k i r speaks in
      let low = leb i.dst 10 in
      let high = leb i.src 10 in
      let wf = page-wf x.flags bs (origins-of x.filter 0 bs p.origins) in
      does x.flags bs wf p.short (omega (arith, p.few)) slot q v here single
      c k i g.value (ap (λ (b : Block). b.code) same) (omega (arith, slot_lt, p.few)) (imm-small x given slot i read)
      (omega (arith, leb→le i.dst 10 (and_l low high g.good))) (omega (arith, leb→le i.src 10 (and_r low high g.good)))
      (λ z. le-fine x.filter slot i k g.value (std.le z) g.has-operand z) (be-fine x.filter slot i k g.value g.has-operand)
      r s speaks m e

  of-slot : Does (code_of (place_of table (exit_of x.flags bs)) (whole x.flags bs)) table slot k i
  of-slot = by (found isa (size (prologue x.flags)) bs slot)
    where
      by : pages.Found isa bs slot (size (prologue x.flags)) (get_or table slot 0)
          → Does (code_of (place_of table (exit_of x.flags bs)) (whole x.flags bs)) table slot k i
      by (first n e) = absurd (there e)
      by (start q e v) =
          let o = origin-at x.filter 0 v.ahead v.block v.behind (subst (OriginsIn x.filter 0) v.split p.origins) in
          let here : 0 + slots_in v.ahead ≡ slot = omega (arith, v.number) in
          of-block q v e (gave x.filter slot i k v.block read kind (subst (λ (n : ℕ). step_at x.filter n ≡ go v.block) here o.step))

module _ (x : Inputs) (given : Given x) (code locs fields targets : List ℕ) (e : translation_of x ≡ yes code locs fields targets) where
  of-standard : (slot : ℕ) (i : Insn) (k : Kind) → Standard x.filter.mode slot i k → read_at x.filter.program slot ≡ Some i
      → kind_of i.opc ≡ Known k → get_or locs slot 0 ≢ 0 → Does code locs slot k i
  of-standard slot i k std read kind there =
      let b : Bound x (yes code locs fields targets) = rw e at (bounds x) in
      of_parts (parts x given code locs fields targets e) b.slots
    where
      of_parts : Parts x code locs fields targets → slots_of x.filter.program ≤ most_slots → Does code locs slot k i
      of_parts p few = rw (p.is_code, p.is-locs) (of-slot x given p few slot i k std read kind (rw p.is-locs at there))

  abbrev block_in : (standard : Bool) → (slot : ℕ) → Insn → Kind → (value : ℕ) → Block
  block_in b slot i k value = block_of (record { standard = b; compact = x.filter.mode.compact }) k slot i value

  -- THE CODE DOES WHAT THE SLOT SAYS.
  pub agrees : x.filter.mode.standard ≡ true → Agrees x.filter.program code locs
  agrees std slot i k read kind there =
      of-standard slot i k (record { code = λ value. ap (λ (b : Bool). block_in b slot i k value) std; le = λ z. std }) read kind there

  -- In every mode so does a slot that standard mode does not change: all but MOD32 by a register or by 0, MOV32_REG and LE.
  pub unnamed-does : (slot : ℕ) (i : Insn) (k : Kind) → named k i ≡ false → read_at x.filter.program slot ≡ Some i
      → kind_of i.opc ≡ Known k → get_or locs slot 0 ≢ 0 → Does code locs slot k i
  unnamed-does slot i k same read kind there =
      of-standard slot i k (record { code = λ value. by x.filter.mode.standard value; le = λ z. never (rw z at same) }) read kind there
    where
      by : (b : Bool) (value : ℕ) → block_in b slot i k value ≡ block_in true slot i k value
      by true value = refl
      by false value =
          ap (λ (c : Code). record { code = c; wide = wide_kind k }) (sym (modes.slots (standard_with x.filter.mode.compact) k i same slot value))

-- SLOT AFTER SLOT.
module _ (program code locs : List ℕ) (h : Agrees program code locs) (s : State) where
  -- behind a slot's step the run is at the slot to which the step goes
  arrived : (slot : ℕ) (i : Insn) (k : Kind) (r : List ℕ) (t v : State) → AtSlot locs s slot r t → Behind code locs slot i r (act k i r) t v
      → get_or locs (next_slot slot (act k i r)) 0 ≢ 0 → AtSlot locs s (next_slot slot (act k i r)) (regs_behind i r (act k i r)) v
  arrived slot i k r t v a b begins =
      record {
        begins = begins;
        place = goes-to-start b.place begins;
        registers = b.registers;
        unchanged = unchanged-then a.unchanged b.unchanged;
      }

  follows : (n slot : ℕ) (r : List ℕ) (t : State) → AtSlot locs s slot r t → Follows program code locs s n slot r t
  follows zero slot r t a = tt
  follows (suc n) slot r t a =
      λ i k read kind speaks begins. leads-on
      (λ v b. let on = arrived slot i k r t v a b begins in (on, follows n (next_slot slot (act k i r)) (regs_behind i r (act k i r)) v on))
      (subst (λ (b : ℕ). Leads code (Behind code locs slot i r (act k i r) t) b (may_be_empty (act k i r)) [] t) a.unchanged.stack
      (h slot i k read kind a.begins r t speaks a.registers a.place))

pub follows-all : (program code locs : List ℕ) → Agrees program code locs → FollowsAll program code locs
follows-all program code locs h n slot r s a = follows program code locs h s n slot r s a

-- .. and of one slot it says no less than Agrees.antt does, if the next slot begins somewhere
pub follows-one : (program code locs : List ℕ) → FollowsAll program code locs → (slot : ℕ) (i : Insn) (k : Kind)
    → read_at program slot ≡ Some i → kind_of i.opc ≡ Known k → get_or locs slot 0 ≢ 0 → (r : List ℕ) (s : State) → act k i r ≢ other
    → Mapped r s.regs → s.pos ≡ get_or locs slot 0 → get_or locs (next_slot slot (act k i r)) 0 ≢ 0
    → Leads code (Behind code locs slot i r (act k i r) s) (s.regs RSP) (may_be_empty (act k i r)) [] s
follows-one program code locs h slot i k read kind there r s speaks m e begins =
    let at : AtSlot locs s slot r s = record { begins = there; place = e; registers = m; unchanged = unchanged-here s } in
    leads-on
    (λ t a. record { registers = a.0.registers; unchanged = a.0.unchanged; place = at_location a.0.place })
    (h 1 slot r s at i k read kind speaks begins)
