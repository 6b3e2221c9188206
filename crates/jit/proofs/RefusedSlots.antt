-- Where a walk over the slots is refused: with 6 to 12 at the slot that it has come to, with 13 there too, and never before the slot that it
-- began with.
use Rattle.std.proofs.Common.{Option, Some, None}
use mathlib.Core.Path.{◌≡◌, refl}
use mathlib.Core.Bool.{Bool, true, false}
use mathlib.Core.List.{List, [], ◌∷◌}
use Prim.Native.Nat.{ℕ, zero, suc, ◌+◌, ◌*◌, ◌≤◌, ◌<◌}
use native.Mathlib.Omega.{arith}
use lib.Dec.{leb, ltb, eqb}
use lib.ListN.{length}
use borrow.Author.Tests.{ltb-true}
use Rattle.base.specs.Pick.{pick}
use Rattle.ebpf.specs.Insn.{read_at}
use Rattle.ebpf.specs.Opcode.{kind_of}
use Rattle.ebpf.specs.declared.insn.Insn.{Insn}
use Rattle.ebpf.specs.declared.kind.Kind.{Kind}
use Rattle.ebpf.specs.declared.kind.Kind.TheVariants.{LdAbs, LdInd, LdDwImm, LdReg, StImm, StReg, Alu, Shift, Neg, MulDivMod, Mov, Le, Be, Ja, Jump, Call, Exit}
use Rattle.ebpf.specs.declared.kind.Lookup.{Lookup}
use Rattle.ebpf.specs.declared.kind.Lookup.TheVariants.{Known, Unimplemented, Unknown}
use Rattle.jit.specs.declared.Refusal.{Refusal}
use Rattle.jit.specs.Refusals.{number_of, slot_of}
use Rattle.x86.specs.Code.{size}
use Rattle.jit.specs.Translation.{Filter, Block, Operand, lacks, has, at, helper_of, wide_value, swap_bits, le_bits, swap_value, helper_value, call_value, operand_of}
use Rattle.jit.specs.Translation.{Step, stop, go, taken, known, good_registers, step_read, step_at, slots_of, Walk, refused, done, slots_wide, joined, within, after, rest}

-- a refusal of a slot, other than for want of room
pub record OfSlot (slot : ℕ) (r : Refusal) : Type 0 where
  pub slot_is : slot_of r ≡ slot
  pub least : 6 ≤ number_of r
  pub most : number_of r < 13

abbrev Lacks : ℕ → Operand → Type 0
Lacks slot (lacks r) = OfSlot slot r
Lacks slot (has v) = Unit {0}

abbrev Stops : ℕ → Step → Type 0
Stops slot (stop r) = OfSlot slot r
Stops slot (go b) = Unit {0}

-- the refusal, by its number
given : (slot : ℕ) (r : Refusal) → slot_of r ≡ slot → 6 ≤ number_of r → number_of r < 13 → OfSlot slot r
given slot r a b c = record { slot_is = a; least = b; most = c }

module _ (filter : Filter) (slot : ℕ) where
  swap-lacks : (t : Bool) → Lacks slot (swap_value t slot)
  swap-lacks true = tt
  swap-lacks false = given slot (Refusal.BadSwap (at slot)) refl (omega arith) (omega arith)

  wide-lacks : (i : Insn) (next : Option Insn) → Lacks slot (wide_value slot i next)
  wide-lacks i None = given slot (Refusal.Torn (at slot)) refl (omega arith) (omega arith)
  wide-lacks i (Some j) = tt

  call-lacks : (i : Insn) → Lacks slot (call_value filter.ids filter.addresses slot i)
  call-lacks i = by (eqb i.src 0) (eqb i.src 1) (helper_of filter.ids filter.addresses i.imm)
    where
      by : (s t : Bool) (h : Option ℕ) → Lacks slot (pick s (helper_value slot h) (pick t (has 0) (lacks (Refusal.BadCall (at slot)))))
      by true t (Some a) = tt
      by true t None = given slot (Refusal.UnknownHelper (at slot)) refl (omega arith) (omega arith)
      by false true h = tt
      by false false h = given slot (Refusal.BadCall (at slot)) refl (omega arith) (omega arith)

  operand-lacks : (k : Kind) (i : Insn) (next : Option Insn) → Lacks slot (operand_of filter k slot i next)
  operand-lacks (LdAbs z) i next = tt
  operand-lacks (LdInd z) i next = tt
  operand-lacks LdDwImm i next = wide-lacks i next
  operand-lacks (LdReg z) i next = tt
  operand-lacks (StImm z) i next = tt
  operand-lacks (StReg z) i next = tt
  operand-lacks (Alu o w s) i next = tt
  operand-lacks (Shift o w s) i next = tt
  operand-lacks (Neg w) i next = tt
  operand-lacks (MulDivMod o w s) i next = tt
  operand-lacks (Mov w s) i next = tt
  operand-lacks Le i next = swap-lacks (le_bits filter.mode i.imm)
  operand-lacks Be i next = swap-lacks (swap_bits i.imm)
  operand-lacks Ja i next = tt
  operand-lacks (Jump c w s) i next = tt
  operand-lacks Call i next = call-lacks i
  operand-lacks Exit i next = tt

  taken-stops : (k : Kind) (i : Insn) (o : Operand) → Lacks slot o → Stops slot (taken filter.mode k slot i o)
  taken-stops k i (lacks r) h = h
  taken-stops k i (has v) h = tt

  known-stops : (l : Lookup) (i : Insn) (next : Option Insn) → Stops slot (known filter l slot i next)
  known-stops Unknown i next = given slot (Refusal.UnknownOpcode (at slot)) refl (omega arith) (omega arith)
  known-stops Unimplemented i next = given slot (Refusal.Unimplemented (at slot)) refl (omega arith) (omega arith)
  known-stops (Known k) i next = taken-stops k i (operand_of filter k slot i next) (operand-lacks k i next)

  read-stops : (r next : Option Insn) → Stops slot (step_read filter slot r next)
  read-stops None next = given slot (Refusal.Torn (at slot)) refl (omega arith) (omega arith)
  read-stops (Some i) next = by (good_registers i)
    where
      by : (t : Bool) → Stops slot (pick t (known filter (kind_of i.opc) slot i next) (stop (Refusal.BadRegister (at slot))))
      by true = known-stops (kind_of i.opc) i next
      by false = given slot (Refusal.BadRegister (at slot)) refl (omega arith) (omega arith)

  step-stops : Stops slot (step_at filter slot)
  unfolding step_at
  step-stops = read-stops (read_at filter.program slot) (read_at filter.program (slot + 1))

-- A refusal of the slots from one on, of n.
pub record From (n slot : ℕ) (r : Refusal) : Type 0 where
  pub behind : slot ≤ slot_of r
  pub inside : slot_of r ≤ n
  pub least : 6 ≤ number_of r
  pub most : number_of r ≤ 13

abbrev pub RefusedFrom : (n slot : ℕ) → Walk → Type 0
RefusedFrom n slot (refused r) = From n slot r
RefusedFrom n slot (done bs) = Unit {0}

module _ (filter : Filter) (page : ℕ) where
  abbrev n : ℕ
  n = slots_of filter.program

  from-joined : (slot next : ℕ) (bs : List Block) (w : Walk) → slot ≤ next → RefusedFrom n next w → RefusedFrom n slot (joined bs w)
  from-joined slot next bs (refused r) h g = record { behind = omega (arith, h, g.behind); inside = g.inside; least = g.least; most = g.most }
  from-joined slot next bs (done cs) h g = tt

  from-within : (t : Bool) (slot next : ℕ) (b : Block) (w : Walk) → slot ≤ n → slot ≤ next → RefusedFrom n next w → RefusedFrom n slot (within t slot b w)
  from-within true slot next b w i h g = from-joined slot next (b ∷ []) w h g
  from-within false slot next b w i h g = record { behind = omega arith; inside = i; least = omega arith; most = omega arith }

  from-after : (slot place : ℕ) (s : Step) (k : ℕ → ℕ → Walk) → slot ≤ n → Stops slot s → ((t p : ℕ) → RefusedFrom n t (k t p))
      → RefusedFrom n slot (after page slot place s k)
  from-after slot place (stop r) k i h g =
      record { behind = omega (arith, h.slot_is); inside = omega (arith, i, h.slot_is); least = h.least; most = omega (arith, h.most) }
  from-after slot place (go b) k i h g =
      let next = slot + slots_wide b.wide in
      let end = place + size b.code in
      from-within (leb end page) slot next b (k next end) i (omega arith) (g next end)

  pub refused-from : (fuel slot place : ℕ) → RefusedFrom (slots_of filter.program) slot (rest fuel filter page slot place)
  unfolding rest
  refused-from zero slot place = tt
  refused-from (suc fuel) slot place = by (ltb (8 * slot) (length filter.program)) refl (λ t p. refused-from fuel t p)
    where
      more : ℕ → ℕ → Walk
      more s p = rest fuel filter page s p

      by : (t : Bool) → ltb (8 * slot) (length filter.program) ≡ t → ((t p : ℕ) → RefusedFrom n t (more t p))
          → RefusedFrom n slot (pick t (after page slot place (step_at filter slot) more) (done []))
      by true e ih = from-after slot place (step_at filter slot) more (omega (arith, ltb-true (8 * slot) (length filter.program) e)) (step-stops filter slot) ih
      by false e ih = tt
