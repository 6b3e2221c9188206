-- Standard mode changes the named slots alone (specs/Modes.antt), and with the mode off these have the Rust's code.
use Rattle.std.proofs.Common.{Option, Some, None}
use mathlib.Core.Path.{◌≡◌, refl, ap}
use mathlib.Core.Bool.{Bool, true, false, ◌&&◌}
use mathlib.Core.List.{[], ◌∷◌, ◌++◌}
use Prim.Native.Nat.{ℕ, zero, suc, ◌+◌, ◌*◌, ◌≤◌}
use native.Mathlib.Omega.{arith}
use lib.Dec.{leb, ltb}
use lib.ListN.{length}
use borrow.Author.Tests.{ltb-false}
use Rattle.base.specs.Pick.{pick}
use Rattle.base.specs.declared.Width.{Width}
use Rattle.base.specs.declared.Width.TheVariants.{W32, W64}
use Rattle.ebpf.specs.Insn.{insn_at, read_at}
use Rattle.ebpf.specs.Opcode.{kind_of}
use Rattle.ebpf.specs.declared.insn.Insn.{Insn}
use Rattle.ebpf.specs.declared.kind.MulOp.{MulOp}
use Rattle.ebpf.specs.declared.kind.MulOp.TheVariants.{Mul, Div, Mod}
use Rattle.ebpf.specs.declared.kind.Source.{Source}
use Rattle.ebpf.specs.declared.kind.Source.TheVariants.{Imm, Reg}
use Rattle.ebpf.specs.declared.kind.Kind.{Kind}
use Rattle.ebpf.specs.declared.kind.Kind.TheVariants.{LdAbs, LdInd, LdDwImm, LdReg, StImm, StReg, Alu, Shift, Neg, MulDivMod, Mov, Le, Be, Ja, Jump, Call, Exit}
use Rattle.ebpf.specs.declared.kind.Lookup.{Lookup}
use Rattle.ebpf.specs.declared.kind.Lookup.TheVariants.{Known, Unimplemented, Unknown}
use Rattle.x86.specs.Instr.{op, alu, MOV}
use Rattle.x86.specs.Code.{size}
use Rattle.jit.specs.declared.Mode.{Mode}
use Rattle.jit.specs.declared.Refusal.{Refusal}
use Rattle.jit.specs.Frame.{prologue}
use Rattle.jit.specs.MulDivMod.{Code, when}
use Rattle.jit.specs.Slots.{reg_of, mul_div_mod_code, lower_half, leaves_dst, slot_code}
use Rattle.jit.specs.Translation.{Filter, Inputs, slots_of, at, wide_kind, Operand, lacks, has, operand_of, Step, stop, go, taken, known, good_registers}
use Rattle.jit.specs.Translation.{step_read, step_at, Walk, done, slots_wide, within, after, rest, sizes_of, translation_of}
use Rattle.jit.specs.Modes.{rust, standard_off, named, named_as, named_at, in_mode, asked_in, Modes}

-- With the mode off.
pub rust-divides : (o : MulOp) (w : Width) (s : Source) (slot : ℕ) (i : Insn) (value : ℕ)
    → slot_code rust (MulDivMod o w s) slot i value ≡ mul_div_mod_code rust o w s slot i
rust-divides o w s slot i value = refl

pub rust-copies : (w : Width) (slot : ℕ) (i : Insn) (value : ℕ)
    → slot_code rust (Mov w Reg) slot i value ≡ op (alu MOV W64 (reg_of i.src) (reg_of i.dst)) ∷ []
rust-copies w slot i value = refl

pub rust-le : (filter : Filter) (slot : ℕ) (i : Insn) (value : ℕ) (next : Option Insn)
    → (slot_code rust Le slot i value ≡ []) × (operand_of (in_mode (λ m. rust) filter) Le slot i next ≡ has 0)
rust-le filter slot i value next = (refl, refl)

-- One slot.
never : {A : Type 0} → true ≡ false → A
never e = let z : ◌≡◌ {A = ℕ} 0 1 = cc in absurd (omega arith)

-- what is put ahead is nothing where the slot is not named
nothing-ahead : (t b : Bool) (a c : Code) → b ≡ false → when (t && b) a ++ c ≡ c
nothing-ahead true b a c e = rw e refl
nothing-ahead false b a c e = refl

-- the operation itself knows of no standard mode
operation-same : (m : Mode) (o : MulOp) (w : Width) (s : Source) (slot : ℕ) (i : Insn)
    → mul_div_mod_code m o w s slot i ≡ mul_div_mod_code (standard_off m) o w s slot i
operation-same m o w Imm slot i = refl
operation-same m Mul w Reg slot i = refl
operation-same m Div w Reg slot i = refl
operation-same m Mod w Reg slot i = refl

copies-all : (t : Bool) → pick t W64 W64 ≡ W64
copies-all true = refl
copies-all false = refl

slots_same : (m : Mode) (k : Kind) (i : Insn) → named k i ≡ false → (slot value : ℕ)
    → slot_code m k slot i value ≡ slot_code (standard_off m) k slot i value
slots_same m (LdAbs z) i e slot value = refl
slots_same m (LdInd z) i e slot value = refl
slots_same m LdDwImm i e slot value = refl
slots_same m (LdReg z) i e slot value = refl
slots_same m (StImm z) i e slot value = refl
slots_same m (StReg z) i e slot value = refl
slots_same m (Alu o w s) i e slot value = refl
slots_same m (Shift o w s) i e slot value = refl
slots_same m (Neg w) i e slot value = refl
slots_same m (MulDivMod o w s) i e slot value =
    rw (← operation-same m o w s slot i)
    (nothing-ahead m.standard (leaves_dst o w s i.imm) (lower_half (reg_of i.dst)) (mul_div_mod_code m o w s slot i) e)
slots_same m (Mov w Imm) i e slot value = refl
slots_same m (Mov W64 Reg) i e slot value = ap (λ (w : Width). op (alu MOV w (reg_of i.src) (reg_of i.dst)) ∷ []) (copies-all m.standard)
slots_same m (Mov W32 Reg) i e slot value = never e
slots_same m Le i e slot value = never e
slots_same m Be i e slot value = refl
slots_same m Ja i e slot value = refl
slots_same m (Jump c w s) i e slot value = refl
slots_same m Call i e slot value = refl
slots_same m Exit i e slot value = refl

module _ (filter : Filter) (slot : ℕ) (next : Option Insn) where
  operand_same : (k : Kind) (i : Insn) → named k i ≡ false → operand_of filter k slot i next ≡ operand_of (in_mode standard_off filter) k slot i next
  operand_same (LdAbs z) i e = refl
  operand_same (LdInd z) i e = refl
  operand_same LdDwImm i e = refl
  operand_same (LdReg z) i e = refl
  operand_same (StImm z) i e = refl
  operand_same (StReg z) i e = refl
  operand_same (Alu o w s) i e = refl
  operand_same (Shift o w s) i e = refl
  operand_same (Neg w) i e = refl
  operand_same (MulDivMod o w s) i e = refl
  operand_same (Mov w s) i e = refl
  operand_same Le i e = never e
  operand_same Be i e = refl
  operand_same Ja i e = refl
  operand_same (Jump c w s) i e = refl
  operand_same Call i e = refl
  operand_same Exit i e = refl

  taken-same : (k : Kind) (i : Insn) (o : Operand) → named k i ≡ false → taken filter.mode k slot i o ≡ taken (standard_off filter.mode) k slot i o
  taken-same k i (lacks r) e = refl
  taken-same k i (has v) e = ap (λ (c : Code). go (record { code = c; wide = wide_kind k })) (slots_same filter.mode k i e slot v)

  known_same : (l : Lookup) (i : Insn) → named_as l i ≡ false → known filter l slot i next ≡ known (in_mode standard_off filter) l slot i next
  known_same Unknown i e = refl
  known_same Unimplemented i e = refl
  known_same (Known k) i e = rw (operand_same k i e) (taken-same k i (operand_of (in_mode standard_off filter) k slot i next) e)

-- All slots.
module _ (filter : Filter) (none : (slot : ℕ) → 8 * slot + 8 ≤ length filter.program → named_at filter.program slot ≡ false) where
  step_same : (slot : ℕ) → step_at filter slot ≡ step_at (in_mode standard_off filter) slot
  unfolding step_at read_at
  step_same slot = by (ltb (length filter.program) (8 * slot + 8)) refl
    where
      i : Insn
      i = insn_at filter.program slot

      next : Option Insn
      next = read_at filter.program (slot + 1)

      by : (t : Bool) → ltb (length filter.program) (8 * slot + 8) ≡ t
          → step_read filter slot (pick t None (Some i)) next ≡ step_read (in_mode standard_off filter) slot (pick t None (Some i)) next
      by true q = refl
      by false q =
          let there = ltb-false (length filter.program) (8 * slot + 8) q in
          ap (λ (s : Step). pick (good_registers i) s (stop (Refusal.BadRegister (at slot)))) (known_same filter slot next (kind_of i.opc) i (none slot there))

  after_same : (page slot place : ℕ) (s : Step) (k j : ℕ → ℕ → Walk) → ((t p : ℕ) → k t p ≡ j t p) → after page slot place s k ≡ after page slot place s j
  after_same page slot place (stop r) k j h = refl
  after_same page slot place (go b) k j h =
      let end = place + size b.code in
      ap (λ (w : Walk). within (leb end page) slot b w) (h (slot + slots_wide b.wide) end)

  rest_same : (fuel page slot place : ℕ) → rest fuel filter page slot place ≡ rest fuel (in_mode standard_off filter) page slot place
  unfolding rest
  rest_same zero page slot place = refl
  rest_same (suc fuel) page slot place =
      ap (λ (w : Walk). pick (ltb (8 * slot) (length filter.program)) w (done []))
      (rw (step_same slot)
      (after_same page slot place (step_at (in_mode standard_off filter) slot) (λ s p. rest fuel filter page s p) (λ s p. rest fuel (in_mode standard_off filter) page s p)
      (λ t p. rest_same fuel page t p)))

programs-same : (x : Inputs) → ((slot : ℕ) → 8 * slot + 8 ≤ length x.filter.program → named_at x.filter.program slot ≡ false)
    → translation_of x ≡ translation_of (asked_in standard_off x)
unfolding translation_of sizes_of
programs-same x none =
    let n = slots_of x.filter.program in
    rw (rest_same x.filter none (suc n) x.page 0 (size (prologue x.flags))) refl

pub modes : Modes
modes = record { slots = slots_same; programs = programs-same }
