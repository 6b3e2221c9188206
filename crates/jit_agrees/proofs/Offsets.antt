-- off of arithmetic, moves and swaps: neither the step nor the slot's code looks at it, so that the statement holds for every off, and is RFC
-- 9669's where off is 0. Where it is not, the RFC means more by two operations and a move (docs/DIFFERENCES.md A4 to A6).
use mathlib.Core.Path.{◌≡◌, refl}
use mathlib.Core.List.{List}
use Prim.Native.Nat.{ℕ}
use native.Mathlib.Omega.{arith}
use Rattle.ebpf.specs.declared.insn.Insn.{Insn}
use Rattle.ebpf.specs.declared.kind.Source.TheVariants.{Imm, Reg}
use Rattle.ebpf.specs.declared.kind.Kind.{Kind}
use Rattle.ebpf.specs.declared.kind.Kind.TheVariants.{LdAbs, LdInd, LdDwImm, LdReg, StImm, StReg, Alu, Shift, Neg, MulDivMod, Mov, Le, Be, Ja, Jump, Call, Exit}
use Rattle.ebpf_meaning.specs.Step.{writes, other, act}
use Rattle.jit.specs.declared.Mode.{Mode}
use Rattle.jit.specs.Slots.{slot_code}

abbrev pub with_off : (off : ℕ) → Insn → Insn
with_off x i = record { opc = i.opc; dst = i.dst; src = i.src; off = x; imm = i.imm }

module _ (m : Mode) (slot value : ℕ) (i : Insn) (r : List ℕ) (x v : ℕ) where
  abbrev Unseen : Kind → Type 0
  Unseen k = (act k (with_off x i) r ≡ act k i r) × (slot_code m k slot (with_off x i) value ≡ slot_code m k slot i value)

  no_write : {A : Type 0} {t : ℕ} → other ≡ writes t → A
  no_write e = let z : ◌≡◌ {A = ℕ} 0 1 = cc in absurd (omega arith)

  -- a slot that writes dst is arithmetic, a move or a swap
  pub off-unseen : (k : Kind) → act k i r ≡ writes v → Unseen k
  off-unseen (LdAbs z) e = no_write e
  off-unseen (LdInd z) e = no_write e
  off-unseen LdDwImm e = no_write e
  off-unseen (LdReg z) e = no_write e
  off-unseen (StImm z) e = no_write e
  off-unseen (StReg z) e = no_write e
  off-unseen (Alu o w Imm) e = (refl, refl)
  off-unseen (Alu o w Reg) e = (refl, refl)
  off-unseen (Shift o w Imm) e = (refl, refl)
  off-unseen (Shift o w Reg) e = (refl, refl)
  off-unseen (Neg w) e = (refl, refl)
  off-unseen (MulDivMod o w Imm) e = (refl, refl)
  off-unseen (MulDivMod o w Reg) e = (refl, refl)
  off-unseen (Mov w Imm) e = (refl, refl)
  off-unseen (Mov w Reg) e = (refl, refl)
  off-unseen Le e = (refl, refl)
  off-unseen Be e = (refl, refl)
  off-unseen Ja e = let z : ◌≡◌ {A = ℕ} 0 1 = cc in absurd (omega arith)
  off-unseen (Jump c w s) e = let z : ◌≡◌ {A = ℕ} 0 1 = cc in absurd (omega arith)
  off-unseen Call e = no_write e
  off-unseen Exit e = no_write e
