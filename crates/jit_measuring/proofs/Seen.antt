-- The step of a slot that is looked at, as the passes come to know it: its bytes, its registers, its opcode's entry in the table.
use Rattle.std.proofs.Common.{Some, None}
use mathlib.Core.Path.{◌≡◌, ◌∙◌, refl, ap}
use mathlib.Core.Bool.{Bool, true, false}
use mathlib.Core.List.{List}
use Prim.Native.Nat.{ℕ, ◌+◌, ◌*◌, ◌%◌, ◌<◌, ◌≤◌, ◌^◌}
use native.Mathlib.Omega.{arith}
use lib.Dec.{eqb}
use lib.ListN.{length, get_or}
use borrow.Author.Tests.{le-leb, lt-leb, le-ltb, lt-ltb, eqb-true, eqb-false}
use Rattle.base.specs.Pick.{pick}
use Rattle.ebpf.specs.Insn.{insn_at, read_at}
use Rattle.ebpf.specs.Tail.{tail_of}
use Rattle.ebpf.specs.Opcode.{kind_of}
use Rattle.ebpf.specs.Kinds.{numbers, number_of, UNKNOWN, UNIMPLEMENTED}
use Rattle.ebpf.proofs.KindsLaws.{number-at, in_table}
use Rattle.ebpf.specs.declared.insn.Insn.{Insn}
use Rattle.ebpf.specs.declared.insn.Tail.TheVariants as Tail
use Rattle.ebpf.specs.declared.insn.Tail.TheVariants.{Nothing}
use Rattle.ebpf.specs.declared.kind.Kind.{Kind}
use Rattle.ebpf.specs.declared.kind.Kind.TheVariants.{LdAbs, LdInd, LdDwImm, LdReg, StImm, StReg, Alu, Shift, Neg, MulDivMod, Mov, Le, Be, Ja, Jump, Call, Exit}
use Rattle.ebpf.specs.declared.kind.Lookup.{Lookup}
use Rattle.ebpf.specs.declared.kind.Lookup.TheVariants.{Known, Unimplemented, Unknown}
use Rattle.jit.specs.declared.Refusal.{Refusal}
use Rattle.x86.specs.Code.{targets_of}
use Rattle.jit.specs.Slots.{slot_code}
use Rattle.jit.proofs.NoTargets.{alu-none, shift_none, mov-none}
use Rattle.jit.specs.Translation.{Filter, at, slots_of, has, bad_in, stop, taken, known, step_at, wide_kind}
use Rattle.jit_walk.specs.Operands.{operand_in}
use Rattle.jit_walk.proofs.Entries.{kind_is}
use Rattle.jit_lengths.specs.Lengths.{Ordinary}
use Rattle.jit_measuring.proofs.Listed.{none-good, divide-good}

pub read-there : (program : List ℕ) (slot : ℕ) → 8 * slot + 8 ≤ length program → read_at program slot ≡ Some (insn_at program slot)
unfolding read_at
read-there program slot h = rw (le-ltb _ _ h)

pub read-torn : (program : List ℕ) (slot : ℕ) → length program < 8 * slot + 8 → read_at program slot ≡ None
unfolding read_at
read-torn program slot h = rw (lt-ltb _ _ h)

-- what the bytes behind the last whole slot say of the length
pub tail_none : (program : List ℕ) → tail_of program ≡ Nothing → length program % 8 ≡ 0
tail_none program e = by (eqb (length program % 8) 0) refl e
  where
    by : (t : Bool) → eqb (length program % 8) 0 ≡ t → pick t Nothing Tail.Torn ≡ Nothing → length program % 8 ≡ 0
    by true q f = eqb-true (length program % 8) 0 q
    by false q f = let w : ◌≡◌ {A = ℕ} 0 1 = cc in absurd (omega arith)

pub tail-torn : (program : List ℕ) → tail_of program ≡ Tail.Torn → ¬ (length program % 8 ≡ 0)
tail-torn program e = by (eqb (length program % 8) 0) refl e
  where
    by : (t : Bool) → eqb (length program % 8) 0 ≡ t → pick t Nothing Tail.Torn ≡ Tail.Torn → ¬ (length program % 8 ≡ 0)
    by true q f = let w : ◌≡◌ {A = ℕ} 0 1 = cc in absurd (omega arith)
    by false q f = eqb-false (length program % 8) 0 q

-- one of the program's n slots
abbrev pub In : (program : List ℕ) → (n slot : ℕ) → Type 0
In program n slot = (n ≡ slots_of program) × ((slot < n) × (n < 2 ^ 16))

module _ (filter : Filter) (slot : ℕ) where
  -- its bytes are not all there
  pub step-torn : length filter.program < 8 * slot + 8 → step_at filter slot ≡ stop (Refusal.Torn (at slot))
  unfolding step_at
  step-torn h = rw (read-torn filter.program slot h)

  module _ {n : ℕ} (h : In filter.program n slot) where
    -- a register above 10
    pub step-dst : 10 < (insn_at filter.program slot).dst → step_at filter slot ≡ stop (Refusal.BadRegister (at slot))
    unfolding step_at
    step-dst d = rw (read-there filter.program slot (omega (arith, h)), lt-leb _ _ d)

    pub step-src : (insn_at filter.program slot).dst ≤ 10 → 10 < (insn_at filter.program slot).src
        → step_at filter slot ≡ stop (Refusal.BadRegister (at slot))
    unfolding step_at
    step-src d s = rw (read-there filter.program slot (omega (arith, h)), le-leb _ _ d, lt-leb _ _ s)

-- entry 0 is that of the unknown opcodes
pub unknown-is : (o : ℕ) → o < 256 → UNKNOWN ≡ get_or numbers o 0 → kind_of o ≡ Unknown
unknown-is o h e = kind_is o UNKNOWN h e refl

-- What is known of a slot once its registers are looked at: its bytes are there, and its registers are good.
pub record Seen (program : List ℕ) (n slot : ℕ) : Type 0 where
  pub there : 8 * slot + 8 ≤ length program
  pub all : (8 * n ≤ length program) × (length program < 8 * n + 8)
  pub below : slot < n
  pub few : n < 2 ^ 16
  pub dst : (insn_at program slot).dst ≤ 10
  pub src : (insn_at program slot).src ≤ 10

pub seen : (program : List ℕ) {n slot : ℕ} → In program n slot → (insn_at program slot).dst ≤ 10 → (insn_at program slot).src ≤ 10 → Seen program n slot
seen program h d s = record { there = omega (arith, h); all = (omega (arith, h), omega (arith, h)); below = h.1.0; few = h.1.1; dst = d; src = s }

module _ (filter : Filter) {n slot : ℕ} (s : Seen filter.program n slot) where
  abbrev i : Insn
  i = insn_at filter.program slot

  abbrev pub Entry : ℕ → Type 0
  Entry x = x ≡ get_or numbers i.opc 0

  step-known : step_at filter slot ≡ known filter (kind_of i.opc) slot i (read_at filter.program (slot + 1))
  unfolding step_at
  step-known = rw (read-there filter.program slot s.there, le-leb _ _ s.dst, le-leb _ _ s.src)

  pub step_of : (k : Kind) → kind_of i.opc ≡ Known k → step_at filter slot ≡ taken filter.mode k slot i (operand_in filter k slot i)
  step_of k e = step-known ∙ rw e

  pub step-unknown : kind_of i.opc ≡ Unknown → step_at filter slot ≡ stop (Refusal.UnknownOpcode (at slot))
  step-unknown e = step-known ∙ rw e

  pub step-unimplemented : kind_of i.opc ≡ Unimplemented → step_at filter slot ≡ stop (Refusal.Unimplemented (at slot))
  step-unimplemented e = step-known ∙ rw e

  -- a kind that is translated whatever the slot's fields hold takes nothing from elsewhere, and its targets are good
  pub record Plainly (k : Kind) : Type 0 where
    pub takes : operand_in filter k slot i ≡ has 0
    pub narrow : wide_kind k ≡ false
    pub good : bad_in n slot (targets_of (slot_code filter.mode k slot i 0)) ≡ None

  ordinary : (k : Kind) → Ordinary (number_of (Known k)) → Plainly k
  ordinary (LdAbs z) p = record { takes = refl; narrow = refl; good = refl }
  ordinary (LdInd z) p = record { takes = refl; narrow = refl; good = refl }
  ordinary LdDwImm p = absurd (p.wide refl)
  ordinary (LdReg z) p = record { takes = refl; narrow = refl; good = refl }
  ordinary (StImm z) p = record { takes = refl; narrow = refl; good = refl }
  ordinary (StReg z) p = record { takes = refl; narrow = refl; good = refl }
  ordinary (Alu o w x) p = record { takes = refl; narrow = refl; good = none-good n slot (slot_code filter.mode (Alu o w x) slot i 0) (alu-none o w x i) }
  ordinary (Shift o w x) p = record { takes = refl; narrow = refl; good = none-good n slot (slot_code filter.mode (Shift o w x) slot i 0) (shift_none o w x i) }
  ordinary (Neg w) p = record { takes = refl; narrow = refl; good = refl }
  ordinary (MulDivMod o w x) p = record { takes = refl; narrow = refl; good = divide-good filter.mode n slot o w x i s.below }
  ordinary (Mov w x) p = record { takes = refl; narrow = refl; good = none-good n slot (slot_code filter.mode (Mov w x) slot i 0) (mov-none filter.mode w x i) }
  ordinary Le p = absurd (p.cuts refl)
  ordinary Be p = absurd (p.swaps refl)
  ordinary Ja p = absurd (p.ja refl)
  ordinary (Jump o w x) p = absurd (p.jumps refl)
  ordinary Call p = absurd (p.calls refl)
  ordinary Exit p = record { takes = refl; narrow = refl; good = refl }

  -- the kind of such an entry
  pub record Kinded (x : ℕ) : Type 0 where
    pub kind : Kind
    pub is : kind_of i.opc ≡ Known kind
    pub number : x ≡ number_of (Known kind)
    pub plainly : Plainly kind

  pub kinded : (x : ℕ) → Entry x → ¬ (x ≡ UNKNOWN) → ¬ (x ≡ UNIMPLEMENTED) → Ordinary x → Kinded x
  kinded x e u v p = by (kind_of i.opc) refl
    where
      number_is : (l : Lookup) → kind_of i.opc ≡ l → x ≡ number_of l
      number_is l q = e ∙ number-at i.opc (in_table i.opc e u) ∙ ap number_of q

      by : (l : Lookup) → kind_of i.opc ≡ l → Kinded x
      by Unknown q = absurd (u (number_is Unknown q))
      by Unimplemented q = absurd (v (number_is Unimplemented q))
      by (Known k) q =
          record { kind = k; is = q; number = number_is (Known k) q; plainly = ordinary k (rw (number_is (Known k) q) at p) }
