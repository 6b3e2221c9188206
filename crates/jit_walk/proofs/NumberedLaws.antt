-- A slot's code by its opcode's entry in the table is the code that its step gives; the kinds that take nothing from elsewhere and list no
-- jump have theirs whatever is behind them.
use Rattle.std.proofs.Common.{Option, Some, None}
use mathlib.Core.Path.{◌≡◌, ◌∙◌, refl, ap}
use mathlib.Core.Bool.{Bool, true, false, ◌&&◌}
use mathlib.Core.List.{List, [], ◌∷◌}
use Prim.Native.Nat.{ℕ, ◌+◌, ◌*◌, ◌<◌, ◌≤◌}
use native.Mathlib.Omega.{arith}
use lib.Dec.{leb, ltb}
use lib.ListN.{length, get_or}
use borrow.Author.Tests.{ltb-false, leb-true}
use Rattle.base.specs.Cases.{Arm, ◌⇒◌, cases}
use Rattle.base.proofs.CasesLaws.{None as NoneOf, rest}
use Rattle.base.specs.Pick.{pick}
use Rattle.ebpf.specs.Insn.{insn_at, read_at}
use Rattle.ebpf.specs.Opcode.{kind_of}
use Rattle.ebpf.specs.Kinds.{numbers, number_of, numbered}
use Rattle.ebpf.specs.Kinds.{LD-DW-IMM, MULDIVMOD, LE, BE, JA, JUMP, CALL, LD-ABS, LD-IND, LD-REG, ST-IMM, ST-REG, ALU, SHIFT, NEG, MOV, EXIT}
use Rattle.ebpf.proofs.KindsLaws.{number-at}
use Rattle.ebpf.specs.declared.insn.Insn.{Insn}
use Rattle.ebpf.specs.declared.kind.Kind.{Kind}
use Rattle.ebpf.specs.declared.kind.Kind.TheVariants.{LdAbs, LdInd, LdDwImm, LdReg, StImm, StReg, Alu, Shift, Neg, MulDivMod, Mov}
use Rattle.ebpf.specs.declared.kind.Kind.TheVariants.{Le, Be, Ja, Jump, Call, Exit}
use Rattle.ebpf.specs.declared.kind.Lookup.{Lookup}
use Rattle.ebpf.specs.declared.kind.Lookup.TheVariants.{Known, Unimplemented, Unknown}
use Rattle.x86.specs.Code.{targets_of}
use Rattle.jit.specs.Slots.{reg_of, slot_code}
use Rattle.jit.proofs.SlotSize.{swap-jumps, truncated-jumps}
use Rattle.jit.specs.Translation.{Filter, at, Block, block_of, wide_kind, Operand, lacks, has, Step, stop, go, taken, known, step_read, step_at}
use Rattle.jit.specs.declared.Mode.{Mode}
use Rattle.jit.specs.declared.Refusal.{Refusal}
use Rattle.jit.proofs.NoTargets.{alu-none, shift_none, mov-none}
use Rattle.base.proofs.Lists.{empty}
use Rattle.jit_walk.specs.Operands.{operand_in}
use Rattle.jit_walk.proofs.Entries.{kind_is}
use Rattle.jit_walk.specs.Numbered.{Numbered, Others, code_at, is_wide, looked_up, plain_code, value_in}

-- the kind that the number stands for
pub looked : {number n : ℕ} {i : Insn} → Numbered number i → number ≡ n → kind_of i.opc ≡ numbered i.opc n
looked {n = n} {i = i} is e = kind_is i.opc n is.opc is.table e

-- the kinds that take something from elsewhere or list a jump, in the reverse of their order in the code's match; what is none of them
abbrev pub elsewhere : List (Arm Bool)
elsewhere = CALL ⇒ true ∷ JUMP ⇒ true ∷ JA ⇒ true ∷ MULDIVMOD ⇒ true ∷ LD-DW-IMM ⇒ true ∷ []

pub other : {number : ℕ} → NoneOf elsewhere number → Others number
other none = record { wide = none.0.0.0.0.1; divides = none.0.0.0.1; ja = none.0.0.1; jumps = none.0.1; calls = none.1 }

module _ (filter : Filter) (slot : ℕ) (i : Insn) (next : Option Insn) where
  pub record Agrees (l : Lookup) : Type 0 where
    pub same : plain_code filter.mode l i ≡ looked_up filter l slot i next
    pub none : targets_of (plain_code filter.mode l i) ≡ []

  plainly : (k : Kind) → Others (number_of (Known k)) → Agrees (Known k)
  plainly (LdAbs z) h = record { same = refl; none = refl }
  plainly (LdInd z) h = record { same = refl; none = refl }
  plainly LdDwImm h = absurd (h.wide refl)
  plainly (LdReg z) h = record { same = refl; none = refl }
  plainly (StImm z) h = record { same = refl; none = refl }
  plainly (StReg z) h = record { same = refl; none = refl }
  plainly (Alu o w s) h = record { same = refl; none = alu-none o w s i }
  plainly (Shift o w s) h = record { same = refl; none = shift_none o w s i }
  plainly (Neg w) h = record { same = refl; none = refl }
  plainly (MulDivMod o w s) h = absurd (h.divides refl)
  plainly (Mov w s) h = record { same = refl; none = mov-none filter.mode w s i }
  plainly Le h = record { same = refl; none = empty _ (truncated-jumps filter.mode (reg_of i.dst) i.imm) }
  plainly Be h = record { same = refl; none = empty _ (swap-jumps (reg_of i.dst) i.imm) }
  plainly Ja h = absurd (h.ja refl)
  plainly (Jump c w s) h = absurd (h.jumps refl)
  plainly Call h = absurd (h.calls refl)
  plainly Exit h = record { same = refl; none = refl }

  agrees : (l : Lookup) → Others (number_of l) → Agrees l
  agrees Unknown h = record { same = refl; none = refl }
  agrees Unimplemented h = record { same = refl; none = refl }
  agrees (Known k) h = plainly k h

  pub others : {number : ℕ} → Numbered number i → Others number → Agrees (kind_of i.opc)
  others is h = agrees (kind_of i.opc) (rw (is.table, number-at i.opc is.opc) at h)

-- the other kinds that have code, in the same way; what is none of them has no code
abbrev pub coded : List (Arm Bool)
coded =
    EXIT ⇒ true
    ∷ LE ⇒ true
    ∷ BE ⇒ true
    ∷ MOV ⇒ true
    ∷ NEG ⇒ true
    ∷ SHIFT ⇒ true
    ∷ ALU ⇒ true
    ∷ ST-REG ⇒ true
    ∷ ST-IMM ⇒ true
    ∷ LD-REG ⇒ true
    ∷ LD-IND ⇒ true
    ∷ LD-ABS ⇒ true
    ∷ []

pub no_code : (m : Mode) {number : ℕ} {i : Insn} → Numbered number i → Others number → NoneOf coded number → plain_code m (kind_of i.opc) i ≡ []
no_code m {number} {i} is h none = by (kind_of i.opc) (is.table ∙ number-at i.opc is.opc)
  where
    not : {n : ℕ} {A : Type 0} → number ≡ n → cases coded false n ≡ true → A
    not q e = let z : ◌≡◌ {A = ℕ} 0 1 = cc (rest coded false number none) in absurd (omega arith)

    by : (l : Lookup) → number ≡ number_of l → plain_code m l i ≡ []
    by Unknown q = refl
    by Unimplemented q = refl
    by (Known (LdAbs z)) q = not q refl
    by (Known (LdInd z)) q = not q refl
    by (Known LdDwImm) q = absurd (h.wide q)
    by (Known (LdReg z)) q = not q refl
    by (Known (StImm z)) q = not q refl
    by (Known (StReg z)) q = not q refl
    by (Known (Alu o w s)) q = not q refl
    by (Known (Shift o w s)) q = not q refl
    by (Known (Neg w)) q = not q refl
    by (Known (MulDivMod o w s)) q = absurd (h.divides q)
    by (Known (Mov w s)) q = not q refl
    by (Known Le) q = not q refl
    by (Known Be) q = not q refl
    by (Known Ja) q = absurd (h.ja q)
    by (Known (Jump c w s)) q = absurd (h.jumps q)
    by (Known Call) q = absurd (h.calls q)
    by (Known Exit) q = not q refl

-- a slot that is translated, as the writing pass reads it
pub record Written (filter : Filter) (slot : ℕ) (b : Block) : Type 0 where
  pub there : 8 * slot + 8 ≤ length filter.program
  pub dst : (insn_at filter.program slot).dst < 11
  pub src : (insn_at filter.program slot).src < 11
  pub code : b.code ≡ code_at filter slot (insn_at filter.program slot)
  pub wide : (insn_at filter.program slot).opc < 256 → b.wide ≡ is_wide (get_or numbers (insn_at filter.program slot).opc 0)

wide-number : (k : Kind) → wide_kind k ≡ is_wide (number_of (Known k))
wide-number (LdAbs z) = refl
wide-number (LdInd z) = refl
wide-number LdDwImm = refl
wide-number (LdReg z) = refl
wide-number (StImm z) = refl
wide-number (StReg z) = refl
wide-number (Alu o w s) = refl
wide-number (Shift o w s) = refl
wide-number (Neg w) = refl
wide-number (MulDivMod o w s) = refl
wide-number (Mov w s) = refl
wide-number Le = refl
wide-number Be = refl
wide-number Ja = refl
wide-number (Jump c w s) = refl
wide-number Call = refl
wide-number Exit = refl

abbrev block_in : Block → Step → Block
block_in b (stop r) = b
block_in b (go c) = c

not-stop : {b : Block} {r : Refusal} {A : Type 0} → go b ≡ stop r → A
not-stop e = let z : ◌≡◌ {A = ℕ} 0 1 = cc in absurd (omega arith)

module _ (filter : Filter) (slot : ℕ) (b : Block) where
  abbrev i : Insn
  i = insn_at filter.program slot

  abbrev next : Option Insn
  next = read_at filter.program (slot + 1)

  taken_is : (k : Kind) (o : Operand) → operand_in filter k slot i ≡ o → go b ≡ taken filter.mode k slot i o
      → (b.code ≡ slot_code filter.mode k slot i (value_in (operand_in filter k slot i))) × (b.wide ≡ wide_kind k)
  taken_is k (lacks r) q e = not-stop e
  taken_is k (has v) q e =
      let same : b ≡ block_of filter.mode k slot i v = ap (block_in b) e in
      rw (q, same) (refl, refl)

  looked-up : (l : Lookup) → kind_of i.opc ≡ l → go b ≡ known filter l slot i next
      → (b.code ≡ code_at filter slot i) × (i.opc < 256 → b.wide ≡ is_wide (get_or numbers i.opc 0))
  looked-up Unknown q e = not-stop e
  looked-up Unimplemented q e = not-stop e
  looked-up (Known k) q e =
      let t = taken_is k (operand_in filter k slot i) refl e in
      (rw q t.0, λ h. t.1 ∙ wide-number k ∙ rw (number-at i.opc h, q))

  registers : (x y : Bool) → leb i.dst 10 ≡ x → leb i.src 10 ≡ y → 8 * slot + 8 ≤ length filter.program
      → go b ≡ pick (x && y) (known filter (kind_of i.opc) slot i next) (stop (Refusal.BadRegister (at slot)))
      → Written filter slot b
  registers true true f g h e =
      let l = looked-up (kind_of i.opc) refl e in
      record { there = h; dst = omega (arith, leb-true i.dst 10 f); src = omega (arith, leb-true i.src 10 g); code = l.0; wide = l.1 }
  registers true false f g h e = not-stop e
  registers false y f g h e = not-stop e

  pub written : go b ≡ step_at filter slot → Written filter slot b
  unfolding step_at read_at
  written e = by (ltb (length filter.program) (8 * slot + 8)) refl e
    where
      by : (t : Bool) → ltb (length filter.program) (8 * slot + 8) ≡ t
          → go b ≡ step_read filter slot (pick t None (Some i)) next
          → Written filter slot b
      by true q e = not-stop e
      by false q e = registers (leb i.dst 10) (leb i.src 10) refl refl (ltb-false (length filter.program) (8 * slot + 8) q) e
