-- What `Modes` (specs/Modes.antt) rules out: a standard mode that changes the code of a load, a store, arithmetic, a jump, a call or EXIT, or the
-- answer to a program of such slots; and what `Compact` (specs/Compact.antt) does. Each part of the statements is used, so that one which says
-- less no longer checks.
use mathlib.Core.Path.{◌≡◌, refl, ◌∙◌}
use mathlib.Core.Bool.{false}
use mathlib.Core.Logic.{◌≢◌}
use mathlib.Core.List.{List, [], ◌∷◌}
use Prim.Native.Nat.{ℕ, zero, suc, ◌+◌, ◌*◌, ◌≤◌, ◌<◌}
use native.Mathlib.Omega.{arith}
use lib.ListN.{length}
use Rattle.base.specs.declared.Width.{Width}
use Rattle.base.specs.declared.Width.TheVariants.{W32, W64}
use Rattle.base.specs.declared.Size.{Size}
use Rattle.base.specs.declared.Slot.{Slot}
use Rattle.ebpf.specs.Insn.{insn_at}
use Rattle.ebpf.specs.Opcode.{kind_of}
use Rattle.ebpf.specs.declared.insn.Insn.{Insn}
use Rattle.ebpf.specs.declared.kind.AluOp.{AluOp}
use Rattle.ebpf.specs.declared.kind.ShiftOp.{ShiftOp}
use Rattle.ebpf.specs.declared.kind.MulOp.TheVariants.{Mul, Div, Mod}
use Rattle.ebpf.specs.declared.kind.Condition.{Condition}
use Rattle.ebpf.specs.declared.kind.Condition.TheVariants.{Jeq}
use Rattle.ebpf.specs.declared.kind.Source.{Source}
use Rattle.ebpf.specs.declared.kind.Source.TheVariants.{Imm, Reg}
use Rattle.ebpf.specs.declared.kind.Kind.{Kind}
use Rattle.ebpf.specs.declared.kind.Kind.TheVariants.{LdAbs, LdInd, LdDwImm, LdReg, StImm, StReg, Alu, Shift, Neg, MulDivMod, Mov, Be, Ja, Jump, Call, Exit}
use Rattle.x86.specs.Instr.{op, mov_imm}
use Rattle.x86.specs.Code.{size, targets_of, kinds_of}
use Rattle.jit.specs.declared.Mode.{Mode}
use Rattle.jit.specs.declared.Refusal.{Refusal}
use Rattle.jit.specs.declared.Refusal.TheVariants.{PageTooShort, UnknownOpcode, NoRoom}
use Rattle.jit.specs.MulDivMod.{Code}
use Rattle.jit.specs.Slots.{slot_code}
use Rattle.jit.specs.Translation.{Inputs, Block, refused, done, walk_of, Outcome, no, yes, translation_of}
use Rattle.jit.specs.JumpTables.{kinds_in, makers_in}
use Rattle.jit.specs.Modes.{standard_off, named, named_at, asked_in, Modes}
use Rattle.jit.specs.Compact.{compact_off, compact_on, plainly, compactly, shortened_code, Compact}

-- no slot of that kind has other code with `standard` than without
abbrev NeverChanged : Kind → Type 0
NeverChanged k = (m : Mode) (i : Insn) (slot value : ℕ) → slot_code m k slot i value ≢ slot_code (standard_off m) k slot i value → ⊥

module _ (h : Modes) where
  kept : (k : Kind) → ((i : Insn) → named k i ≡ false) → NeverChanged k
  kept k e m i slot value n = n (h.slots m k i (e i) slot value)

  pub load-changed : (z : Size) → NeverChanged (LdAbs z) × (NeverChanged (LdInd z) × (NeverChanged (LdReg z) × NeverChanged LdDwImm))
  load-changed z = (kept (LdAbs z) (λ i. refl), (kept (LdInd z) (λ i. refl), (kept (LdReg z) (λ i. refl), kept LdDwImm (λ i. refl))))

  pub store-changed : (z : Size) → NeverChanged (StImm z) × NeverChanged (StReg z)
  store-changed z = (kept (StImm z) (λ i. refl), kept (StReg z) (λ i. refl))

  pub arithmetic-changed : (o : AluOp) (p : ShiftOp) (w : Width) (s : Source)
      → NeverChanged (Alu o w s) × (NeverChanged (Shift p w s) × (NeverChanged (Neg w) × NeverChanged Be))
  arithmetic-changed o p w s = (kept (Alu o w s) (λ i. refl), (kept (Shift p w s) (λ i. refl), (kept (Neg w) (λ i. refl), kept Be (λ i. refl))))

  pub division-changed : (w : Width) (s : Source) → NeverChanged (MulDivMod Mul w s) × (NeverChanged (MulDivMod Div w s) × NeverChanged (MulDivMod Mod W64 s))
  division-changed w s =
      (kept (MulDivMod Mul w s) (λ i. refl), (kept (MulDivMod Div w s) (λ i. refl), kept (MulDivMod Mod W64 s) (λ i. refl)))

  pub move-changed : (w : Width) → NeverChanged (Mov w Imm) × NeverChanged (Mov W64 Reg)
  move-changed w = (kept (Mov w Imm) (λ i. refl), kept (Mov W64 Reg) (λ i. refl))

  pub jump-changed : (c : Condition) (w : Width) (s : Source) → NeverChanged Ja × (NeverChanged (Jump c w s) × (NeverChanged Call × NeverChanged Exit))
  jump-changed c w s = (kept Ja (λ i. refl), (kept (Jump c w s) (λ i. refl), (kept Call (λ i. refl), kept Exit (λ i. refl))))

  -- EXIT alone, whatever the mode, the flags and the lengths
  pub exit-answered-otherwise : (x : Inputs) → x.filter.program ≡ 0x95 ∷ 0 ∷ 0 ∷ 0 ∷ 0 ∷ 0 ∷ 0 ∷ 0 ∷ [] → (o : Outcome)
      → translation_of (asked_in standard_off x) ≡ o → translation_of x ≢ o → ⊥
  unfolding insn_at kind_of
  exit-answered-otherwise x e o q n = n (h.programs x (λ slot there. by slot (rw e at there)) ∙ q)
    where
      by : (slot : ℕ) → 8 * slot + 8 ≤ 8 → named_at x.filter.program slot ≡ false
      by zero g = rw e
      by (suc slot) g = absurd (omega (arith, g))

-- The same of `Compact`.
module _ (h : Compact) where
  -- slots: a comparison's immediate is never shortened, nor is MOV64_IMM of a negative number
  pub comparison-shortened : (m : Mode) (slot : ℕ) (i : Insn) (value : ℕ)
      → slot_code (compact_on m) (Jump Jeq W64 Imm) slot i value ≢ slot_code (compact_off m) (Jump Jeq W64 Imm) slot i value → ⊥
  comparison-shortened m slot i value n = n (h.slots m (Jump Jeq W64 Imm) slot i value)

  pub negative-shortened : (m : Mode) (slot value d : ℕ) (i : Insn) → i.imm ≡ 0xffffffff
      → slot_code (compact_on m) (Mov W64 Imm) slot i value ≡ op (mov_imm W32 d 0xffffffff) ∷ [] → ⊥
  negative-shortened m slot value d i e z =
      let same = rw e at (h.slots m (Mov W64 Imm) slot i value) in
      let q : ◌≡◌ {A = ℕ} 0 1 = cc in omega arith

  -- short, jumps: code that gets longer, loses a target, or has a jump of another kind
  pub code-longer : (c : Code) → size c < size (shortened_code c) → ⊥
  code-longer c n = omega (arith, n, h.short c)

  pub jumps-otherwise : (c : Code) → ((targets_of (shortened_code c) ≢ targets_of c) → ⊥) × ((kinds_of (shortened_code c) ≢ kinds_of c) → ⊥)
  jumps-otherwise c = (λ n. n (h.jumps c).0, λ n. n (h.jumps c).1)

  module _ (x : Inputs) where
    -- blocks: slots that are walked without, and not with it
    pub slots-lost : (bs : List Block) (r : Refusal) → walk_of (plainly x) ≡ done bs → walk_of (compactly x) ≡ refused r → ⊥
    slots-lost bs r e f = let same = h.blocks x bs e in let q : ◌≡◌ {A = ℕ} 0 1 = cc in omega arith

    module _ (c l f t : List ℕ) (e : translation_of (plainly x) ≡ yes c l f t) where
      -- accepts: refused; with more code; with other targets
      pub refused-now : (r : Refusal) → translation_of (compactly x) ≡ no r → ⊥
      refused-now r q = rw q at (h.accepts x c l f t e)

      pub accepted-otherwise : (c' l' f' t' : List ℕ) → translation_of (compactly x) ≡ yes c' l' f' t'
          → (length c < length c' → ⊥) × ((t' ≢ t) → ⊥)
      accepted-otherwise c' l' f' t' q =
          let k = rw q at (h.accepts x c l f t e) in (λ n. omega (arith, n, k.0), λ n. n k.1)

      -- names: kinds or makers that are others
      pub named-otherwise :
          ((kinds_in (compactly x) (translation_of (compactly x)) ≢ kinds_in (plainly x) (translation_of (plainly x))) → ⊥)
          × ((makers_in (compactly x) (translation_of (compactly x)) ≢ makers_in (plainly x) (translation_of (plainly x))) → ⊥)
      named-otherwise = (λ n. n (h.names x c l f t e).0, λ n. n (h.names x c l f t e).1)

    -- refuses: another refusal in the place of an unknown opcode
    pub refused-otherwise : (s : Slot) → translation_of (plainly x) ≡ no (UnknownOpcode s) → translation_of (compactly x) ≢ no (UnknownOpcode s) → ⊥
    refused-otherwise s e n = n (h.refuses x (UnknownOpcode s) e (λ z. omega (arith, z)))

    -- later: in the place of 13 at a slot, 13 ahead of it, an unknown opcode at it, or a short page
    pub refused-sooner : (s t : Slot) → translation_of (plainly x) ≡ no (NoRoom s)
        → (translation_of (compactly x) ≡ no (NoRoom t) → t.number < s.number → ⊥)
        × ((translation_of (compactly x) ≡ no (UnknownOpcode s) → ⊥) × (translation_of (compactly x) ≡ no PageTooShort → ⊥))
    refused-sooner s t e = (
      λ q n. omega (arith, n, (h.later x (NoRoom s) (NoRoom t) e refl q).room refl),
      (
        λ q. omega (arith, (h.later x (NoRoom s) (UnknownOpcode s) e refl q).slots (omega arith)),
        λ q. omega (arith, (h.later x (NoRoom s) PageTooShort e refl q).sizes),
      ),
    )
