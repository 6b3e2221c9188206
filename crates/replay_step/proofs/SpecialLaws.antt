-- A code of class LD: a wide load, EXIT, or nothing to run.
use Rattle.std.proofs.Common.{◌≡◌, ℕ, zero, suc, ◌+◌, ◌*◌, ◌/◌, ◌%◌, ◌^◌, ◌<◌, ◌≤◌, Bool, true, false, eqb, ltb, List, [], ◌∷◌, length, get_or, set, sym, refl, ap, ◌∙◌, subst, arith, ltb-true, eqb-true}
use Rattle.base.specs.Pick.{pick}
use Rattle.ebpf.specs.Insn.{insn_at, le4}
use Rattle.ebpf.specs.Opcode.{kind_of, ld, size_of}
use Rattle.ebpf.specs.declared.insn.Insn.{Insn}
use Rattle.ebpf.specs.declared.kind.Kind.{Kind}
use Rattle.ebpf.specs.declared.kind.Kind.TheVariants.{LdAbs, LdInd, LdDwImm, LdReg, StImm, StReg, Alu, Shift, Neg, MulDivMod, Mov, Le, Be, Ja, Jump, Call, Exit}
use Rattle.ebpf.specs.declared.kind.Lookup.{Lookup}
use Rattle.ebpf.specs.declared.kind.Lookup.TheVariants.{Known, Unimplemented, Unknown}
use Rattle.jit.specs.Translation.{slots_of}
use Rattle.replay.specs.Memory.{State}
use Rattle.replay.specs.declared.Ended as ended
use Rattle.replay.specs.Run.{Turn, goes, ends, absent, kind_at, opcode_at, turn_at, turned}
use Rattle.replay_slots.specs.Codes.{code_of, code_at}
use Rattle.replay_step.specs.Steps.{Ready, state}
use Rattle.replay_step.proofs.CodeLaws.{There, there, one-kind, unknown}

-- the kinds of class LD: of the wide load there is one opcode
abbrev IsLd : (opcode : ℕ) → Kind → Type 0
IsLd o (LdAbs z) = Unit {0}
IsLd o (LdInd z) = Unit {0}
IsLd o LdDwImm = o ≡ 24
IsLd o (LdReg z) = ⊥
IsLd o (StImm z) = ⊥
IsLd o (StReg z) = ⊥
IsLd o (Alu p w x) = ⊥
IsLd o (Shift p w x) = ⊥
IsLd o (Neg w) = ⊥
IsLd o (MulDivMod p w x) = ⊥
IsLd o (Mov w x) = ⊥
IsLd o Le = ⊥
IsLd o Be = ⊥
IsLd o Ja = ⊥
IsLd o (Jump c w x) = ⊥
IsLd o Call = ⊥
IsLd o Exit = ⊥

is-ld : (o : ℕ) {k : Kind} → o % 8 ≡ 0 → kind_of o ≡ Known k → IsLd o k
unfolding kind_of
is-ld o {k} c e = by (o / 32) refl (rw c at e)
  where
    onto : {j : Kind} → IsLd o j → Known j ≡ Known k → IsLd o k
    onto p q = subst (λ (x : Kind). IsLd o x) (one-kind q) p

    wide : (t : Bool) → eqb (o / 8 % 4) 3 ≡ t → o / 32 ≡ 0 → pick t (Known LdDwImm) Unknown ≡ Known k → IsLd o k
    wide true t z q = let h = eqb-true (o / 8 % 4) 3 t in onto (omega (arith, c, h, z)) q
    wide false t z q = absurd (unknown q)

    by : (n : ℕ) → o / 32 ≡ n
        → get_or (pick (eqb (o / 8 % 4) 3) (Known LdDwImm) Unknown ∷ Known (LdAbs (size_of o)) ∷ Known (LdInd (size_of o)) ∷ []) n Unknown ≡ Known k
        → IsLd o k
    by zero z q = wide (eqb (o / 8 % 4) 3) refl z q
    by (suc zero) z q = onto tt q
    by (suc (suc zero)) z q = onto tt q
    by (suc (suc (suc n))) z q = absurd (unknown q)

module _ (program : List ℕ) (slot code : ℕ) where
  -- What such a code is.
  pub data Special : Type 0 where
    wide : code ≡ 24 → kind_at program slot ≡ Known LdDwImm → Special
    exits : code ≡ 144 → kind_at program slot ≡ Known Exit → Special
    none : ¬ (code ≡ 24) → ¬ (code ≡ 144) → ((s : State) → turn_at program slot s ≡ absent) → Special

  by_code : {n : ℕ} → code ≡ n → ¬ (n ≡ 24) → ¬ (n ≡ 144) → ((s : State) → turn_at program slot s ≡ absent) → Special
  by_code e h g t = none (λ q. h (sym e ∙ q)) (λ q. g (sym e ∙ q)) t

  -- a kind whose code is its opcode
  by-opcode : (k : Kind) → kind_at program slot ≡ Known k → code ≡ opcode_at program slot → code % 8 ≡ 0 → IsLd code k
  unfolding insn_at
  by-opcode k q e c = is-ld code {k = k} c (rw e (there program slot q).kept.is)

  by-lookup : (l : Lookup) → kind_at program slot ≡ l → code ≡ code_of l (opcode_at program slot) → code % 8 ≡ 0 → Special
  unfolding turn_at
  by-lookup Unknown q e c = by_code e (λ z. omega (arith, z)) (λ z. omega (arith, z)) (λ s. rw q)
  by-lookup Unimplemented q e c = by_code e (λ z. omega (arith, z)) (λ z. omega (arith, z)) (λ s. rw q)
  by-lookup (Known (LdAbs z)) q e c = by_code e (λ z. omega (arith, z)) (λ z. omega (arith, z)) (λ s. rw q)
  by-lookup (Known (LdInd z)) q e c = by_code e (λ z. omega (arith, z)) (λ z. omega (arith, z)) (λ s. rw q)
  by-lookup (Known LdDwImm) q e c = wide (by-opcode LdDwImm q e c) q
  by-lookup (Known (LdReg z)) q e c = absurd (by-opcode (LdReg z) q e c)
  by-lookup (Known (StImm z)) q e c = absurd (by-opcode (StImm z) q e c)
  by-lookup (Known (StReg z)) q e c = absurd (by-opcode (StReg z) q e c)
  by-lookup (Known (Alu p w x)) q e c = absurd (by-opcode (Alu p w x) q e c)
  by-lookup (Known (Shift p w x)) q e c = absurd (by-opcode (Shift p w x) q e c)
  by-lookup (Known (Neg w)) q e c = absurd (by-opcode (Neg w) q e c)
  by-lookup (Known (MulDivMod p w x)) q e c = absurd (by-opcode (MulDivMod p w x) q e c)
  by-lookup (Known (Mov w x)) q e c = absurd (by-opcode (Mov w x) q e c)
  by-lookup (Known Le) q e c = absurd (by-opcode Le q e c)
  by-lookup (Known Be) q e c = absurd (by-opcode Be q e c)
  by-lookup (Known Ja) q e c = absurd (by-opcode Ja q e c)
  by-lookup (Known (Jump p w x)) q e c = absurd (by-opcode (Jump p w x) q e c)
  by-lookup (Known Call) q e c = by_code e (λ z. omega (arith, z)) (λ z. omega (arith, z)) (λ s. rw q)
  by-lookup (Known Exit) q e c = exits e q

  pub special : code ≡ code_at program slot → code % 8 ≡ 0 → Special
  special e c = by-lookup (kind_at program slot) refl e c

  apart : {a b : ℕ} → code ≡ a → code ≡ b → ¬ (a ≡ b) → ⊥
  apart p q n = n (sym p ∙ q)

  -- a wide load is there with its second half
  pub wide-there : code ≡ code_at program slot → code ≡ 24 → There program slot LdDwImm
  wide-there e n = by (special e (omega (arith, n)))
    where
      by : Special → There program slot LdDwImm
      by (wide c q) = there program slot q
      by (exits c q) = absurd (apart n c (λ z. omega (arith, z)))
      by (none h g t) = absurd (h n)

  pub wide-loads : code ≡ code_at program slot → code ≡ 24 → (regs stack packet : List ℕ)
      → turn_at program slot (state regs stack packet)
      ≡ goes (slot + 2)
      (state (set regs (insn_at program slot).dst ((insn_at program slot).imm + 2 ^ 32 * le4 program (8 * slot + 12))) stack packet)
  unfolding turn_at
  wide-loads e n regs stack packet = by (special e (omega (arith, n)))
    where
      by : Special
          → turn_at program slot (state regs stack packet)
          ≡ goes (slot + 2)
          (state (set regs (insn_at program slot).dst ((insn_at program slot).imm + 2 ^ 32 * le4 program (8 * slot + 12))) stack packet)
      by (wide c q) = rw q
      by (exits c q) = absurd (apart n c (λ z. omega (arith, z)))
      by (none h g t) = absurd (h n)

  pub exits-with : code ≡ code_at program slot → code ≡ 144 → (regs stack packet : List ℕ)
      → turn_at program slot (state regs stack packet) ≡ ends (ended.Ended.Exit (get_or regs 0 0)) (state regs stack packet)
  unfolding turn_at
  exits-with e n regs stack packet = by (special e (omega (arith, n)))
    where
      by : Special → turn_at program slot (state regs stack packet) ≡ ends (ended.Ended.Exit (get_or regs 0 0)) (state regs stack packet)
      by (wide c q) = absurd (apart n c (λ z. omega (arith, z)))
      by (exits c q) = rw q
      by (none h g t) = absurd (g n)

  pub has-nothing : code ≡ code_at program slot → code % 8 ≡ 0 → ¬ (code ≡ 24) → ¬ (code ≡ 144) → (s : State) → turn_at program slot s ≡ absent
  has-nothing e c n m s = by (special e c)
    where
      by : Special → turn_at program slot s ≡ absent
      by (wide q z) = absurd (n q)
      by (exits q z) = absurd (m q)
      by (none h g t) = t s
