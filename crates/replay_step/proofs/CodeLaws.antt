-- What a code tells of its slot: where its class is not LD, it is the opcode of a slot that is there, of its kind, with good registers.
use Rattle.std.proofs.Common.{◌≡◌, ℕ, zero, suc, ◌+◌, ◌*◌, ◌/◌, ◌%◌, ◌^◌, ◌<◌, ◌≤◌, Bool, true, false, not, ◌&&◌, eqb, ltb, leb, List, [], ◌∷◌, length, get_or, sym, refl, ap, ◌∙◌, subst, arith, ltb-true, leb-true}
use Rattle.base.specs.Pick.{pick}
use Rattle.ebpf.specs.Insn.{insn_at, le4}
use Rattle.ebpf.specs.Opcode.{kind_of}
use Rattle.ebpf.specs.declared.insn.Insn.{Insn}
use Rattle.ebpf.specs.declared.kind.Kind.{Kind}
use Rattle.ebpf.specs.declared.kind.Kind.TheVariants.{LdAbs, LdInd, LdDwImm, LdReg, StImm, StReg, Alu, Shift, Neg, MulDivMod, Mov, Le, Be, Ja, Jump, Call, Exit}
use Rattle.ebpf.specs.declared.kind.Lookup.{Lookup}
use Rattle.ebpf.specs.declared.kind.Lookup.TheVariants.{Known, Unimplemented, Unknown}
use Rattle.jit.specs.Translation.{slots_of, swap_bits, good_registers}
use Rattle.replay.specs.Memory.{State}
use Rattle.replay.specs.Run.{kind_at, kind_in, runnable, is_slot, is_second, opcode_at, Turn, absent, does, turned, turn_at}
use Rattle.replay_slots.specs.Codes.{code_of, code_at}

-- What a slot's kind asks of it besides good registers.
abbrev pub Asks : (more : Bool) → Insn → Kind → Type 0
Asks more i (LdAbs z) = Unit {0}
Asks more i (LdInd z) = Unit {0}
Asks more i LdDwImm = more ≡ true
Asks more i (LdReg z) = Unit {0}
Asks more i (StImm z) = Unit {0}
Asks more i (StReg z) = Unit {0}
Asks more i (Alu o w x) = Unit {0}
Asks more i (Shift o w x) = Unit {0}
Asks more i (Neg w) = Unit {0}
Asks more i (MulDivMod o w x) = Unit {0}
Asks more i (Mov w x) = Unit {0}
Asks more i Le = swap_bits i.imm ≡ true
Asks more i Be = swap_bits i.imm ≡ true
Asks more i Ja = Unit {0}
Asks more i (Jump c w x) = Unit {0}
Asks more i Call = Unit {0}
Asks more i Exit = Unit {0}

pub record Kept (more : Bool) (i : Insn) (l : Lookup) (k : Kind) : Type 0 where
  pub is : l ≡ Known k
  pub asks : Asks more i k

-- two kinds that are looked up alike are one
pub one-kind : {j k : Kind} → Known j ≡ Known k → j ≡ k
one-kind e = cc

pub unknown : {k : Kind} → Unknown ≡ Known k → ⊥
unknown e = let z : ◌≡◌ {A = ℕ} 0 1 = cc in omega arith

pub unimplemented : {k : Kind} → Unimplemented ≡ Known k → ⊥
unimplemented e = let z : ◌≡◌ {A = ℕ} 0 1 = cc in omega arith

module _ (more : Bool) (i : Insn) where
  as_is : {j k : Kind} → Asks more i j → Known j ≡ Known k → Kept more i (Known j) k
  as_is a e = record { is = e; asks = subst (λ (x : Kind). Asks more i x) (one-kind e) a }

  only_if : (t : Bool) {j k : Kind} → (t ≡ true → Asks more i j) → pick t (Known j) Unknown ≡ Known k → Kept more i (Known j) k
  only_if true a e = as_is (a refl) e
  only_if false a e = absurd (unknown e)

  kept : (l : Lookup) {k : Kind} → runnable more i l ≡ Known k → Kept more i l k
  kept Unknown e = absurd (unknown e)
  kept Unimplemented e = absurd (unimplemented e)
  kept (Known (LdAbs z)) e = as_is tt e
  kept (Known (LdInd z)) e = as_is tt e
  kept (Known LdDwImm) e = only_if more (λ q. q) e
  kept (Known (LdReg z)) e = as_is tt e
  kept (Known (StImm z)) e = as_is tt e
  kept (Known (StReg z)) e = as_is tt e
  kept (Known (Alu o w x)) e = as_is tt e
  kept (Known (Shift o w x)) e = as_is tt e
  kept (Known (Neg w)) e = as_is tt e
  kept (Known (MulDivMod o w x)) e = as_is tt e
  kept (Known (Mov w x)) e = as_is tt e
  kept (Known Le) e = only_if (swap_bits i.imm) (λ q. q) e
  kept (Known Be) e = only_if (swap_bits i.imm) (λ q. q) e
  kept (Known Ja) e = as_is tt e
  kept (Known (Jump c w x)) e = as_is tt e
  kept (Known Call) e = as_is tt e
  kept (Known Exit) e = as_is tt e

-- A slot of a kind that is there.
pub record There (program : List ℕ) (slot : ℕ) (k : Kind) : Type 0 where
  pub inside : slot < slots_of program
  pub dst : (insn_at program slot).dst ≤ 10
  pub src : (insn_at program slot).src ≤ 10
  pub kept : Kept (ltb (slot + 1) (slots_of program)) (insn_at program slot) (kind_of (insn_at program slot).opc) k

pub there : (program : List ℕ) (slot : ℕ) {k : Kind} → kind_at program slot ≡ Known k → There program slot k
unfolding kind_at
there program slot {k} e = by (ltb slot (slots_of program)) (is_second program slot) refl e
  where
    i : Insn
    i = insn_at program slot

    more : Bool
    more = ltb (slot + 1) (slots_of program)

    registers : (d s : Bool) → leb i.dst 10 ≡ d → leb i.src 10 ≡ s → ltb slot (slots_of program) ≡ true
        → pick (d && s) (runnable more i (kind_of i.opc)) Unknown ≡ Known k → There program slot k
    registers true true d s l q =
        record {
          inside = ltb-true slot (slots_of program) l;
          dst = leb-true i.dst 10 d;
          src = leb-true i.src 10 s;
          kept = kept more i (kind_of i.opc) q;
        }
    registers true false d s l q = absurd (unknown q)
    registers false s' d s l q = absurd (unknown q)

    by : (t u : Bool) → ltb slot (slots_of program) ≡ t → pick (t && not u) (kind_in more i) Unknown ≡ Known k → There program slot k
    by true false l q = registers (leb i.dst 10) (leb i.src 10) refl refl l q
    by true true l q = absurd (unknown q)
    by false u l q = absurd (unknown q)

-- Behind a code: its kind, the slot that is there, and that the code is the opcode.
pub record Behind (program : List ℕ) (slot code : ℕ) : Type 0 where
  pub kind : Kind
  pub looked : kind_at program slot ≡ Known kind
  pub opcode : code ≡ opcode_at program slot
  pub as_code : code_of (Known kind) code ≡ code

module _ (program : List ℕ) (slot code : ℕ) where
  behind-by : (l : Lookup) → kind_at program slot ≡ l → code ≡ code_of l (opcode_at program slot) → ¬ (code % 8 ≡ 0) → Behind program slot code
  behind-by Unknown q e n = absurd (n (rw e))
  behind-by Unimplemented q e n = absurd (n (rw e))
  behind-by (Known (LdAbs z)) q e n = absurd (n (rw e))
  behind-by (Known (LdInd z)) q e n = absurd (n (rw e))
  behind-by (Known LdDwImm) q e n = record { kind = LdDwImm; looked = q; opcode = e; as_code = refl }
  behind-by (Known (LdReg z)) q e n = record { kind = LdReg z; looked = q; opcode = e; as_code = refl }
  behind-by (Known (StImm z)) q e n = record { kind = StImm z; looked = q; opcode = e; as_code = refl }
  behind-by (Known (StReg z)) q e n = record { kind = StReg z; looked = q; opcode = e; as_code = refl }
  behind-by (Known (Alu o w x)) q e n = record { kind = Alu o w x; looked = q; opcode = e; as_code = refl }
  behind-by (Known (Shift o w x)) q e n = record { kind = Shift o w x; looked = q; opcode = e; as_code = refl }
  behind-by (Known (Neg w)) q e n = record { kind = Neg w; looked = q; opcode = e; as_code = refl }
  behind-by (Known (MulDivMod o w x)) q e n = record { kind = MulDivMod o w x; looked = q; opcode = e; as_code = refl }
  behind-by (Known (Mov w x)) q e n = record { kind = Mov w x; looked = q; opcode = e; as_code = refl }
  behind-by (Known Le) q e n = record { kind = Le; looked = q; opcode = e; as_code = refl }
  behind-by (Known Be) q e n = record { kind = Be; looked = q; opcode = e; as_code = refl }
  behind-by (Known Ja) q e n = record { kind = Ja; looked = q; opcode = e; as_code = refl }
  behind-by (Known (Jump c w x)) q e n = record { kind = Jump c w x; looked = q; opcode = e; as_code = refl }
  behind-by (Known Call) q e n = absurd (n (rw e))
  behind-by (Known Exit) q e n = absurd (n (rw e))

  pub behind : code ≡ code_at program slot → ¬ (code % 8 ≡ 0) → Behind program slot code
  behind e n = behind-by (kind_at program slot) refl e n

  -- the opcode's kind is that kind
  pub kind-of : (b : Behind program slot code) → kind_of code ≡ Known b.kind
  unfolding insn_at
  kind-of b = rw b.opcode (there program slot b.looked).kept.is

  -- and the slot's turn is what that kind does
  pub turn-of : (b : Behind program slot code) (s : State)
      → turn_at program slot s ≡ does b.kind (insn_at program slot) (le4 program (8 * slot + 12)) slot s
  unfolding turn_at
  turn-of b s = rw b.looked
