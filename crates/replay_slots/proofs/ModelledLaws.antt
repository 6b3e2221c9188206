-- A slot's code says whether it is LD_ABS, LD_IND or CALL; and the first such slot, found slot by slot.
use mathlib.Core.Path.{◌≡◌, refl, ◌∙◌, ap, sym}
use mathlib.Core.Bool.{Bool, true, false, ◌&&◌, not}
use mathlib.Core.List.{List}
use Prim.Native.Nat.{ℕ, zero, suc, ◌+◌, ◌-◌, ◌≤◌, ◌<◌}
use native.Mathlib.Numerals.{add-one}
use native.Mathlib.Omega.{arith}
use borrow.Author.Tests.{eq-eqb, ne_eqb}
use lib.Dec.{eqb, ltb}
use Rattle.base.specs.Pick.{pick}
use Rattle.ebpf.specs.Insn.{insn_at}
use Rattle.ebpf.specs.Opcode.{kind_of}
use Rattle.ebpf.specs.declared.kind.Kind.{Kind}
use Rattle.ebpf.specs.declared.kind.Kind.TheVariants.{LdAbs, LdInd, LdDwImm, LdReg, StImm, StReg, Alu, Shift, Neg, MulDivMod, Mov, Le, Be, Ja, Jump, Call, Exit}
use Rattle.ebpf.specs.declared.kind.Lookup.{Lookup}
use Rattle.ebpf.specs.declared.kind.Lookup.TheVariants.{Known, Unimplemented, Unknown}
use Rattle.jit.specs.Translation.{slots_of, at, good_registers}
use Rattle.replay.specs.declared.Refusal.TheVariants.{NotModelled}
use Rattle.replay.specs.Report.{runs, refused, not_modelled, first_from}
use Rattle.replay.specs.Run.{kind_at, is_second, opcode_at}
use Rattle.replay_slots.specs.Codes.{not_modelled_code, code_of, code_at}

-- the code 0x80 is no opcode that is known
unknown-opcode : kind_of not_modelled_code ≡ Unknown
unfolding kind_of
unknown-opcode = refl

-- where a slot's opcode is not known, neither is the slot
not_known : (program : List ℕ) (slot : ℕ) → kind_of (opcode_at program slot) ≡ Unknown → kind_at program slot ≡ Unknown
unfolding kind_at insn_at
not_known program slot e = rw e (by (ltb slot (slots_of program) && not (is_second program slot)) (good_registers (insn_at program slot)))
  where
    by : (t u : Bool) → ◌≡◌ {A = Lookup} (pick t (pick u Unknown Unknown) Unknown) Unknown
    by true true = refl
    by true false = refl
    by false u = refl

abbrev Says : Lookup → (code : ℕ) → Type 0
Says l c = eqb c not_modelled_code ≡ not_modelled l

-- an opcode that is known is another
another : (o : ℕ) {k : Kind} → (o ≡ not_modelled_code → Known k ≡ Unknown) → eqb o not_modelled_code ≡ false
another o h = ne_eqb o not_modelled_code (λ e. let q = h e in let z : ◌≡◌ {A = ℕ} 0 1 = cc in omega arith)

says : (o : ℕ) (l : Lookup) → (o ≡ not_modelled_code → l ≡ Unknown) → Says l (code_of l o)
says o Unknown h = refl
says o Unimplemented h = refl
says o (Known (LdAbs z)) h = refl
says o (Known (LdInd z)) h = refl
says o (Known LdDwImm) h = another o h
says o (Known (LdReg z)) h = another o h
says o (Known (StImm z)) h = another o h
says o (Known (StReg z)) h = another o h
says o (Known (Alu p w x)) h = another o h
says o (Known (Shift p w x)) h = another o h
says o (Known (Neg w)) h = another o h
says o (Known (MulDivMod p w x)) h = another o h
says o (Known (Mov w x)) h = another o h
says o (Known Le) h = another o h
says o (Known Be) h = another o h
says o (Known Ja) h = another o h
says o (Known (Jump c w x)) h = another o h
says o (Known Call) h = refl
says o (Known Exit) h = refl

module _ (program : List ℕ) (slot : ℕ) where
  pub code-says : eqb (code_at program slot) not_modelled_code ≡ not_modelled (kind_at program slot)
  code-says = says (opcode_at program slot) (kind_at program slot) (λ e. not_known program slot (ap kind_of e ∙ unknown-opcode))

  -- the slots from one on, of n
  module _ (n : ℕ) (h : slot < n) where
    one_more : n - slot ≡ suc (n - (slot + 1))
    one_more = omega arith

    found : code_at program slot ≡ not_modelled_code → refused (NotModelled (at slot)) ≡ first_from program (n - slot) slot
    found e = rw (one_more, ← code-says, eq-eqb (code_at program slot) not_modelled_code e)

    passed : (code_at program slot ≡ not_modelled_code → ⊥) → first_from program (n - slot) slot ≡ first_from program (n - (slot + 1)) (slot + 1)
    passed e = rw (one_more, ← code-says, ne_eqb (code_at program slot) not_modelled_code e, add-one)

ended : (program : List ℕ) (n slot : ℕ) → n ≤ slot → runs ≡ first_from program (n - slot) slot
ended program n slot h = let z : n - slot ≡ 0 = omega arith in rw z

whole : (program : List ℕ) (n : ℕ) → first_from program (n - 0) 0 ≡ first_from program n 0
whole program n = let z : n - 0 ≡ n = omega arith in rw z

-- the slots ahead of one, none of which is such a slot, decide nothing
module _ (program : List ℕ) (n : ℕ) where
  until : (i : ℕ) → i ≤ n → ((k : ℕ) → k < i → code_at program k ≡ not_modelled_code → ⊥) → first_from program n 0 ≡ first_from program (n - i) i
  until zero h f = sym (whole program n)
  until (suc i) h f =
      let s : i + 1 ≡ suc i = add-one i in
      until i (omega arith) (λ k l. f k (omega arith)) ∙ rw s at (passed program i n (omega arith) (f i (omega arith)))

  pub first-found : (i : ℕ) → i < n → code_at program i ≡ not_modelled_code → ((k : ℕ) → k < i → code_at program k ≡ not_modelled_code → ⊥)
      → refused (NotModelled (at i)) ≡ first_from program n 0
  first-found i h e f = found program i n h e ∙ sym (until i (omega arith) f)

  pub none-found : ((k : ℕ) → k < n → code_at program k ≡ not_modelled_code → ⊥) → runs ≡ first_from program n 0
  none-found f = ended program n n (omega arith) ∙ sym (until n (omega arith) f)
