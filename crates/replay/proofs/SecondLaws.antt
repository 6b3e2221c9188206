-- Which slots are second halves of wide loads. Behind a slot is one exactly where the slot begins a wide load (`opens`, `opened`), and no two stand
-- side by side (`never-twice`); and the translator's walk over a program, which puts code to every slot that begins an instruction, passes over
-- just these (`walk-halves`), so that it and a run agree on what is a slot.
use Rattle.std.proofs.Common.{Option, Some, None}
use mathlib.Core.Path.{◌≡◌, refl, ◌∙◌, sym}
use mathlib.Core.Bool.{Bool, true, false}
use mathlib.Core.List.{List, [], ◌∷◌, ◌++◌}
use Prim.Native.Nat.{ℕ, zero, suc, ◌+◌, ◌*◌, ◌<◌}
use native.Mathlib.Nat.{add-zero, zero-add}
use native.Mathlib.Numerals.{add-one}
use native.Mathlib.Omega.{arith}
use lib.Dec.{ltb, leb}
use lib.ListN.{length, get_or}
use borrow.Author.Tests.{eqb-true}
use Rattle.base.specs.Pick.{pick}
use Rattle.base.specs.Table.{values}
use Rattle.base.proofs.Table.{agree}
use Rattle.ebpf.specs.Insn.{insn_at, read_at}
use Rattle.ebpf.specs.Opcode.{kind_of}
use Rattle.ebpf.specs.declared.insn.Insn.{Insn}
use Rattle.ebpf.specs.declared.kind.Kind.{Kind}
use Rattle.ebpf.specs.declared.kind.Lookup.{Lookup}
use Rattle.ebpf.specs.declared.kind.Lookup.TheVariants.{Known, Unimplemented, Unknown}
use Rattle.jit.specs.declared.Mode.{Mode}
use Rattle.jit.specs.declared.Refusal.{Refusal}
use Rattle.jit.specs.Translation.{Filter, Inputs, Block, wide_kind, Operand, lacks, has, operand_of}
use Rattle.jit.specs.Translation.{Step, stop, go, taken, known, good_registers, step_read, step_at}
use Rattle.jit.specs.Translation.{Walk, refused, done, within, after, rest, walk_of, slots_in, slots_wide}
use Rattle.replay.specs.Run.{opcode_at, is_wide, is_second}

module _ (program : List ℕ) (slot : ℕ) where
  pub opens : is_second program slot ≡ false → opcode_at program slot ≡ 0x18 → is_second program (slot + 1) ≡ true
  unfolding is_second
  opens e o = rw (add-one, e, o)

  pub opened : is_second program (slot + 1) ≡ true → (is_second program slot ≡ false) × (opcode_at program slot ≡ 0x18)
  unfolding is_second
  opened h = by (is_second program slot) refl (rw add-one at h)
    where
      by : (t : Bool) → is_second program slot ≡ t → pick t false (is_wide (opcode_at program slot)) ≡ true
          → (is_second program slot ≡ false) × (opcode_at program slot ≡ 0x18)
      by true e f = let z : ◌≡◌ {A = ℕ} 0 1 = cc in absurd (omega arith)
      by false e f = (e, eqb-true (opcode_at program slot) 0x18 f)

  pub never-twice : is_second program slot ≡ true → is_second program (slot + 1) ≡ false
  unfolding is_second
  never-twice e = rw (add-one, e)

-- THE TRANSLATOR'S WALK. An opcode begins a wide load where its kind says so.
abbrev wide_lookup : Lookup → Bool
wide_lookup Unknown = false
wide_lookup Unimplemented = false
wide_lookup (Known k) = wide_kind k

wide-table : values is_wide 0 256 ≡ values (λ o. wide_lookup (kind_of o)) 0 256
unfolding kind_of
wide-table = refl

wide-kind : (o : ℕ) → o < 256 → is_wide o ≡ wide_lookup (kind_of o)
wide-kind o h = agree is_wide (λ o. wide_lookup (kind_of o)) 256 wide-table o h

module _ {b : Block} where
  taken-wide : (m : Mode) (k : Kind) (slot : ℕ) (i : Insn) (o : Operand) → taken m k slot i o ≡ go b → b.wide ≡ wide_kind k
  taken-wide m k slot i (lacks r) e = let z : ◌≡◌ {A = ℕ} 0 1 = cc in absurd (omega arith)
  taken-wide m k slot i (has v) e = cc

  known-wide : (filter : Filter) (k : Lookup) (slot : ℕ) (i : Insn) (next : Option Insn) → known filter k slot i next ≡ go b → b.wide ≡ wide_lookup k
  known-wide filter Unknown slot i next e = let z : ◌≡◌ {A = ℕ} 0 1 = cc in absurd (omega arith)
  known-wide filter Unimplemented slot i next e = let z : ◌≡◌ {A = ℕ} 0 1 = cc in absurd (omega arith)
  known-wide filter (Known k) slot i next e = taken-wide filter.mode k slot i (operand_of filter k slot i next) e

  good-wide : (filter : Filter) (slot : ℕ) (i : Insn) (next : Option Insn) (good : Bool) (r : Refusal)
      → pick good (known filter (kind_of i.opc) slot i next) (stop r) ≡ go b → b.wide ≡ wide_lookup (kind_of i.opc)
  good-wide filter slot i next true r e = known-wide filter (kind_of i.opc) slot i next e
  good-wide filter slot i next false r e = let z : ◌≡◌ {A = ℕ} 0 1 = cc in absurd (omega arith)

  read_wide : (filter : Filter) (slot : ℕ) (i : Insn) (next : Option Insn) (torn : Bool)
      → step_read filter slot (pick torn None (Some i)) next ≡ go b → b.wide ≡ wide_lookup (kind_of i.opc)
  read_wide filter slot i next true e = let z : ◌≡◌ {A = ℕ} 0 1 = cc in absurd (omega arith)
  read_wide filter slot i next false e = good-wide filter slot i next (good_registers i) _ e

  pub step-wide : (filter : Filter) (slot : ℕ) → opcode_at filter.program slot < 256 → step_at filter slot ≡ go b
      → is_wide (opcode_at filter.program slot) ≡ b.wide
  unfolding step_at read_at insn_at
  step-wide filter slot h e =
      wide-kind (opcode_at filter.program slot) h
      ∙ sym (read_wide filter slot (insn_at filter.program slot) _ (ltb (length filter.program) (8 * slot + 8)) e)

-- which of a block's slots, and of the slots of blocks, are second halves
abbrev halves_of : (wide : Bool) → List Bool
halves_of true = false ∷ true ∷ []
halves_of false = false ∷ []

abbrev pub halves : List Block → List Bool
halves [] = []
halves (b ∷ bs) = halves_of b.wide ++ halves bs

length-halves : (bs : List Block) → length (halves bs) ≡ slots_in bs
length-halves [] = refl
length-halves (b ∷ bs) = by b.wide (length-halves bs)
  where
    by : (w : Bool) → length (halves bs) ≡ slots_in bs → length (halves_of w ++ halves bs) ≡ slots_wide w + slots_in bs
    by true e = omega (arith, e)
    by false e = omega (arith, e)

module _ (program : List ℕ) where
  -- from a slot on that is no second half, the second halves are those of blocks
  abbrev From : (slot : ℕ) → List Bool → Type 0
  From slot hs = is_second program slot ≡ false → (k : ℕ) → k < length hs → is_second program (slot + k) ≡ get_or hs k false

  one_more : (wide : Bool) (hs : List Bool) (slot : ℕ) → is_wide (opcode_at program slot) ≡ wide → From (slot + slots_wide wide) hs
      → From slot (halves_of wide ++ hs)
  unfolding is_second
  one_more true hs slot o f e zero l = rw (add-zero slot) e
  one_more true hs slot o f e (suc zero) l = rw (add-one, e) o
  one_more true hs slot o f e (suc (suc k)) l =
      let there : is_second program (suc slot) ≡ true = rw e o in
      let two : slot + 2 ≡ suc (suc slot) = omega arith in
      let same : slot + suc (suc k) ≡ slot + 2 + k = omega arith in
      rw same (f (rw (two, there)) k (omega arith))
  one_more false hs slot o f e zero l = rw (add-zero slot) e
  one_more false hs slot o f e (suc k) l =
      let same : slot + suc k ≡ slot + 1 + k = omega arith in
      rw same (f (rw (add-one, e) o) k (omega arith))

module _ (filter : Filter) (page : ℕ) (bytes : (k : ℕ) → get_or filter.program k 0 < 256) where
  by-walk : (slot : ℕ) (b : Block) (w : Walk) (fits : Bool) (bs : List Block) → step_at filter slot ≡ go b → within fits slot b w ≡ done bs
      → ((cs : List Block) → w ≡ done cs → From filter.program (slot + slots_wide b.wide) (halves cs)) → From filter.program slot (halves bs)
  by-walk slot b w false bs e q f = let z : ◌≡◌ {A = ℕ} 0 1 = cc in absurd (omega arith)
  by-walk slot b (refused r) true bs e q f = let z : ◌≡◌ {A = ℕ} 0 1 = cc in absurd (omega arith)
  by-walk slot b (done cs) true bs e q f =
      let same : b ∷ cs ≡ bs = cc in
      rw (← same) (one_more filter.program b.wide (halves cs) slot (step-wide filter slot (bytes (8 * slot)) e) (f cs refl))

  by-step : (slot place : ℕ) (step : Step) (k : ℕ → ℕ → Walk) (bs : List Block) → step_at filter slot ≡ step → after page slot place step k ≡ done bs
      → ((s p : ℕ) (cs : List Block) → k s p ≡ done cs → From filter.program s (halves cs)) → From filter.program slot (halves bs)
  by-step slot place (stop r) k bs e q f = let z : ◌≡◌ {A = ℕ} 0 1 = cc in absurd (omega arith)
  by-step slot place (go b) k bs e q f = by-walk slot b (k (slot + slots_wide b.wide) _) (leb _ page) bs e q (λ cs g. f _ _ cs g)

  rest-halves : (fuel slot place : ℕ) (bs : List Block) → rest fuel filter page slot place ≡ done bs → From filter.program slot (halves bs)
  unfolding rest
  rest-halves zero slot place bs q = let same : bs ≡ [] = cc in rw same (λ e k l. absurd (omega (arith, l)))
  rest-halves (suc fuel) slot place bs q = by (ltb (8 * slot) (length filter.program)) (λ s p cs g. rest-halves fuel s p cs g) q
    where
      by : (t : Bool) → ((s p : ℕ) (cs : List Block) → rest fuel filter page s p ≡ done cs → From filter.program s (halves cs))
          → pick t (after page slot place (step_at filter slot) (λ s p. rest fuel filter page s p)) (done []) ≡ done bs
          → From filter.program slot (halves bs)
      by true f g = by-step slot place (step_at filter slot) (λ s p. rest fuel filter page s p) bs refl g f
      by false f g = let same : bs ≡ [] = cc in rw same (λ e k l. absurd (omega (arith, l)))

-- where every slot is translated, a slot is a second half for a run where it is one for the walk
pub walk-halves : (x : Inputs) (bs : List Block) → ((k : ℕ) → get_or x.filter.program k 0 < 256) → walk_of x ≡ done bs
    → (k : ℕ) → k < slots_in bs → is_second x.filter.program k ≡ get_or (halves bs) k false
unfolding is_second
walk-halves x bs bytes e k l =
    let first = rest-halves x.filter x.page bytes _ 0 _ bs e in
    rw zero-add at (first refl k (rw (length-halves bs) l))
