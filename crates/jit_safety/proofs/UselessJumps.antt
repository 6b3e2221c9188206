-- What LANDING rules out by itself of the jumps that are not listed, of any code, instructions and tables, not only of those that
-- `translation_of` gives: a jump or a call that nothing lists, a prologue that calls nothing, and a skip that is no division's, goes too far
-- or not far enough, or leaves its slot.
use mathlib.Core.Path.{◌≡◌, refl, sym, ◌∙◌}
use mathlib.Core.Logic.{◌≢◌}
use mathlib.Core.List.{List, [], ◌∷◌, ◌++◌}
use Prim.Native.Nat.{ℕ, ◌+◌, ◌-◌, ◌≤◌, ◌<◌}
use native.Mathlib.Omega.{arith}
use lib.ListN.{length, get_or}
use Rattle.base.specs.declared.Width.{Width}
use Rattle.ebpf.specs.Insn.{insn_at}
use Rattle.ebpf.specs.Opcode.{kind_of}
use Rattle.ebpf.specs.declared.kind.Source.TheVariants.{Reg}
use Rattle.ebpf.specs.declared.kind.MulOp.TheVariants.{Div}
use Rattle.ebpf.specs.declared.kind.Kind.TheVariants.{MulDivMod}
use Rattle.ebpf.specs.declared.kind.Lookup.TheVariants.{Known}
use Rattle.x86.specs.Instr.{Instr, Plain, op, Cond, JNE, Jump, jmp, call, jcc, jump}
use Rattle.x86.specs.Encode.{len}
use Rattle.x86.specs.Code.{size}
use Rattle.x86.proofs.CodeLaws.{size-append}
use Rattle.jit.specs.Frame.{prologue}
use Rattle.jit.specs.Translation.{Inputs, Block, flat}
use Rattle.x86_machine.specs.Machine.{follow}
use Rattle.x86.proofs.ReadsLaws.{len-some}
use Rattle.jit_safety.specs.Demand3.{blocks_of, Stands, SlotAt, Skips, Unlisted, listed, entry, skip, Enters, Landing}
use Rattle.jit_safety.proofs.UselessLanding.{one-stands}

-- The prologue's call: something else stands there, and a call that goes elsewhere.
pub no-entry : (x : Inputs) (is : List (Instr ℕ)) (i : Instr ℕ) → Stands is (size (prologue x.flags) - 10) i → ((v : ℕ) → i ≢ jump call v)
    → Enters x is → ⊥
no-entry x is i s n v = n v.field (one-stands is (size (prologue x.flags) - 10) i (jump call v.field) s v.stands)

pub entry-elsewhere : (x : Inputs) (is : List (Instr ℕ)) (v : ℕ) → Stands is (size (prologue x.flags) - 10) (jump call v)
    → follow (size (prologue x.flags) - 5) v ≢ size (prologue x.flags) → Enters x is → ⊥
entry-elsewhere x is v s n w =
    let q = one-stands is (size (prologue x.flags) - 10) (jump call v) (jump call w.field) s w.stands in
    let z : v ≡ w.field = cc in
    n (rw z w.goes)

-- Two blocks that hold the same byte are one.
same_block : (a d : List Block) (b c : Block) (behind beyond : List Block) (k : ℕ) → a ++ b ∷ behind ≡ d ++ c ∷ beyond
    → size (flat a) < k → k ≤ size (flat a) + size b.code → size (flat d) < k → k ≤ size (flat d) + size c.code → (a ≡ d) × (b ≡ c)
same_block [] [] b c behind beyond k e f g h i = (refl, cc)
same_block [] (y ∷ d) b c behind beyond k e f g h i =
    let t : size b.code ≡ size y.code = cc in
    absurd (omega (arith, t, g, h, size-append y.code (flat d)))
same_block (y ∷ a) [] b c behind beyond k e f g h i =
    let t : size y.code ≡ size c.code = cc in
    absurd (omega (arith, t, f, i, size-append y.code (flat a)))
same_block (y ∷ a) (w ∷ d) b c behind beyond k e f g h i =
    let t : y ≡ w = cc in
    let z : size y.code ≡ size w.code = rw t in
    let n = size-append y.code (flat a) in
    let m = size-append w.code (flat d) in
    let r = same_block a d b c behind beyond (k - size y.code) (cc) (omega (arith, n, f)) (omega (arith, n, f, g)) (omega (arith, m, z, h)) (omega (arith, m, z, h, i)) in
    (rw (t, r.0), r.1)

-- A skip, in the slot that holds it.
module _ (x : Inputs) (j : Jump) (v e : ℕ) (behind : List (Instr ℕ)) (s : Skips x j v e behind) where
  module _ (t q : ℕ) (b : Block) (here : SlotAt x t q b) (from : q < e) (within : e ≤ q + size b.code) where
    its-slot : (s.t ≡ t) × (s.q ≡ q) × (s.block ≡ b)
    its-slot =
        let front = size (prologue x.flags) in
        let o = s.slot in
        let r = same_block o.ahead here.ahead s.block b o.behind here.behind (e - front) (sym o.split ∙ here.split)
        (omega (arith, o.place, s.from, len-some {D = ℕ} (jump j v)))
        (omega (arith, o.place, s.goes, s.within)) (omega (arith, here.place, from)) (omega (arith, here.place, within)) in
        let h = r.0 in
        (sym o.number ∙ rw h here.number, sym o.place ∙ rw h here.place, r.1)

    -- that goes out of it
    pub skip-out-of-slot : q + size b.code ≤ follow e v → ⊥
    skip-out-of-slot h =
        let z = its-slot in
        let n : s.q + size s.block.code ≡ q + size b.code = rw (z.1, z.2) in
        omega (arith, h, n, s.within, len-some s.next)

    -- that stands in one which does not divide by a register
    pub skip-without-division : ((w : Width) → kind_of (insn_at x.filter.program t).opc ≢ Known (MulDivMod Div w Reg)) → ⊥
    skip-without-division n = n s.width (rw its-slot.0 at s.divides)

  -- that begins in the prologue, and that goes to the epilogue
  pub skip-in-prologue : e < size (prologue x.flags) + len {D = ℕ} (jump j v) → ⊥
  skip-in-prologue h = omega (arith, h, s.from, s.slot.place)

  pub skip-to-epilogue : size (prologue x.flags) + size (flat (blocks_of x)) ≤ follow e v → ⊥
  skip-to-epilogue h =
      let o = s.slot in
      let n : size (flat (blocks_of x)) ≡ size (flat (o.ahead ++ s.block ∷ o.behind)) = rw o.split in
      omega (arith, h, n, more o.ahead, o.place, s.within, len-some s.next)
    where
      more : (a : List Block) → size (flat (a ++ s.block ∷ s.slot.behind)) ≡ size (flat a) + (size s.block.code + size (flat s.slot.behind))
      more [] = omega (arith, size-append s.block.code (flat s.slot.behind))
      more (y ∷ a) = rw (size-append y.code (flat (a ++ s.block ∷ s.slot.behind)), more a, size-append y.code (flat a)) (omega arith)

  -- of another kind; over something else than one instruction and a jump; to another place than behind these
  pub skip-by-another : j ≢ jcc JNE → ⊥
  skip-by-another n = n s.unequal

  pub skip-over-others : (p q : Plain) (more : List (Instr ℕ)) → behind ≡ op p ∷ op q ∷ more → ⊥
  skip-over-others p q more h = let o = s.over in let z : ◌≡◌ {A = ℕ} 0 1 = cc in omega arith

  pub skip-elsewhere : (p : Plain) (f : ℕ) (more : List (Instr ℕ)) → behind ≡ op p ∷ jump jmp f ∷ more
      → follow e v ≢ e + (len {D = ℕ} (op p) + len {D = ℕ} (jump jmp f)) → ⊥
  skip-elsewhere p f more h n =
      let o = s.over in
      let z : s.clear ≡ p = cc in
      n (s.goes ∙ rw z)

-- A jump that no entry lists, in a page that lands.
module _ (x : Inputs) (code : List ℕ) (is : List (Instr ℕ)) (locs fields targets kinds makers : List ℕ)
    (l : Landing x code is locs fields targets kinds makers) where
  abbrev NotListed : ℕ → Type 0
  NotListed e = (k : ℕ) → k < length fields → get_or fields k 0 + 4 ≢ e

  pub unlisted-jump : (p v : ℕ) → Stands is p (jump jmp v) → NotListed (p + 5) → ⊥
  unlisted-jump p v s n = by (l.others p v jmp s)
    where
      by : Unlisted x fields jmp v (p + 5) s.behind → ⊥
      by (listed k h e) = n k h e
      by (entry e h g) = let z : ◌≡◌ {A = ℕ} 0 1 = cc in omega arith
      by (skip d) = skip-by-another x jmp v (p + 5) s.behind d (λ e. let z : ◌≡◌ {A = ℕ} 0 1 = cc in omega arith)

  pub unlisted-condition : (p v : ℕ) (c : Cond) → Stands is p (jump (jcc c) v) → NotListed (p + 6) → c ≢ JNE → ⊥
  unlisted-condition p v c s n m = by (l.others p v (jcc c) s)
    where
      by : Unlisted x fields (jcc c) v (p + 6) s.behind → ⊥
      by (listed k h e) = n k h e
      by (entry e h g) = let z : ◌≡◌ {A = ℕ} 0 1 = cc in omega arith
      by (skip d) = skip-by-another x (jcc c) v (p + 6) s.behind d (λ e. m (cc))

  -- a call elsewhere than in the prologue, as one to slot 0; and one that goes elsewhere than the prologue's
  pub unlisted-call : (p v : ℕ) → Stands is p (jump call v) → NotListed (p + 5) → p + 10 ≢ size (prologue x.flags) → ⊥
  unlisted-call p v s n m = by (l.others p v call s)
    where
      by : Unlisted x fields call v (p + 5) s.behind → ⊥
      by (listed k h e) = n k h e
      by (entry e h g) = m (omega (arith, h))
      by (skip d) = skip-by-another x call v (p + 5) s.behind d (λ e. let z : ◌≡◌ {A = ℕ} 0 1 = cc in omega arith)

  pub unlisted-call-elsewhere : (p v : ℕ) → Stands is p (jump call v) → NotListed (p + 5) → follow (p + 5) v ≢ size (prologue x.flags) → ⊥
  unlisted-call-elsewhere p v s n m = by (l.others p v call s)
    where
      by : Unlisted x fields call v (p + 5) s.behind → ⊥
      by (listed k h e) = n k h e
      by (entry e h g) = m g
      by (skip d) = skip-by-another x call v (p + 5) s.behind d (λ e. let z : ◌≡◌ {A = ℕ} 0 1 = cc in omega arith)

  -- a JNE that no entry lists in a slot that does not divide, and one that goes out of its slot
  module _ (p v : ℕ) (s : Stands is p (jump (jcc JNE) v)) (n : NotListed (p + 6)) (t q : ℕ) (b : Block) (here : SlotAt x t q b) (from : q < p + 6)
      (within : p + 6 ≤ q + size b.code) where
    abbrev Skipping : Type 0
    Skipping = Skips x (jcc JNE) v (p + 6) s.behind

    a-skip : Unlisted x fields (jcc JNE) v (p + 6) s.behind → Skipping
    a-skip (listed k h e) = absurd (n k h e)
    a-skip (entry e h g) = let z : ◌≡◌ {A = ℕ} 0 1 = cc in absurd (omega arith)
    a-skip (skip d) = d

    abbrev there : Skipping
    there = a-skip (l.others p v (jcc JNE) s)

    pub unlisted-without-division : ((w : Width) → kind_of (insn_at x.filter.program t).opc ≢ Known (MulDivMod Div w Reg)) → ⊥
    unlisted-without-division = skip-without-division x (jcc JNE) v (p + 6) s.behind there t q b here from within

    pub unlisted-out-of-slot : q + size b.code ≤ follow (p + 6) v → ⊥
    unlisted-out-of-slot = skip-out-of-slot x (jcc JNE) v (p + 6) s.behind there t q b here from within

  -- a prologue with no call
  pub prologue-calls-nothing : (i : Instr ℕ) → Stands is (size (prologue x.flags) - 10) i → ((v : ℕ) → i ≢ jump call v) → ⊥
  prologue-calls-nothing i s n = no-entry x is i s n l.enters
