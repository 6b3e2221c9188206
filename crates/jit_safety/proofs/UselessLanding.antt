-- What LANDING rules out by itself of the jumps that are listed, of any code, instructions and tables, not only of those that
-- `translation_of` gives: tables that do not fit together, fields that are no jump's, unfilled, measured from the wrong place or otherwise
-- wrong, locations that are not where the slots begin, another epilogue, and a kind or a maker that is not the jump's.
use mathlib.Core.Path.{◌≡◌, refl, ap, sym, ◌∙◌}
use mathlib.Core.Logic.{◌≢◌}
use mathlib.Core.List.{List, [], ◌∷◌, ◌++◌}
use Prim.Native.Nat.{ℕ, ◌+◌, ◌-◌, ◌%◌, ◌^◌, ◌≤◌, ◌<◌}
use native.Mathlib.Omega.{arith}
use native.Mathlib.Nat.{mod-eq_of_lt, add-zero}
use lib.ListN.{length, get_or, take, drop, length-append}
use Rattle.base.specs.Bytes.{le32, join}
use Rattle.base.proofs.BytesLaws.{join-le32}
use Rattle.base.proofs.Tests.{eqb-true, eqb-false}
use Rattle.base.specs.declared.Width.TheVariants.{W64}
use Rattle.x86.specs.Registers.{RSP}
use Rattle.x86.specs.Instr.{Instr, op, alu_imm, ADD, Jump, jump}
use Rattle.x86.specs.Encode.{isa, rex, len, jump_kind}
use Rattle.x86.specs.Code.{size}
use Rattle.jit.specs.Limits.{anchor}
use Rattle.jit.specs.Frame.{prologue}
use Rattle.jit.specs.Translation.{Inputs, Block, slots_wide, place_of}
use Rattle.jit.proofs.Bounds.{wide-some}
use Rattle.jit.specs.Translation.{slots_in}
use Rattle.x86_machine.specs.Machine.{follow}
use Rattle.code.specs.Code.{span}
use Rattle.code.proofs.Placed.{span-append, unique}
use Rattle.x86.proofs.ReadsLaws.{len-some}
use Rattle.code.proofs.LandingLaws.{measured, follow-to}
use Rattle.code.specs.Landing.{Within}
use Rattle.jit_safety.specs.Demand3.{blocks_of, page_for, Stands, SlotAt, leaving, ExitAt, Meant, slot, exit, first, of_slot, of_prologue, Landing}

-- One instruction stands at a place, and one ends at a place.
pub one-stands : (is : List (Instr ℕ)) (p : ℕ) (i j : Instr ℕ) → Stands is p i → Stands is p j → i ≡ j
one-stands is p i j a b =
    unique len len-some a.before b.before i j a.behind b.behind (sym a.split ∙ b.split) (a.place ∙ sym b.place)

one-ends : (is : List (Instr ℕ)) (p q : ℕ) (i j : Instr ℕ) → Stands is p i → Stands is q j → p + len i ≡ q + len j → i ≡ j
one-ends is p q i j a b e =
    by a.before b.before (sym a.split ∙ b.split) (omega (arith, a.place, b.place, e))
  where
    by : (pre qre : List (Instr ℕ)) → pre ++ i ∷ a.behind ≡ qre ++ j ∷ b.behind → span len pre + len i ≡ span len qre + len j → i ≡ j
    by [] [] h z = cc
    by [] (y ∷ qre) h z = let t : len i ≡ len y = cc in absurd (omega (arith, len-some j))
    by (y ∷ pre) [] h z = let t : len y ≡ len j = cc in absurd (omega (arith, len-some i))
    by (y ∷ pre) (w ∷ qre) h z =
        let t : len y ≡ len w = cc in
        by pre qre (cc) (omega (arith, t, z))

-- A slot begins at one place, and has one block.
one_block : (x : Inputs) (t p q : ℕ) (b c : Block) → SlotAt x t p b → SlotAt x t q c → (p ≡ q) × (b ≡ c)
one_block x t p q b c v w =
    let ahead = same v.ahead w.ahead (sym v.split ∙ w.split) (v.number ∙ sym w.number) in
    (sym v.place ∙ rw ahead w.place, here w.ahead (sym (rw ahead at v.split) ∙ w.split))
  where
    here : (a : List Block) → a ++ b ∷ v.behind ≡ a ++ c ∷ w.behind → b ≡ c
    here [] e = cc
    here (y ∷ a) e = here a (cc)

    same : (a d : List Block) → a ++ b ∷ v.behind ≡ d ++ c ∷ w.behind → slots_in a ≡ slots_in d → a ≡ d
    same [] [] e z = refl
    same [] (y ∷ d) e z = absurd (omega (arith, wide-some y.wide))
    same (y ∷ a) [] e z = absurd (omega (arith, wide-some y.wide))
    same (y ∷ a) (u ∷ d) e z =
        let h : y ≡ u = cc in
        let k : slots_wide y.wide ≡ slots_wide u.wide = cc in
        rw (h, same a d (cc) (omega (arith, k, z)))

pub one-slot : (x : Inputs) (t p q : ℕ) (b c : Block) → SlotAt x t p b → SlotAt x t q c → p ≢ q → ⊥
one-slot x t p q b c v w n = n (one_block x t p q b c v w).0

-- no slot has a number past the last one's
pub no-such-slot : (x : Inputs) (t q : ℕ) (b : Block) → slots_in (blocks_of x) ≤ t → SlotAt x t q b → ⊥
no-such-slot x t q b h v = let n : slots_in (blocks_of x) ≡ slots_in (v.ahead ++ b ∷ v.behind) = rw v.split in omega (arith, n, more v.ahead, wide-some b.wide, v.number)
  where
    more : (a : List Block) → slots_in (a ++ b ∷ v.behind) ≡ slots_in a + (slots_wide b.wide + slots_in v.behind)
    more [] = omega arith
    more (y ∷ a) = rw (more a) (omega arith)

-- The exit is the epilogue: another that is as long, one that adds 504, is none; and it lies where the code's last 16 bytes begin, which are
-- those of the last seven instructions.
pub another-epilogue : (code : List ℕ) (is before behind : List (Instr ℕ)) (p : ℕ) → is ≡ before ++ behind → length behind ≡ length leaving → behind ≢ leaving
    → ExitAt code is p → ⊥
another-epilogue code is before behind p e l n v = n (by before v.before (sym e ∙ v.split))
  where
    by : (a b : List (Instr ℕ)) → a ++ behind ≡ b ++ leaving → behind ≡ leaving
    by [] [] q = q
    by [] (y ∷ b) q = let z = length-append b leaving in let m : length behind ≡ length (y ∷ b ++ leaving) = ap length q in absurd (omega (arith, z, m, l))
    by (y ∷ a) [] q = let z = length-append a behind in let m : length (y ∷ a ++ behind) ≡ length leaving = ap length q in absurd (omega (arith, z, m, l))
    by (y ∷ a) (w ∷ b) q = by a b (cc)

abbrev leaving_by : (added : ℕ) → List (Instr ℕ)
leaving_by k = op (alu_imm ADD W64 RSP k) ∷ drop 1 leaving

pub epilogue-of-504 : (code : List ℕ) (is before : List (Instr ℕ)) (p : ℕ) → is ≡ before ++ leaving_by 504 → ExitAt code is p → ⊥
epilogue-of-504 code is before p e v = another-epilogue code is before (leaving_by 504) p e refl (λ q. let z : ◌≡◌ {A = ℕ} 504 512 = cc in omega arith) v

pub exit-elsewhere : (code : List ℕ) (is : List (Instr ℕ)) (p : ℕ) → p + 16 ≢ length code → ExitAt code is p → ⊥
exit-elsewhere code is p n v = n v.ends

pub exit-not-last : (code : List ℕ) (is : List (Instr ℕ)) (p : ℕ) → p + 16 ≢ span len is → ExitAt code is p → ⊥
unfolding rex
exit-not-last code is p n v =
    let s : span len is ≡ span len v.before + 16 = ap (span len) v.split ∙ span-append len v.before leaving in
    n (omega (arith, s, v.place))

-- Where a listed jump has to land: where its target lies by the location table, and for the exit 16 bytes before the end.
lies : (x : Inputs) (code : List ℕ) (is : List (Instr ℕ)) (locs : List ℕ) (t p : ℕ) → Meant x code is locs t p
    → place_of locs (length code - 16) t ≡ p
lies x code is locs t p (slot b l n s e) = rw (eqb-false t anchor n) e
lies x code is locs t p (exit e v) = rw (eqb-true t anchor e) (omega (arith, v.ends))
lies x code is locs t p (first l n m e z) = rw (eqb-false t anchor n) (e ∙ sym z)

-- An entry of the tables, the k-th, in a page that lands.
module _ (x : Inputs) (code : List ℕ) (is : List (Instr ℕ)) (locs fields targets kinds makers : List ℕ)
    (l : Landing x code is locs fields targets kinds makers) (k : ℕ) (h : k < length fields) where
  abbrev at : ℕ
  at = get_or fields k 0

  abbrev aim : ℕ
  aim = get_or targets k 0

  abbrev lying : ℕ
  lying = place_of locs (length code - 16) aim

  -- a field from which the processor goes elsewhere
  pub wrong-field : (v : ℕ) → v < 2 ^ 32 → take 4 (drop at code) ≡ le32 v → follow (at + 4) v ≢ lying → ⊥
  wrong-field v w e n =
      let d = l.listed k h in
      let z : d.field ≡ v = sym (join-le32 d.field d.short) ∙ ap join (sym d.bytes ∙ e) ∙ join-le32 v w in
      n (sym (lies x code is locs aim (follow (at + 4) v) (rw z at d.meant)))

  -- unfilled; measured from its own start, and not from its end; and one byte late
  pub unfilled : at + 4 < 2 ^ 64 → lying ≢ at + 4 → take 4 (drop at code) ≡ le32 0 → ⊥
  unfolding follow
  unfilled g n e =
      let z : follow (at + 4) 0 ≡ at + 4 = ap (λ (n : ℕ). n % 2 ^ 64) (add-zero (at + 4)) ∙ mod-eq_of_lt g in
      wrong-field 0 (omega arith) e (λ q. n (sym q ∙ z))

  pub from_start : at + 4 < 2 ^ 31 → lying + 4 < 2 ^ 31 → take 4 (drop at code) ≡ le32 (measured at lying) → ⊥
  from_start g n e =
      let z : measured at lying ≡ measured (at + 4) (lying + 4) = omega arith in
      let w : follow (at + 4) (measured at lying) ≡ lying + 4 = rw z (follow-to (at + 4) (lying + 4) g n) in
      wrong-field (measured at lying) (omega arith) e (λ q. omega (arith, q, w))

  pub one-byte-late : at + 4 < 2 ^ 31 → lying + 1 < 2 ^ 31 → take 4 (drop at code) ≡ le32 (measured (at + 4) (lying + 1)) → ⊥
  one-byte-late g n e =
      let w : follow (at + 4) (measured (at + 4) (lying + 1)) ≡ lying + 1 = follow-to (at + 4) (lying + 1) g n in
      wrong-field (measured (at + 4) (lying + 1)) (omega arith) e (λ q. omega (arith, q, w))

  -- a field that ends where an instruction ends that is no jump, and one that is not the field that the jump has there
  pub not-a-jump : (p : ℕ) (i : Instr ℕ) → Stands is p i → p + len i ≡ at + 4 → ((j : Jump) (v : ℕ) → i ≢ jump j v) → ⊥
  not-a-jump p i s e n =
      let d = l.listed k h in
      n d.kind d.field (one-ends is p d.begins i (jump d.kind d.field) s d.stands (e ∙ sym d.ends))

  pub other-bytes : (p : ℕ) (j : Jump) (v : ℕ) → Stands is p (jump j v) → p + len {D = ℕ} (jump j v) ≡ at + 4 → take 4 (drop at code) ≢ le32 v → ⊥
  other-bytes p j v s e n =
      let d = l.listed k h in
      let q = one-ends is p d.begins (jump j v) (jump d.kind d.field) s d.stands (e ∙ sym d.ends) in
      let z : v ≡ d.field = cc in
      n (d.bytes ∙ rw z)

  -- a target that has no entry in the location table
  pub no-location : aim ≢ anchor → length locs ≤ aim → ⊥
  no-location n m = by (l.listed k h).meant
    where
      by : {p : ℕ} → Meant x code is locs aim p → ⊥
      by (slot b g a s e) = omega (arith, g, m)
      by (exit e v) = n e
      by (first g a o e z) = omega (arith, g, m)

  -- a slot's location that is not where the slot begins, as one that is left 0
  pub wrong-location : (q : ℕ) (b : Block) → SlotAt x aim q b → aim ≢ anchor → get_or locs aim 0 ≢ q → ⊥
  wrong-location q b v n m = by (l.listed k h).meant
    where
      by : {p : ℕ} → Meant x code is locs aim p → ⊥
      by {p} (slot c g a s e) = one-slot x aim q p b c v s (λ o. m (e ∙ sym o))
      by (exit e v) = n e
      by (first g a o e z) = o q b v

  -- the exit, which is no epilogue, or not the code's last instructions
  pub exit-adds-504 : aim ≡ anchor → (before : List (Instr ℕ)) → is ≡ before ++ leaving_by 504 → ⊥
  exit-adds-504 n before e = by (l.listed k h).meant
    where
      by : {p : ℕ} → Meant x code is locs aim p → ⊥
      by (slot b g a s q) = a n
      by {p} (exit q v) = epilogue-of-504 code is before p e v
      by (first g a o q z) = a n

  -- a jump of another kind than the table names
  pub wrong-kind : (p : ℕ) (j : Jump) (v : ℕ) → Stands is p (jump j v) → p + len {D = ℕ} (jump j v) ≡ at + 4 → jump_kind j ≢ get_or kinds k 0 → ⊥
  wrong-kind p j v s e n =
      let d = l.listed k h in
      let q = one-ends is p d.begins (jump j v) (jump d.kind d.field) s d.stands (e ∙ sym d.ends) in
      let z : j ≡ d.kind = cc in
      n (rw z d.named)

  -- a field before the code of the slot that the table names, or that ends behind it; a slot that there is not; and, where it names n, a
  -- field that ends behind the prologue
  abbrev maker : ℕ
  maker = get_or makers k 0

  module _ (q : ℕ) (b : Block) (s : SlotAt x maker q b) where
    within : (q ≤ at) × (at + 4 ≤ q + size b.code)
    within = by (l.listed k h).maker
      where
        by : Within isa (page_for x) maker at → (q ≤ at) × (at + 4 ≤ q + size b.code)
        by (of_slot p c v from to) =
            let same = one_block x maker q p b c s v in
            rw (same.0, same.1) (from, to)
        by (of_prologue e i) = absurd (no-such-slot x maker q b (omega (arith, e)) s)

    pub before-its-maker : at < q → ⊥
    before-its-maker n = omega (arith, n, within.0)

    pub behind-its-maker : q + size b.code < at + 4 → ⊥
    behind-its-maker n = omega (arith, n, within.1)

  pub no-such-maker : slots_in (blocks_of x) < maker → ⊥
  no-such-maker n = by (l.listed k h).maker
    where
      by : Within isa (page_for x) maker at → ⊥
      by (of_slot p c v from to) = no-such-slot x maker p c (omega (arith, n)) v
      by (of_prologue e i) = omega (arith, n, e)

  pub behind-the-prologue : maker ≡ slots_in (blocks_of x) → size (prologue x.flags) < at + 4 → ⊥
  behind-the-prologue m n = by (l.listed k h).maker
    where
      by : Within isa (page_for x) maker at → ⊥
      by (of_slot p c v from to) = no-such-slot x maker p c (omega (arith, m)) v
      by (of_prologue e i) = omega (arith, n, i)

-- tables of different lengths
module _ (x : Inputs) (code : List ℕ) (is : List (Instr ℕ)) (locs fields targets kinds makers : List ℕ)
    (l : Landing x code is locs fields targets kinds makers) where
  pub pairs-missing : length targets ≢ length fields → ⊥
  pairs-missing n = n l.pairs.0

  pub kinds-missing : length kinds ≢ length fields → ⊥
  kinds-missing n = n l.pairs.1.0

  pub makers-missing : length makers ≢ length fields → ⊥
  makers-missing n = n l.pairs.1.1
