-- What an accepted translation is made of: the walk's blocks, each the code of one slot whose numbers are in range; and its code, tables
-- and bounds, read off these.
use Rattle.std.proofs.Common.{Option, Some, None}
use mathlib.Core.Path.{◌≡◌, refl, ap, ◌∙◌, subst}
use mathlib.Core.Bool.{Bool, true, false, ◌||◌}
use mathlib.Core.List.{List, [], ◌∷◌, ◌++◌}
use Prim.Native.Nat.{ℕ, zero, suc, ◌+◌, ◌*◌, ◌^◌, ◌≤◌, ◌<◌}
use native.Mathlib.Omega.{arith}
use lib.Dec.{T, leb, ltb, eqb}
use lib.ListN.{length, get_or}
use borrow.Author.Tests.{ltb-true, ltb-false}
use Rattle.base.specs.Pick.{pick}
use Rattle.ebpf.specs.Insn.{le2, extend, insn_at, read_at}
use Rattle.ebpf.specs.Opcode.{kind_of}
use Rattle.ebpf.specs.declared.insn.Insn.{Insn}
use Rattle.ebpf.specs.declared.kind.Kind.{Kind}
use Rattle.ebpf.specs.declared.kind.Kind.TheVariants.{LdAbs, LdInd, LdDwImm, LdReg, StImm, StReg, Alu, Shift, Neg, MulDivMod, Mov, Le, Be, Ja, Jump, Call, Exit}
use Rattle.ebpf.specs.declared.kind.Lookup.{Lookup}
use Rattle.ebpf.specs.declared.kind.Lookup.TheVariants.{Known, Unimplemented, Unknown}
use Rattle.x86.specs.Code.{size, targets_of}
use Rattle.x86.specs.Lowered.{code_of, fields_of}
use Rattle.x86.proofs.CodeLaws.{targets-append, length-bytes}
pub use Rattle.code.proofs.PageLaws.{Goods, goods-append}
use Rattle.jit.specs.declared.Refusal.{Refusal}
use Rattle.base.proofs.Tests.{true-T}
use Rattle.base.specs.declared.Slot.{Slot}
use Rattle.jit.specs.declared.Flags.{Flags}
use Rattle.jit.specs.declared.Mode.{Mode}
use Rattle.jit.specs.Limits.{shortest_page, longest_page, longest_program, anchor}
use Rattle.jit.specs.Room.{longest_code}
use Rattle.jit.specs.Frame.{prologue, epilogue}
use Rattle.jit.proofs.FrameLaws.{prologue-targets, epilogue-targets}
use Rattle.jit.specs.Translation.{Filter, Inputs, slots_of, found, helper_of, Block, block_of, Operand, lacks, has, wide_value, swap_bits, le_bits, swap_value, helper_value, operand_of, Step}
use Rattle.jit.specs.Translation.{stop, go, taken, known, good_registers, step_read, step_at, Walk, refused, done, slots_wide, slots_in, within, after, rest, flat}
use Rattle.jit.specs.Translation.{good_target, bad_in, or_else, first_bad, Outcome, no, yes, whole, locations, place_of, accepted, unless_bad, finish, walk_of}
use Rattle.jit.specs.Passes.{exit_of}
use Rattle.jit.specs.Translation.{bad_helpers, short_table, sizes_of, translation_of}
use Rattle.jit.proofs.Counted.{all_slots, length-locations}
use Rattle.jit.proofs.Bounds.{Bound, bounds}
use Rattle.jit_safety.specs.Demand3.{Given}
use Rattle.jit_safety.proofs.NotedCode.{Numbers}

-- a block that a slot gave
pub record Origin (slot : ℕ) (b : Block) : Type 0 where
  pub mode : Mode
  pub kind : Kind
  pub insn : Insn
  pub value : ℕ
  pub same : b ≡ block_of mode kind slot insn value
  pub numbers : Numbers slot insn value

-- the slot is the filter's: its opcode has that kind, and its step gave the block
pub record OriginIn (filter : Filter) (slot : ℕ) (b : Block) : Type 0 where
  pub origin : Origin slot b
  pub looked : kind_of (insn_at filter.program slot).opc ≡ Known origin.kind
  pub step : step_at filter slot ≡ go b

abbrev Comes : (filter : Filter) → ℕ → Step → Type 0
Comes filter slot (stop r) = Unit {0}
Comes filter slot (go b) = step_at filter slot ≡ go b → OriginIn filter slot b

-- One slot.
module _ (x : Inputs) (given : Given x) where
  -- the fields of a slot
  extend-lt : (n : ℕ) → n < 2 ^ 16 → extend n < 2 ^ 32
  extend-lt n h = by (ltb n 32768)
    where
      by : (t : Bool) → pick t n (n + 4294901760) < 2 ^ 32
      by true = omega arith
      by false = omega arith

  off-lt : (slot : ℕ) → (insn_at x.filter.program slot).off < 2 ^ 32
  unfolding insn_at
  off-lt slot =
      let at = 8 * slot + 2 in
      extend-lt (le2 x.filter.program at) (omega (arith, given.bytes at, given.bytes (at + 1)))

  pub imm_lt : (slot : ℕ) → (insn_at x.filter.program slot).imm < 2 ^ 32
  unfolding insn_at
  imm_lt slot =
      let at = 8 * slot + 4 in
      omega (arith, given.bytes at, given.bytes (at + 1), given.bytes (at + 2), given.bytes (at + 3))

  helper-lt : (ids addresses : List ℕ) (id : ℕ) → ((k : ℕ) → get_or addresses k 0 < 2 ^ 64) → (a : ℕ) → helper_of ids addresses id ≡ Some a
      → a < 2 ^ 64
  unfolding helper_of
  helper-lt [] addresses id h a e = let z : ◌≡◌ {A = ℕ} 0 1 = cc in absurd (omega arith)
  helper-lt (i ∷ ids) [] id h a e = let z : ◌≡◌ {A = ℕ} 0 1 = cc in absurd (omega arith)
  helper-lt (i ∷ ids) (b ∷ addresses) id h a e = by (eqb i id) e (λ q. helper-lt ids addresses id (λ k. h (suc k)) a q)
    where
      by : (t : Bool) → found t b (helper_of ids addresses id) ≡ Some a → (helper_of ids addresses id ≡ Some a → a < 2 ^ 64) → a < 2 ^ 64
      by true q ih = let z : b ≡ a = cc in omega (arith, h 0)
      by false q ih = ih q

  module _ (slot : ℕ) (small : slot < 2 ^ 32) where
    abbrev Looks : Lookup → Type 0
    Looks l = kind_of (insn_at x.filter.program slot).opc ≡ l

    comes : (k : Kind) (value : ℕ) → value < 2 ^ 64 → Looks (Known k) → Comes x.filter slot (go (block_of x.filter.mode k slot (insn_at x.filter.program slot) value))
    comes k value h e q =
        let n : Numbers slot (insn_at x.filter.program slot) value = record { here = small; off = off-lt slot; imm = imm_lt slot; wide = h } in
        record { origin = record { mode = x.filter.mode; kind = k; insn = insn_at x.filter.program slot; value = value; same = refl; numbers = n }; looked = e; step = q }

    abbrev Taken : Kind → Operand → Type 0
    Taken k o = Looks (Known k) → Comes x.filter slot (taken x.filter.mode k slot (insn_at x.filter.program slot) o)

    taken-wide : (t : Bool)
        → Taken LdDwImm (wide_value slot (insn_at x.filter.program slot) (pick t None (Some (insn_at x.filter.program (slot + 1)))))
    taken-wide true e = tt
    taken-wide false e = comes LdDwImm _ (omega (arith, imm_lt slot, imm_lt (slot + 1))) e

    taken-swap : (k : Kind) (t : Bool) → Taken k (swap_value t slot)
    taken-swap k true e = comes k 0 (omega arith) e
    taken-swap k false e = tt

    abbrev helper : Option ℕ
    helper = helper_of x.filter.ids x.filter.addresses (insn_at x.filter.program slot).imm

    taken-helper : (h : Option ℕ) → helper ≡ h → Taken Call (helper_value slot h)
    taken-helper (Some a) q e = comes Call a (helper-lt x.filter.ids x.filter.addresses _ given.addresses a q) e
    taken-helper None q e = tt

    taken-call : (s t : Bool)
        → Taken Call (pick s (helper_value slot helper) (pick t (has 0) (lacks (Refusal.BadCall (record { number = slot })))))
    taken-call true t e = taken-helper helper refl e
    taken-call false true e = comes Call 0 (omega arith) e
    taken-call false false e = tt

    taken-kind : (k : Kind) → Taken k (operand_of x.filter k slot (insn_at x.filter.program slot) (read_at x.filter.program (slot + 1)))
    unfolding read_at
    taken-kind (LdAbs z) = comes (LdAbs z) 0 (omega arith)
    taken-kind (LdInd z) = comes (LdInd z) 0 (omega arith)
    taken-kind LdDwImm = taken-wide (ltb (length x.filter.program) (8 * (slot + 1) + 8))
    taken-kind (LdReg z) = comes (LdReg z) 0 (omega arith)
    taken-kind (StImm z) = comes (StImm z) 0 (omega arith)
    taken-kind (StReg z) = comes (StReg z) 0 (omega arith)
    taken-kind (Alu o w s) = comes (Alu o w s) 0 (omega arith)
    taken-kind (Shift o w s) = comes (Shift o w s) 0 (omega arith)
    taken-kind (Neg w) = comes (Neg w) 0 (omega arith)
    taken-kind (MulDivMod o w s) = comes (MulDivMod o w s) 0 (omega arith)
    taken-kind (Mov w s) = comes (Mov w s) 0 (omega arith)
    taken-kind Le = taken-swap Le (le_bits x.filter.mode (insn_at x.filter.program slot).imm)
    taken-kind Be = taken-swap Be (swap_bits (insn_at x.filter.program slot).imm)
    taken-kind Ja = comes Ja 0 (omega arith)
    taken-kind (Jump c w s) = comes (Jump c w s) 0 (omega arith)
    taken-kind Call = taken-call (eqb (insn_at x.filter.program slot).src 0) (eqb (insn_at x.filter.program slot).src 1)
    taken-kind Exit = comes Exit 0 (omega arith)

    abbrev step : Lookup → Step
    step l = known x.filter l slot (insn_at x.filter.program slot) (read_at x.filter.program (slot + 1))

    known-comes : (l : Lookup) → Looks l → Comes x.filter slot (step l)
    known-comes Unknown e = tt
    known-comes Unimplemented e = tt
    known-comes (Known k) e = taken-kind k e

    registers-comes : (t : Bool) (l : Lookup) → Looks l → Comes x.filter slot (pick t (step l) (stop (Refusal.BadRegister (record { number = slot }))))
    registers-comes true l e = known-comes l e
    registers-comes false l e = tt

    step-comes : Comes x.filter slot (step_at x.filter slot)
    unfolding step_at read_at
    step-comes = by (ltb (length x.filter.program) (8 * slot + 8))
      where
        by : (t : Bool)
            → Comes x.filter slot
            (step_read x.filter slot (pick t None (Some (insn_at x.filter.program slot)))
            (read_at x.filter.program (slot + 1)))
        by true = tt
        by false = let i = insn_at x.filter.program slot in registers-comes (good_registers i) (kind_of i.opc) refl

-- All slots.
abbrev pub Origins : ℕ → List Block → Type 0
Origins slot [] = Unit {0}
Origins slot (b ∷ bs) = Origin slot b × Origins (slot + slots_wide b.wide) bs

abbrev pub OriginsIn : (filter : Filter) → ℕ → List Block → Type 0
OriginsIn filter slot [] = Unit {0}
OriginsIn filter slot (b ∷ bs) = OriginIn filter slot b × OriginsIn filter (slot + slots_wide b.wide) bs

pub origins-of : (filter : Filter) (slot : ℕ) (bs : List Block) → OriginsIn filter slot bs → Origins slot bs
origins-of filter slot [] o = tt
origins-of filter slot (b ∷ bs) o = (o.0.origin, origins-of filter (slot + slots_wide b.wide) bs o.1)

-- the block that begins at a slot is that slot's
pub origin-at : (filter : Filter) (n : ℕ) (ahead : List Block) (b : Block) (behind : List Block) → OriginsIn filter n (ahead ++ b ∷ behind)
    → OriginIn filter (n + slots_in ahead) b
origin-at filter n [] b behind o = subst (λ (n : ℕ). OriginIn filter n b) (omega arith) o.0
origin-at filter n (a ∷ ahead) b behind o =
    subst (λ (n : ℕ). OriginIn filter n b) (omega arith) (origin-at filter (n + slots_wide a.wide) ahead b behind o.1)

abbrev Came : (filter : Filter) → ℕ → Walk → Type 0
Came filter slot (refused r) = Unit {0}
Came filter slot (done bs) = OriginsIn filter slot bs

module _ (x : Inputs) (given : Given x) (few : length x.filter.program ≤ longest_program) where
  came-within : (t : Bool) (slot : ℕ) (b : Block) (w : Walk) → OriginIn x.filter slot b → Came x.filter (slot + slots_wide b.wide) w
      → Came x.filter slot (within t slot b w)
  came-within true slot b (refused r) h g = tt
  came-within true slot b (done bs) h g = (h, g)
  came-within false slot b w h g = tt

  came-after : (slot place : ℕ) (s : Step) (k : ℕ → ℕ → Walk) → step_at x.filter slot ≡ s → Comes x.filter slot s → ((t p : ℕ) → Came x.filter t (k t p))
      → Came x.filter slot (after x.page slot place s k)
  came-after slot place (stop r) k e h g = tt
  came-after slot place (go b) k e h g =
      let next = slot + slots_wide b.wide in
      let p = place + size b.code in
      came-within (leb p x.page) slot b (k next p) (h e) (g next p)

  came-rest : (fuel slot place : ℕ) → Came x.filter slot (rest fuel x.filter x.page slot place)
  unfolding rest
  came-rest zero slot place = tt
  came-rest (suc fuel) slot place = by (ltb (8 * slot) (length x.filter.program)) refl (λ t p. came-rest fuel t p)
    where
      more : ℕ → ℕ → Walk
      more s p = rest fuel x.filter x.page s p

      by : (t : Bool) → ltb (8 * slot) (length x.filter.program) ≡ t → ((t p : ℕ) → Came x.filter t (more t p))
          → Came x.filter slot (pick t (after x.page slot place (step_at x.filter slot) more) (done []))
      by true e ih = came-after slot place (step_at x.filter slot) more refl (step-comes x given slot (omega (arith, ltb-true (8 * slot) (length x.filter.program) e))) ih
      by false e ih = tt

-- Every recorded target is a slot, n or the anchor.
nowhere-both : (a b : Option Slot) → or_else a b ≡ None → (a ≡ None) × (b ≡ None)
nowhere-both None b e = (refl, e)
nowhere-both (Some s) b e = let z : ◌≡◌ {A = ℕ} 0 1 = cc in absurd (omega arith)

goods-in : (n slot : ℕ) (ts : List ℕ) → bad_in n slot ts ≡ None → Goods n ts
goods-in n slot [] e = tt
goods-in n slot (t ∷ ts) e = by (good_target n t) refl e (λ q. goods-in n slot ts q)
  where
    by : (b : Bool) → good_target n t ≡ b → pick b (bad_in n slot ts) (Some (record { number = slot })) ≡ None → (bad_in n slot ts ≡ None → Goods n ts)
        → T (good_target n t) × Goods n ts
    by true q e ih = (true-T _ q, ih e)
    by false q e ih = let z : ◌≡◌ {A = ℕ} 0 1 = cc in absurd (omega arith)

goods-blocks : (n slot : ℕ) (bs : List Block) → first_bad n slot bs ≡ None → Goods n (targets_of (flat bs))
goods-blocks n slot [] e = tt
goods-blocks n slot (b ∷ bs) e =
    let next = slot + slots_wide b.wide in
    let q = nowhere-both (bad_in n slot (targets_of b.code)) (first_bad n next bs) e in
    rw (targets-append b.code (flat bs))
    (goods-append n (targets_of b.code) (targets_of (flat bs)) (goods-in n slot (targets_of b.code) q.0) (goods-blocks n next bs q.1))

-- the prologue's is the anchor, and the epilogue has none
pub goods-whole : (n : ℕ) (f : Flags) (bs : List Block) → first_bad n 0 bs ≡ None → Goods n (targets_of (whole f bs))
unfolding good_target
goods-whole n f bs e =
    rw (targets-append (prologue f) (flat bs ++ epilogue), targets-append (flat bs) epilogue, prologue-targets f, epilogue-targets)
    (or-true (leb anchor n), goods-append n (targets_of (flat bs)) [] (goods-blocks n 0 bs e) tt)
  where
    or-true : (b : Bool) → T (b || true)
    or-true true = tt
    or-true false = tt

-- What is accepted.
pub record Parts (x : Inputs) (code locs fields targets : List ℕ) : Type 0 where
  pub blocks : List Block
  pub walked : walk_of x ≡ done blocks
  pub origins : OriginsIn x.filter 0 blocks
  pub few : length (locations x.flags blocks) ≡ slots_of x.filter.program + 1
  pub short : size (whole x.flags blocks) < 2 ^ 31
  pub good : Goods (slots_of x.filter.program) (targets_of (whole x.flags blocks))
  pub is_code : code ≡ code_of (place_of (locations x.flags blocks) (exit_of x.flags blocks)) (whole x.flags blocks)
  pub is-locs : locs ≡ locations x.flags blocks
  pub is-fields : fields ≡ fields_of 0 (whole x.flags blocks)
  pub is-targets : targets ≡ targets_of (whole x.flags blocks)

refuses : {A : Type 0} {r : Refusal} {c l f t : List ℕ} → no r ≡ yes c l f t → A
refuses e = let z : ◌≡◌ {A = ℕ} 0 1 = cc in absurd (omega arith)

module _ (x : Inputs) (given : Given x) (code locs fields targets : List ℕ) where
  abbrev f : Flags
  f = x.flags

  parts-blocks : (bs : List Block) → walk_of x ≡ done bs → OriginsIn x.filter 0 bs → length code ≤ longest_code
      → first_bad (slots_of x.filter.program) 0 bs ≡ None
      → accepted f bs ≡ yes code locs fields targets → Parts x code locs fields targets
  parts-blocks bs w o l g e =
      let place = place_of (locations f bs) (exit_of f bs) in
      let c : code ≡ code_of place (whole f bs) = cc in
      let n : length (code_of place (whole f bs)) ≡ size (whole f bs) = length-bytes place 0 (whole f bs) in
      record {
        blocks = bs;
        walked = w;
        origins = o;
        few = length-locations f bs ∙ rw (all_slots x bs w);
        short = omega (arith, n, ap length c);
        good = goods-whole (slots_of x.filter.program) f bs g;
        is_code = c;
        is-locs = cc;
        is-fields = cc;
        is-targets = cc;
      }

  parts-finish : (w : Walk) → walk_of x ≡ w → Came x.filter 0 w → length code ≤ longest_code
      → finish f (slots_of x.filter.program) x.page w ≡ yes code locs fields targets → Parts x code locs fields targets
  parts-finish (refused r) q o l e = refuses e
  parts-finish (done bs) q o l e = by (leb (size (whole f bs)) x.page) (first_bad (slots_of x.filter.program) 0 bs) refl e
    where
      by : (t : Bool) (b : Option Slot) → first_bad (slots_of x.filter.program) 0 bs ≡ b
          → pick t (unless_bad b (accepted f bs)) (no (Refusal.NoRoom (record { number = slots_of x.filter.program }))) ≡ yes code locs fields targets → Parts x code locs fields targets
      by true None g e = parts-blocks bs q o l g e
      by true (Some s) g e = refuses e
      by false b g e = refuses e

  bounded : translation_of x ≡ yes code locs fields targets → length code ≤ longest_code
  bounded e = let b = bounds x in let h : Bound x (yes code locs fields targets) = rw e at b in h.all

  pub parts : translation_of x ≡ yes code locs fields targets → Parts x code locs fields targets
  unfolding translation_of sizes_of
  parts e =
      by (ltb x.page shortest_page) (ltb longest_page x.page) (ltb longest_program (length x.filter.program)) refl
      (short_table n x.locations x.fields x.targets x.kinds x.makers) (bad_helpers x.filter.ids x.filter.addresses) e
    where
      n : ℕ
      n = slots_of x.filter.program

      all : Outcome
      all = finish f n x.page (walk_of x)

      long : length code ≤ longest_code
      long = bounded e

      by : (a b c : Bool) → ltb longest_program (length x.filter.program) ≡ c → (d h : Bool)
          → pick a (no Refusal.PageTooShort)
          (pick b (no Refusal.PageTooLong)
          (pick c (no Refusal.ProgramTooLong) (pick d (no Refusal.TableTooShort) (pick h (no Refusal.BadHelpers) all))))
          ≡ yes code locs fields targets
          → Parts x code locs fields targets
      by true b c q d h e = refuses e
      by false true c q d h e = refuses e
      by false false true q d h e = refuses e
      by false false false q true h e = refuses e
      by false false false q false true e = refuses e
      by false false false q false false e =
          parts-finish (walk_of x) refl (came-rest x given (ltb-false longest_program (length x.filter.program) q) (suc n) 0 (size (prologue f))) long e
