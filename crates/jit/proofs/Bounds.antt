-- What an accepted program's code and tables can grow to: at most `long_slot` bytes and one listed jump a slot.
use Rattle.std.proofs.Common.{Option, Some, None}
use mathlib.Core.Path.{◌≡◌, ◌∙◌, refl, sym}
use mathlib.Core.Bool.{Bool, true, false}
use mathlib.Core.List.{List, [], ◌∷◌, ◌++◌}
use Prim.Native.Nat.{ℕ, zero, suc, ◌+◌, ◌*◌, ◌≤◌}
use native.Mathlib.Omega.{arith}
use lib.Dec.{leb, ltb, leb→le}
use lib.ListN.{length, length-append}
use borrow.Author.Tests.{ltb-false}
use Rattle.base.specs.Pick.{pick}
use Rattle.base.proofs.Tests.{true-T}
use Rattle.ebpf.specs.Insn.{insn_at, read_at}
use Rattle.ebpf.specs.Opcode.{kind_of}
use Rattle.ebpf.specs.declared.insn.Insn.{Insn}
use Rattle.ebpf.specs.declared.kind.Kind.{Kind}
use Rattle.ebpf.specs.declared.kind.Kind.TheVariants.{LdAbs, LdInd, LdDwImm, LdReg, StImm, StReg, Alu, Shift, Neg, MulDivMod, Mov, Le, Be, Ja, Jump, Call, Exit}
use Rattle.ebpf.specs.declared.kind.Lookup.{Lookup}
use Rattle.ebpf.specs.declared.kind.Lookup.TheVariants.{Known, Unimplemented, Unknown}
use Rattle.base.specs.declared.Slot.{Slot}
use Rattle.jit.specs.declared.Flags.{Flags}
use Rattle.jit.specs.declared.Refusal.{Refusal}
use Rattle.x86.specs.Code.{size, targets_of}
use Rattle.x86.specs.Lowered.{fields_of, code_of}
use Rattle.x86.proofs.CodeLaws.{size-append, targets-append, length-bytes, length_fields}
use Rattle.jit.specs.Limits.{shortest_page, longest_page, most_slots, longest_program}
use Rattle.jit.specs.Room.{long_slot, longest_prologue, epilogue_size, longest_frame, longest_code}
use Rattle.jit.proofs.SlotSize.{slot-most, slot-jumps}
pub use Rattle.code.proofs.PageLaws.{wide-some}
use Rattle.jit.specs.Frame.{prologue, epilogue}
use Rattle.jit.proofs.FrameLaws.{prologue-size, epilogue-size, prologue-targets, epilogue-targets}
use Rattle.jit.specs.Translation.{Filter, slots_in, Inputs, slots_of, Block, wide_kind, block_of, Operand, lacks, has, wide_value, operand_of, Step, stop, go}
use Rattle.jit.specs.Translation.{taken, known, good_registers, step_read, step_at, Walk, refused, done, joined, slots_wide, within, after, rest, flat}
use Rattle.jit.specs.Translation.{first_bad, Outcome, no, yes, whole, locations, place_of, accepted, unless_bad, finish, walk_of, bad_helpers, sizes_of}
use Rattle.jit.specs.Passes.{exit_of}
use Rattle.jit.specs.Translation.{short_table, translation_of}

-- A block that a slot gave: its bytes are all there, it is short, and it lists one jump at most.
pub record Sound (program : List ℕ) (slot : ℕ) (b : Block) : Type 0 where
  pub inside : 8 * slot + 8 * slots_wide b.wide ≤ length program
  pub short : size b.code ≤ long_slot
  pub jumps : length (targets_of b.code) ≤ 1

abbrev pub Fine : List ℕ → ℕ → Step → Type 0
Fine program slot (stop r) = Unit {0}
Fine program slot (go b) = Sound program slot b

module _ (filter : Filter) (slot : ℕ) (first : 8 * slot + 8 ≤ length filter.program) where
  abbrev program : List ℕ
  program = filter.program

  abbrev operand : Kind → Insn → Operand
  operand k i = operand_of filter k slot i (read_at program (slot + 1))

  fine-block : (k : Kind) (i : Insn) (value : ℕ) → (wide_kind k ≡ true → 8 * slot + 16 ≤ length program)
      → Sound program slot (block_of filter.mode k slot i value)
  fine-block k i value h = record { inside = by (wide_kind k) refl; short = slot-most filter.mode k slot i value; jumps = slot-jumps filter.mode k slot i value }
    where
      by : (w : Bool) → wide_kind k ≡ w → 8 * slot + 8 * slots_wide w ≤ length program
      by true e = omega (arith, h e)
      by false e = omega arith

  -- a kind of one slot
  narrow : (k : Kind) (i : Insn) → wide_kind k ≡ false → Fine program slot (taken filter.mode k slot i (operand k i))
  narrow k i e = by (operand k i)
    where
      never : true ≡ false → ⊥
      never p = let z : ◌≡◌ {A = ℕ} 0 1 = cc in omega arith

      by : (o : Operand) → Fine program slot (taken filter.mode k slot i o)
      by (lacks r) = tt
      by (has value) = fine-block k i value (λ t. absurd (never (sym t ∙ e)))

  fine-wide : (i : Insn) (t : Bool) → ltb (length program) (8 * (slot + 1) + 8) ≡ t → (j : Insn)
      → Fine program slot (taken filter.mode LdDwImm slot i (wide_value slot i (pick t None (Some j))))
  fine-wide i true e j = tt
  fine-wide i false e j = fine-block LdDwImm i _ (λ _. omega (arith, ltb-false (length program) (8 * (slot + 1) + 8) e))

  fine-kind : (k : Kind) (i : Insn) → Fine program slot (taken filter.mode k slot i (operand k i))
  unfolding read_at
  fine-kind (LdAbs z) i = narrow (LdAbs z) i refl
  fine-kind (LdInd z) i = narrow (LdInd z) i refl
  fine-kind LdDwImm i = fine-wide i (ltb (length program) (8 * (slot + 1) + 8)) refl (insn_at program (slot + 1))
  fine-kind (LdReg z) i = narrow (LdReg z) i refl
  fine-kind (StImm z) i = narrow (StImm z) i refl
  fine-kind (StReg z) i = narrow (StReg z) i refl
  fine-kind (Alu o w s) i = narrow (Alu o w s) i refl
  fine-kind (Shift o w s) i = narrow (Shift o w s) i refl
  fine-kind (Neg w) i = narrow (Neg w) i refl
  fine-kind (MulDivMod o w s) i = narrow (MulDivMod o w s) i refl
  fine-kind (Mov w s) i = narrow (Mov w s) i refl
  fine-kind Le i = narrow Le i refl
  fine-kind Be i = narrow Be i refl
  fine-kind Ja i = narrow Ja i refl
  fine-kind (Jump c w s) i = narrow (Jump c w s) i refl
  fine-kind Call i = narrow Call i refl
  fine-kind Exit i = narrow Exit i refl

  abbrev looked : Lookup → Insn → Step
  looked l i = known filter l slot i (read_at program (slot + 1))

  fine-known : (l : Lookup) (i : Insn) → Fine program slot (looked l i)
  fine-known Unknown i = tt
  fine-known Unimplemented i = tt
  fine-known (Known k) i = fine-kind k i

  fine-registers : (t : Bool) (l : Lookup) (i : Insn)
      → Fine program slot (pick t (looked l i) (stop (Refusal.BadRegister (record { number = slot }))))
  fine-registers true l i = fine-known l i
  fine-registers false l i = tt

pub step-fine : (filter : Filter) (slot : ℕ) → Fine filter.program slot (step_at filter slot)
unfolding step_at read_at
step-fine filter slot = by (ltb (length program) (8 * slot + 8)) refl
  where
    program : List ℕ
    program = filter.program

    by : (t : Bool) → ltb (length program) (8 * slot + 8) ≡ t
        → Fine program slot (step_read filter slot (pick t None (Some (insn_at program slot))) (read_at program (slot + 1)))
    by true e = tt
    by false e =
        let i = insn_at program slot in
        fine-registers filter slot (ltb-false (length program) (8 * slot + 8) e) (good_registers i) (kind_of i.opc) i

-- All blocks from a slot on, and how many slots they are.
abbrev pub Sounds : List ℕ → ℕ → List Block → Type 0
Sounds program slot [] = Unit {0}
Sounds program slot (b ∷ bs) = Sound program slot b × Sounds program (slot + slots_wide b.wide) bs

abbrev pub Good : List ℕ → ℕ → Walk → Type 0
Good program slot (refused r) = Unit {0}
Good program slot (done bs) = Sounds program slot bs

module _ (filter : Filter) (page : ℕ) where
  abbrev all : List ℕ
  all = filter.program

  good-joined : (slot : ℕ) (b : Block) (w : Walk) → Sound all slot b → Good all (slot + slots_wide b.wide) w → Good all slot (joined (b ∷ []) w)
  good-joined slot b (refused r) h g = tt
  good-joined slot b (done bs) h g = (h, g)

  good-within : (t : Bool) (slot : ℕ) (b : Block) (w : Walk) → Sound all slot b → Good all (slot + slots_wide b.wide) w
      → Good all slot (within t slot b w)
  good-within true slot b w h g = good-joined slot b w h g
  good-within false slot b w h g = tt

  good-after : (slot place : ℕ) (s : Step) (k : ℕ → ℕ → Walk) → Fine all slot s → ((t p : ℕ) → Good all t (k t p))
      → Good all slot (after page slot place s k)
  good-after slot place (stop r) k h g = tt
  good-after slot place (go b) k h g =
      let next = slot + slots_wide b.wide in
      let end = place + size b.code in
      good-within (leb end page) slot b (k next end) h (g next end)

  pub rest-good : (fuel slot place : ℕ) → Good filter.program slot (rest fuel filter page slot place)
  unfolding rest
  rest-good zero slot place = tt
  rest-good (suc fuel) slot place = by (ltb (8 * slot) (length all)) (λ t p. rest-good fuel t p)
    where
      more : ℕ → ℕ → Walk
      more s p = rest fuel filter page s p

      by : (t : Bool) → ((t p : ℕ) → Good all t (more t p)) → Good all slot (pick t (after page slot place (step_at filter slot) more) (done []))
      by true ih = good-after slot place (step_at filter slot) more (step-fine filter slot) ih
      by false ih = tt

module _ (program : List ℕ) where
  pub sounds-inside : (slot : ℕ) (bs : List Block) → Sounds program slot bs → 8 * slot ≤ length program → 8 * (slot + slots_in bs) ≤ length program
  sounds-inside slot [] h g = omega arith
  sounds-inside slot (b ∷ bs) h g = omega (arith, sounds-inside (slot + slots_wide b.wide) bs h.1 (omega (arith, h.0.inside)))

  pub sounds-short : (slot : ℕ) (bs : List Block) → Sounds program slot bs → size (flat bs) ≤ long_slot * slots_in bs
  sounds-short slot [] h = omega arith
  sounds-short slot (b ∷ bs) h =
      rw (size-append b.code (flat bs)) (omega (arith, h.0.short, sounds-short (slot + slots_wide b.wide) bs h.1, wide-some b.wide))

  pub sounds-jumps : (slot : ℕ) (bs : List Block) → Sounds program slot bs → length (targets_of (flat bs)) ≤ slots_in bs
  sounds-jumps slot [] h = omega arith
  sounds-jumps slot (b ∷ bs) h =
      rw (targets-append b.code (flat bs), length-append (targets_of b.code) (targets_of (flat bs)))
      (omega (arith, h.0.jumps, sounds-jumps (slot + slots_wide b.wide) bs h.1, wide-some b.wide))

-- The frame adds `longest_frame` bytes at most, and one jump.
prologue-most : (f : Flags) → size (prologue f) ≤ longest_prologue
prologue-most f = rw (prologue-size f) (by f.use_mbuff f.update_data_ptr)
  where
    by : (a b : Bool) → pick a (pick b longest_prologue 31) 34 ≤ longest_prologue
    by true true = omega arith
    by true false = omega arith
    by false b = omega arith

pub whole-size : (f : Flags) (bs : List Block) → size (whole f bs) ≡ size (prologue f) + (size (flat bs) + epilogue_size)
whole-size f bs = rw (size-append (prologue f) (flat bs ++ epilogue), size-append (flat bs) epilogue, epilogue-size)

pub whole-jumps : (f : Flags) (bs : List Block) → length (targets_of (whole f bs)) ≡ 1 + length (targets_of (flat bs))
whole-jumps f bs =
    rw (targets-append (prologue f) (flat bs ++ epilogue), targets-append (flat bs) epilogue, prologue-targets f, epilogue-targets, length-append (targets_of (flat bs)) [])
    (omega arith)

-- What is accepted: code of at most `long_slot` bytes a slot and `longest_frame`, and so of `longest_code`; one field for each target, at
-- most n + 1 of them; and all of the code within the page.
pub record Bounded (x : Inputs) (code fields targets : List ℕ) : Type 0 where
  pub fits : length code ≤ x.page
  pub slots : slots_of x.filter.program ≤ most_slots
  pub short : length code ≤ long_slot * slots_of x.filter.program + longest_frame
  pub all : length code ≤ longest_code
  pub jumps : length fields ≤ slots_of x.filter.program + 1
  pub pairs : length targets ≡ length fields

abbrev pub Bound : Inputs → Outcome → Type 0
Bound x (no r) = Unit {0}
Bound x (yes code locs fields targets) = Bounded x code fields targets

module _ (x : Inputs) (few : length x.filter.program ≤ longest_program) where
  bound-blocks : (bs : List Block) → Sounds x.filter.program 0 bs → size (whole x.flags bs) ≤ x.page → Bound x (accepted x.flags bs)
  bound-blocks bs h g =
      let f = x.flags in
      let place = place_of (locations f bs) (exit_of f bs) in
      let n : slots_in bs ≤ slots_of x.filter.program = omega (arith, sounds-inside x.filter.program 0 bs h (omega arith)) in
      let l : length (code_of place (whole f bs)) ≡ size (whole f bs) = length-bytes place 0 (whole f bs) in
      let s : size (whole f bs) ≤ long_slot * slots_of x.filter.program + longest_frame =
      omega (arith, whole-size f bs, prologue-most f, sounds-short x.filter.program 0 bs h) in
      let p : length (fields_of 0 (whole f bs)) ≡ length (targets_of (whole f bs)) = length_fields 0 (whole f bs) in
      record {
        fits = omega (arith, l);
        slots = omega arith;
        short = omega (arith, l, s);
        all = omega (arith, l, s);
        jumps = omega (arith, p, whole-jumps f bs, sounds-jumps x.filter.program 0 bs h);
        pairs = sym p;
      }

  bound-finish : (w : Walk) → Good x.filter.program 0 w → Bound x (finish x.flags (slots_of x.filter.program) x.page w)
  bound-finish (refused r) h = tt
  bound-finish (done bs) h = by (leb (size (whole x.flags bs)) x.page) refl (first_bad (slots_of x.filter.program) 0 bs)
    where
      end : Outcome
      end = no (Refusal.NoRoom (record { number = slots_of x.filter.program }))

      by : (t : Bool) → leb (size (whole x.flags bs)) x.page ≡ t → (b : Option Slot) → Bound x (pick t (unless_bad b (accepted x.flags bs)) end)
      by true e None = bound-blocks bs h (leb→le _ _ (true-T _ e))
      by true e (Some s) = tt
      by false e b = tt

pub bounds : (x : Inputs) → Bound x (translation_of x)
unfolding translation_of sizes_of
bounds x =
    by (ltb x.page shortest_page) (ltb longest_page x.page) (ltb longest_program (length x.filter.program)) refl
    (short_table n x.locations x.fields x.targets x.kinds x.makers) (bad_helpers x.filter.ids x.filter.addresses)
  where
    n : ℕ
    n = slots_of x.filter.program

    all : Outcome
    all = finish x.flags (slots_of x.filter.program) x.page (walk_of x)

    by : (a b c : Bool) → ltb longest_program (length x.filter.program) ≡ c → (d e : Bool)
        → Bound x
        (pick a (no Refusal.PageTooShort)
        (pick b (no Refusal.PageTooLong)
        (pick c (no Refusal.ProgramTooLong) (pick d (no Refusal.TableTooShort) (pick e (no Refusal.BadHelpers) all)))))
    by true b c q d e = tt
    by false true c q d e = tt
    by false false true q d e = tt
    by false false false q true e = tt
    by false false false q false true = tt
    by false false false q false false =
        bound-finish x (ltb-false longest_program (length x.filter.program) q) (walk_of x) (rest-good x.filter x.page (suc n) 0 (size (prologue x.flags)))
