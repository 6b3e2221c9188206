-- What `compact` makes of a whole program (specs/Compact.antt): slot for slot the same walk, which ends for want of room later or not at all.
use Rattle.std.proofs.Common.{Option, Some, None}
use mathlib.Core.Path.{◌≡◌, refl, ap, sym}
use mathlib.Core.Bool.{Bool, true, false}
use mathlib.Core.List.{List, [], ◌∷◌, ◌++◌}
use Prim.Native.Nat.{ℕ, zero, suc, ◌+◌, ◌*◌, ◌≤◌, ◌<◌}
use native.Mathlib.Omega.{arith}
use lib.Dec.{leb, ltb, leb→le}
use lib.ListN.{length}
use Rattle.base.specs.Pick.{pick}
use Rattle.base.proofs.Tests.{true-T, leb-true}
use Rattle.ebpf.specs.Insn.{read_at}
use Rattle.ebpf.specs.Opcode.{kind_of}
use Rattle.ebpf.specs.declared.insn.Insn.{Insn}
use Rattle.ebpf.specs.declared.kind.Kind.{Kind}
use Rattle.ebpf.specs.declared.kind.Kind.TheVariants.{LdAbs, LdInd, LdDwImm, LdReg, StImm, StReg, Alu, Shift, Neg, MulDivMod, Mov, Le, Be, Ja, Jump, Call, Exit}
use Rattle.ebpf.specs.declared.kind.Lookup.{Lookup}
use Rattle.ebpf.specs.declared.kind.Lookup.TheVariants.{Known, Unimplemented, Unknown}
use Rattle.base.specs.declared.Slot.{Slot}
use Rattle.x86.specs.Encode.{isa}
use Rattle.x86.specs.Code.{size, targets_of, kinds_of}
use Rattle.code.proofs.PageLaws.{wide-some}
use Rattle.x86.proofs.CodeLaws.{size-append, length-bytes, targets-append, kinds-append}
use Rattle.jit.specs.declared.Flags.{Flags}
use Rattle.jit.specs.declared.Refusal.{Refusal}
use Rattle.jit.specs.Refusals.{number_of, slot_of}
use Rattle.jit.specs.Limits.{shortest_page, longest_page, longest_program}
use Rattle.jit.specs.MulDivMod.{Code}
use Rattle.jit.specs.Frame.{prologue, epilogue}
use Rattle.jit.specs.Translation.{Filter, Inputs, Block, Operand, lacks, has, operand_of, Step, stop, go, taken, known, good_registers, at, wide_kind}
use Rattle.jit.specs.Translation.{step_read, step_at, slots_of, Walk, refused, done, slots_wide, joined, within, after, rest, first_bad}
use Rattle.jit.specs.Translation.{Outcome, no, yes, whole, locations, accepted, unless_bad, finish, walk_of, flat, slots_in, place_of, sizes_of, short_table, bad_helpers, translation_of}
use Rattle.jit.specs.JumpTables.{made_from, kind_table, maker_table, page_for, kinds_in, makers_in}
use Rattle.jit.specs.Passes.{exit_of}
use Rattle.jit.specs.Modes.{in_mode}
use Rattle.jit.specs.Compact.{compact_off, compact_on, plainly, compactly, shortened_code, shortened_blocks, Keeps, Later, Compact}
use Rattle.jit.proofs.CompactSlots.{shortened-append, short, same-targets, same-kinds, slots}
use Rattle.jit.proofs.RefusedSlots.{From, RefusedFrom, refused-from}

-- One slot.
abbrev shortened_block : Block → Block
shortened_block b = record { code = shortened_code b.code; wide = b.wide }

abbrev shortened_step : Step → Step
shortened_step (stop r) = stop r
shortened_step (go b) = go (shortened_block b)

module _ (filter : Filter) (slot : ℕ) where
  abbrev off : Filter
  off = in_mode compact_off filter

  abbrev on : Filter
  on = in_mode compact_on filter

  operand_same : (k : Kind) (i : Insn) (next : Option Insn) → operand_of on k slot i next ≡ operand_of off k slot i next
  operand_same (LdAbs z) i next = refl
  operand_same (LdInd z) i next = refl
  operand_same LdDwImm i next = refl
  operand_same (LdReg z) i next = refl
  operand_same (StImm z) i next = refl
  operand_same (StReg z) i next = refl
  operand_same (Alu o w s) i next = refl
  operand_same (Shift o w s) i next = refl
  operand_same (Neg w) i next = refl
  operand_same (MulDivMod o w s) i next = refl
  operand_same (Mov w s) i next = refl
  operand_same Le i next = refl
  operand_same Be i next = refl
  operand_same Ja i next = refl
  operand_same (Jump c w s) i next = refl
  operand_same Call i next = refl
  operand_same Exit i next = refl

  taken-shortened : (k : Kind) (i : Insn) (o : Operand) → taken on.mode k slot i o ≡ shortened_step (taken off.mode k slot i o)
  taken-shortened k i (lacks r) = refl
  taken-shortened k i (has v) = ap (λ (c : Code). go (record { code = c; wide = wide_kind k })) (slots filter.mode k slot i v)

  known-shortened : (l : Lookup) (i : Insn) (next : Option Insn) → known on l slot i next ≡ shortened_step (known off l slot i next)
  known-shortened Unknown i next = refl
  known-shortened Unimplemented i next = refl
  known-shortened (Known k) i next = rw (operand_same k i next) (taken-shortened k i (operand_of off k slot i next))

  read-shortened : (r next : Option Insn) → step_read on slot r next ≡ shortened_step (step_read off slot r next)
  read-shortened None next = refl
  read-shortened (Some i) next = by (good_registers i)
    where
      l : Lookup
      l = kind_of i.opc

      by : (t : Bool) → pick t (known on l slot i next) (stop (Refusal.BadRegister (at slot)))
          ≡ shortened_step (pick t (known off l slot i next) (stop (Refusal.BadRegister (at slot))))
      by true = known-shortened l i next
      by false = refl

  step-shortened : step_at on slot ≡ shortened_step (step_at off slot)
  unfolding step_at
  step-shortened = read-shortened (read_at filter.program slot) (read_at filter.program (slot + 1))

-- All slots: the second walk, against the first.
abbrev Kept : Walk → Walk → Type 0
Kept (done bs) w = w ≡ done (shortened_blocks bs)
Kept (refused r) w = (¬ (number_of r ≡ 13) → w ≡ refused r) × (number_of r ≡ 13 → (q : Refusal) → w ≡ refused q → Later r q)

never : {A : Type 0} → true ≡ false → A
never e = let z : ◌≡◌ {A = ℕ} 0 1 = cc in absurd (omega arith)

refused-is : {r q : Refusal} → refused r ≡ refused q → r ≡ q
refused-is e = cc

joined-refused : (bs : List Block) (w : Walk) (q : Refusal) → joined bs w ≡ refused q → w ≡ refused q
joined-refused bs (refused r) q e = e
joined-refused bs (done cs) q e = absurd (apart e)
  where
    apart : {cs : List Block} {q : Refusal} → done cs ≡ refused q → ⊥
    apart e = let z : ◌≡◌ {A = ℕ} 0 1 = cc in omega arith

same-room : (r : Refusal) → number_of r ≡ 13 → Later r r
same-room r e = record { sizes = omega (arith, e); room = λ _. omega arith; slots = λ h. absurd (omega (arith, e, h)) }

kept-refused : (r : Refusal) → Kept (refused r) (refused r)
kept-refused r = (λ _. refl, λ e q h. rw (← refused-is h) (same-room r e))

kept-joined : (b : Block) (w w' : Walk) → Kept w w' → Kept (joined (b ∷ []) w) (joined (shortened_block b ∷ []) w')
kept-joined b (done bs) w' h = rw h
kept-joined b (refused r) w' h = (λ e. rw (h.0 e), λ e q g. h.1 e q (joined-refused (shortened_block b ∷ []) w' q g))

module _ (filter : Filter) (page : ℕ) where
  abbrev n : ℕ
  n = slots_of filter.program

  -- the slot's code has no room, and its shorter form has, or has not
  no_room : (slot next : ℕ) (b : Block) (t : Bool) (w : Walk) → slot < next → RefusedFrom n next w → (q : Refusal)
      → within t slot b w ≡ refused q → Later (Refusal.NoRoom (at slot)) q
  no_room slot next b false w h g q e = rw (← refused-is e) (same-room (Refusal.NoRoom (at slot)) refl)
  no_room slot next b true w h g q e =
      let f : From n next q = rw (joined-refused (b ∷ []) w q e) at g in
      record { sizes = f.least; room = λ _. omega (arith, h, f.behind); slots = λ _. omega (arith, h, f.behind) }

  kept-within : (slot next : ℕ) (b : Block) (s t : Bool) (w w' : Walk) → slot < next → (s ≡ true → t ≡ true) → RefusedFrom n next w' → Kept w w'
      → Kept (within s slot b w) (within t slot (shortened_block b) w')
  kept-within slot next b true true w w' h l g k = kept-joined b w w' k
  kept-within slot next b true false w w' h l g k = never (sym (l refl))
  kept-within slot next b false t w w' h l g k = (λ e. absurd (e refl), λ e q z. no_room slot next (shortened_block b) t w' h g q z)

  -- what comes behind a slot
  record Behind (k k' : ℕ → ℕ → Walk) : Type 0 where
    kept : (t p p' : ℕ) → p' ≤ p → Kept (k t p) (k' t p')
    from : (t p : ℕ) → RefusedFrom n t (k' t p)

  kept-after : (slot place place' : ℕ) (s : Step) (k k' : ℕ → ℕ → Walk) → place' ≤ place → Behind k k'
      → Kept (after page slot place s k) (after page slot place' (shortened_step s) k')
  kept-after slot place place' (stop r) k k' h g = kept-refused r
  kept-after slot place place' (go b) k k' h g =
      let next = slot + slots_wide b.wide in
      let end = place + size b.code in
      let end' = place' + size (shortened_code b.code) in
      let less : end' ≤ end = omega (arith, h, short b.code) in
      kept-within slot next b (leb end page) (leb end' page) (k next end) (k' next end') (omega (arith, wide-some b.wide))
      (λ e. leb-true end' page (omega (arith, less, leb→le end page (true-T (leb end page) e)))) (g.from next end') (g.kept next end end' less)

  kept-rest : (fuel slot place place' : ℕ) → place' ≤ place
      → Kept (rest fuel (in_mode compact_off filter) page slot place) (rest fuel (in_mode compact_on filter) page slot place')
  unfolding rest
  kept-rest zero slot place place' h = refl
  kept-rest (suc fuel) slot place place' h = by (ltb (8 * slot) (length filter.program))
      (record { kept = λ t p p' g. kept-rest fuel t p p' g; from = λ t p. refused-from (in_mode compact_on filter) page fuel t p })
    where
      plain : ℕ → ℕ → Walk
      plain s p = rest fuel (in_mode compact_off filter) page s p

      compact : ℕ → ℕ → Walk
      compact s p = rest fuel (in_mode compact_on filter) page s p

      by : (t : Bool) → Behind plain compact
          → Kept (pick t (after page slot place (step_at (in_mode compact_off filter) slot) plain) (done []))
          (pick t (after page slot place' (step_at (in_mode compact_on filter) slot) compact) (done []))
      by true ih = rw (step-shortened filter slot) (kept-after slot place place' (step_at (in_mode compact_off filter) slot) plain compact h ih)
      by false ih = refl

-- The page.
flat-shortened : (bs : List Block) → flat (shortened_blocks bs) ≡ shortened_code (flat bs)
flat-shortened [] = refl
flat-shortened (b ∷ bs) = rw (flat-shortened bs, shortened-append b.code (flat bs))

slots-shortened : (bs : List Block) → slots_in (shortened_blocks bs) ≡ slots_in bs
slots-shortened [] = refl
slots-shortened (b ∷ bs) = rw (slots-shortened bs)

bad-shortened : (n slot : ℕ) (bs : List Block) → first_bad n slot (shortened_blocks bs) ≡ first_bad n slot bs
bad-shortened n slot [] = refl
bad-shortened n slot (b ∷ bs) = rw (same-targets b.code, bad-shortened n (slot + slots_wide b.wide) bs)

made-shortened : (slot : ℕ) (bs : List Block) → made_from slot (shortened_blocks bs) ≡ made_from slot bs
made-shortened slot [] = refl
made-shortened slot (b ∷ bs) = rw (same-targets b.code, made-shortened (slot + slots_wide b.wide) bs)

module _ (f : Flags) (bs : List Block) where
  whole-shortened : whole f (shortened_blocks bs) ≡ prologue f ++ (shortened_code (flat bs) ++ epilogue)
  whole-shortened = rw (flat-shortened bs)

  whole-short : size (whole f (shortened_blocks bs)) ≤ size (whole f bs)
  whole-short =
      let c = shortened_code (flat bs) in
      rw (whole-shortened, size-append (prologue f) (c ++ epilogue), size-append c epilogue, size-append (prologue f) (flat bs ++ epilogue), size-append (flat bs) epilogue)
      (omega (arith, short (flat bs)))

  whole-targets : targets_of (whole f (shortened_blocks bs)) ≡ targets_of (whole f bs)
  whole-targets =
      let c = shortened_code (flat bs) in
      rw (whole-shortened, targets-append (prologue f) (c ++ epilogue), targets-append c epilogue, targets-append (prologue f) (flat bs ++ epilogue))
      (rw (targets-append (flat bs) epilogue, same-targets (flat bs)))

  whole_kinds : kinds_of (whole f (shortened_blocks bs)) ≡ kinds_of (whole f bs)
  whole_kinds =
      let c = shortened_code (flat bs) in
      rw (whole-shortened, kinds-append (prologue f) (c ++ epilogue), kinds-append c epilogue, kinds-append (prologue f) (flat bs ++ epilogue))
      (rw (kinds-append (flat bs) epilogue, same-kinds (flat bs)))

-- What is answered, against what was answered.
abbrev Answered : Outcome → Outcome → Type 0
Answered (yes code locations fields targets) o = Keeps code targets o
Answered (no r) o = (¬ (number_of r ≡ 13) → o ≡ no r) × (number_of r ≡ 13 → (q : Refusal) → o ≡ no q → Later r q)

answered-accepted : (f : Flags) (bs : List Block) → Answered (accepted f bs) (accepted f (shortened_blocks bs))
answered-accepted f bs =
    let cs = shortened_blocks bs in
    let plain = length-bytes (place_of (locations f bs) (exit_of f bs)) 0 (whole f bs) in
    let compact = length-bytes (place_of (locations f cs) (exit_of f cs)) 0 (whole f cs) in
    (omega (arith, plain, compact, whole-short f bs), whole-targets f bs)

no-is : {r q : Refusal} → no r ≡ no q → r ≡ q
no-is e = cc

not-refused : (f : Flags) (bs : List Block) (q : Refusal) → accepted f bs ≡ no q → ⊥
not-refused f bs q e = let z : ◌≡◌ {A = ℕ} 0 1 = cc in omega arith

answered-same : (r : Refusal) → Answered (no r) (no r)
answered-same r = (λ _. refl, λ e q h. rw (← no-is h) (same-room r e))

-- what is said behind the slots, where it was 13 before: 13 for the epilogue, or 14, or nothing
module _ (f : Flags) (n page : ℕ) where
  behind-all : (bs : List Block) (r q : Refusal) (t : Bool) (b : Option Slot) → slot_of r ≤ n
      → pick t (unless_bad b (accepted f bs)) (no (Refusal.NoRoom (at n))) ≡ no q → Later r q
  behind-all bs r q true None h e = absurd (not-refused f bs q e)
  behind-all bs r q true (Some s) h e =
      rw (← no-is e) (record { sizes = omega arith; room = λ z. absurd (omega (arith, z)); slots = λ z. absurd (omega (arith, z)) })
  behind-all bs r q false b h e =
      rw (← no-is e) (record { sizes = omega arith; room = λ _. h; slots = λ z. absurd (omega (arith, z)) })

  answered-walk : (r q : Refusal) (w : Walk) → slot_of r ≤ n → ((q : Refusal) → w ≡ refused q → Later r q) → finish f n page w ≡ no q → Later r q
  answered-walk r q (refused p) h g e = g q (ap refused (no-is e))
  answered-walk r q (done bs) h g e = behind-all bs r q (leb (size (whole f bs)) page) (first_bad n 0 bs) h e

  answered-done : (bs : List Block) → Answered (finish f n page (done bs)) (finish f n page (done (shortened_blocks bs)))
  answered-done bs =
      rw (bad-shortened n 0 bs)
      (by (leb (size (whole f bs)) page) (leb (size (whole f (shortened_blocks bs))) page) (first_bad n 0 bs)
      (λ e. leb-true (size (whole f (shortened_blocks bs))) page (omega (arith, whole-short f bs, leb→le (size (whole f bs)) page (true-T _ e)))))
    where
      last : Outcome
      last = no (Refusal.NoRoom (at n))

      by : (s t : Bool) (b : Option Slot) → (s ≡ true → t ≡ true)
          → Answered (pick s (unless_bad b (accepted f bs)) last) (pick t (unless_bad b (accepted f (shortened_blocks bs))) last)
      by true true None h = answered-accepted f bs
      by true true (Some s) h = answered-same (Refusal.BadTarget s)
      by true false b h = never (sym (h refl))
      by false t b h = (λ e. absurd (e refl), λ e q z. behind-all (shortened_blocks bs) (Refusal.NoRoom (at n)) q t b (omega arith) z)

  answered-finish : (w w' : Walk) → Kept w w' → RefusedFrom n 0 w → Answered (finish f n page w) (finish f n page w')
  answered-finish (done bs) w' h g = rw h (answered-done bs)
  answered-finish (refused r) w' h g = (λ e. rw (h.0 e), λ e q z. answered-walk r q w' g.inside (h.1 e) z)

answered : (x : Inputs) → Answered (translation_of (plainly x)) (translation_of (compactly x))
unfolding translation_of sizes_of
answered x =
    by (ltb x.page shortest_page) (ltb longest_page x.page) (ltb longest_program (length x.filter.program))
    (short_table n x.locations x.fields x.targets x.kinds x.makers) (bad_helpers x.filter.ids x.filter.addresses)
  where
    n : ℕ
    n = slots_of x.filter.program

    start : ℕ
    start = size (prologue x.flags)

    plain : Outcome
    plain = finish x.flags n x.page (walk_of (plainly x))

    compact : Outcome
    compact = finish x.flags n x.page (walk_of (compactly x))

    by : (a b c d e : Bool)
        → Answered
        (pick a (no Refusal.PageTooShort)
        (pick b (no Refusal.PageTooLong)
        (pick c (no Refusal.ProgramTooLong) (pick d (no Refusal.TableTooShort) (pick e (no Refusal.BadHelpers) plain)))))
        (pick a (no Refusal.PageTooShort)
        (pick b (no Refusal.PageTooLong)
        (pick c (no Refusal.ProgramTooLong) (pick d (no Refusal.TableTooShort) (pick e (no Refusal.BadHelpers) compact)))))
    by true b c d e = answered-same Refusal.PageTooShort
    by false true c d e = answered-same Refusal.PageTooLong
    by false false true d e = answered-same Refusal.ProgramTooLong
    by false false false true e = answered-same Refusal.TableTooShort
    by false false false false true = answered-same Refusal.BadHelpers
    by false false false false false =
        answered-finish x.flags n x.page (walk_of (plainly x)) (walk_of (compactly x)) (kept-rest x.filter x.page (suc n) 0 start start (omega arith))
        (refused-from (in_mode compact_off x.filter) x.page (suc n) 0 start)

-- The further tables, of a program whose slots are all walked.
sizes-no : (x : Inputs) (r : Refusal) (c l f t : List ℕ) → sizes_of x (no r) ≡ yes c l f t → ⊥
unfolding sizes_of
sizes-no x r c l f t =
    by (ltb x.page shortest_page) (ltb longest_page x.page) (ltb longest_program (length x.filter.program))
    (short_table (slots_of x.filter.program) x.locations x.fields x.targets x.kinds x.makers) (bad_helpers x.filter.ids x.filter.addresses)
  where
    apart : {q : Refusal} → no q ≡ yes c l f t → ⊥
    apart e = let z : ◌≡◌ {A = ℕ} 0 1 = cc in omega arith

    by : (a b c' d e : Bool)
        → pick a (no Refusal.PageTooShort)
        (pick b (no Refusal.PageTooLong)
        (pick c' (no Refusal.ProgramTooLong) (pick d (no Refusal.TableTooShort) (pick e (no Refusal.BadHelpers) (no r)))))
        ≡ yes c l f t
        → ⊥
    by true b c' d e = apart
    by false true c' d e = apart
    by false false true d e = apart
    by false false false true e = apart
    by false false false false true = apart
    by false false false false false = apart

abbrev SameTables : Inputs → Type 0
SameTables x =
    (kind_table isa (page_for (compactly x)) ≡ kind_table isa (page_for (plainly x))) × (maker_table (page_for (compactly x)) ≡ maker_table (page_for (plainly x)))

module _ (x : Inputs) where
  abbrev walks : Kept (walk_of (plainly x)) (walk_of (compactly x))
  walks = let start = size (prologue x.flags) in kept-rest x.filter x.page (suc (slots_of x.filter.program)) 0 start start (omega arith)

  blocks : (bs : List Block) → walk_of (plainly x) ≡ done bs → walk_of (compactly x) ≡ done (shortened_blocks bs)
  blocks bs e = rw e at walks

  same_tables : (c l f t : List ℕ) → translation_of (plainly x) ≡ yes c l f t → SameTables x
  unfolding translation_of
  same_tables c l f t e = by (walk_of (plainly x)) refl
    where
      by : (w : Walk) → walk_of (plainly x) ≡ w → SameTables x
      by (refused r) q = absurd (sizes-no (plainly x) r c l f t (rw q at e))
      by (done bs) q = rw (q, blocks bs q) (whole_kinds x.flags bs, rw (slots-shortened bs, made-shortened 0 bs))

  names : (c l f t : List ℕ) → translation_of (plainly x) ≡ yes c l f t
      → (kinds_in (compactly x) (translation_of (compactly x)) ≡ kinds_in (plainly x) (translation_of (plainly x)))
      × (makers_in (compactly x) (translation_of (compactly x)) ≡ makers_in (plainly x) (translation_of (plainly x)))
  names c l f t e = rw e (by (translation_of (compactly x)) (rw e at (answered x)))
    where
      by : (o : Outcome) → Keeps c t o
          → (kinds_in (compactly x) o ≡ kinds_in (plainly x) (yes c l f t)) × (makers_in (compactly x) o ≡ makers_in (plainly x) (yes c l f t))
      by (no r) h = absurd h
      by (yes c' l' f' t') h = same_tables c l f t e

pub compact : Compact
compact =
    record {
      slots = slots;
      short = short;
      jumps = λ c. (same-targets c, same-kinds c);
      blocks = blocks;
      accepts = λ x code locations fields targets e. rw e at (answered x);
      names = names;
      refuses = λ x r e. (rw e at (answered x)).0;
      later = λ x r q e n. (rw e at (answered x)).1 n q;
    }
