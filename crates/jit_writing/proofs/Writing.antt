-- What holds at the head of the writing loop, from its start to its end, where it is what the pass leaves (specs/Writes.antt).
use mathlib.Core.Path.{◌≡◌, ◌∙◌, refl, sym}
use mathlib.Core.Bool.{Bool, true, false}
use mathlib.Core.List.{List, [], ◌∷◌, ◌++◌}
use Prim.Native.Nat.{ℕ, ◌+◌, ◌*◌, ◌/◌, ◌<◌, ◌≤◌}
use native.Mathlib.Omega.{arith}
use lib.Dec.{leb}
use lib.ListN.{length, get_or, set}
use native.Mathlib.Numerals.{add-one}
use native.Mathlib.Nat.{zero-add}
use Rattle.ebpf.specs.Insn.{insn_at}
use Rattle.ebpf.specs.Kinds.{numbers}
use Rattle.jit.specs.declared.Refusal.{Refusal}
use Rattle.x86.specs.Code.{size, targets_of, kinds_of}
use Rattle.x86.specs.Fill.{blanks}
use Rattle.x86.specs.Lowered.{fields_of}
use Rattle.x86.proofs.CodeLaws.{size-append, blanks-append, length-blanks, fields-append, targets-append, kinds-append, made-snoc}
use Rattle.x86_emit.specs.Wrote.{Wrote}
use Rattle.x86_emit.proofs.WroteLaws.{then, nothing}
use Rattle.jit.specs.Translation.{Filter, Block, Step, stop, go, step_at, Walk, refused, done, joined, within}
use Rattle.jit.specs.Passes.{walk_from}
use Rattle.jit.specs.Translation.{slots_wide, slots_in, flat, entries}
use Rattle.jit.specs.JumpTables.{made_from}
use Rattle.jit.specs.Passes.{starts}
use Rattle.jit.proofs.Bounds.{wide-some}
use Rattle.jit_recording.specs.Emits.{Tables, Put, Emits, HasEntry, Room}
use Rattle.jit_recording.proofs.EmitsLaws.{put-none, puts, put-length}
use Rattle.jit_walk.specs.Numbered.{SlotRead, code_at, is_wide}
use Rattle.jit_walk.proofs.NumberedLaws.{Written, written}
use Rattle.jit_walk.proofs.Sofar.{Sofar, flat-snoc, starts-snoc, begins, stops, sound, goes_on, ends, next-is}
use Rattle.jit.specs.Limits.{longest_page}
use Rattle.jit.specs.Room.{epilogue_size}
use Rattle.jit_writing.specs.Writes.{Fits, Writes}

-- at the head of the writing loop
pub record Writing (filter : Filter) (page start : ℕ) (c₀ c l₀ l : List ℕ) (t₀ t : Tables) (slot at jumps : ℕ) : Type 0 where
  pub bs : List Block
  pub sofar : Sofar filter page start (walk_from filter page start) bs slot at
  pub few : jumps ≤ slot + 1
  pub code : Wrote c₀ c start at (blanks (flat bs))
  pub locations : Put l₀ l 0 slot (starts start bs)
  pub fields : Put t₀.fields t.fields 1 jumps (fields_of start (flat bs))
  pub targets : Put t₀.targets t.targets 1 jumps (targets_of (flat bs))
  pub kinds : Put t₀.kinds t.kinds 1 jumps (kinds_of (flat bs))
  pub makers : Put t₀.makers t.makers 1 jumps (made_from 0 bs)
  pub page-same : length c ≡ length c₀

pub writing_begins : (filter : Filter) (page start : ℕ) (c l : List ℕ) (t : Tables) → start ≤ page → Writing filter page start c c l l t t 0 start 1
writing_begins filter page start c l t h =
    record {
      bs = [];
      sofar = begins filter page start h;
      few = omega arith;
      code = nothing;
      locations = put-none;
      fields = put-none;
      targets = put-none;
      kinds = put-none;
      makers = put-none;
      page-same = refl;
    }

abbrev opc_at : List ℕ → ℕ → ℕ
opc_at program slot = get_or program (8 * slot) 0

-- a block that the walk still has ahead of it fits, since the whole does
ahead : (w : Walk) (page start : ℕ) (bs : List Block) (b : Block) (v : Walk) → w ≡ joined bs (joined (b ∷ []) v) → Fits w page start
    → start + size (flat bs) + size b.code + epilogue_size ≤ page
ahead w page start bs b (refused r) e h = absurd (rw e at h)
ahead w page start bs b (done cs) e h =
    let g : start + size (flat (bs ++ (b ∷ cs))) + epilogue_size ≤ page = rw e at h in
    omega (arith, g, parts bs)
  where
    parts : (xs : List Block) → size (flat (xs ++ (b ∷ cs))) ≡ size (flat xs) + (size b.code + size (flat cs))
    parts [] = rw (size-append b.code (flat cs)) (omega arith)
    parts (a ∷ xs) = rw (size-append a.code (flat (xs ++ (b ∷ cs))), size-append a.code (flat xs), parts xs) (omega arith)

module _ {filter : Filter} {page start : ℕ} {c₀ c l₀ l : List ℕ} {t₀ t : Tables} {slot at jumps : ℕ}
    (m : Writing filter page start c₀ c l₀ l t₀ t slot at jumps)
    (fit : Fits (walk_from filter page start) page start) where
  -- a slot of an accepted program is not refused, and its code fits
  pub never-stops : (r : Refusal) → 8 * slot < length filter.program → stop r ≡ step_at filter slot → ⊥
  never-stops r h e = rw (stops m.sofar r h e) at fit

  pub has_room : (b : Block) → 8 * slot < length filter.program → go b ≡ step_at filter slot → at + size b.code + epilogue_size ≤ page
  has_room b h e = by (leb (at + size b.code) page) (next-is m.sofar b h e).0 (next-is m.sofar b h e).1
    where
      by : (x : Bool) (v : Walk) → walk_from filter page start ≡ joined m.bs (within x slot b v) → at + size b.code + epilogue_size ≤ page
      by true v q = omega (arith, m.sofar.place_is, ahead (walk_from filter page start) page start m.bs b v q fit)
      by false v q = absurd (rw q at fit)

  pub writing-on : {s at' jumps' : ℕ} {c' l' : List ℕ} {t' : Tables} (b : Block) → 8 * slot < length filter.program → go b ≡ step_at filter slot
      → Put l l' slot s (entries at b.wide) → s ≡ slot + slots_wide b.wide → Emits c c' t t' at jumps at' jumps' slot b.code
      → length c' ≡ length c → Writing filter page start c₀ c' l₀ l' t₀ t' s at' jumps'
  writing-on {s} {at'} {jumps'} b h e pl q em u =
      let place : at' ≡ at + size b.code = em.wrote.next ∙ rw (length-blanks b.code) in
      let one = (sound m.sofar b e).jumps in
      let more : jumps' ≡ jumps + length (targets_of b.code) = em.targets.next in
      record {
        bs = m.bs ++ (b ∷ []);
        sofar = rw (q, place) (goes_on m.sofar b h e (omega (arith, has_room b h e)));
        few = omega (arith, m.few, more, one, q, wide-some b.wide);
        code = rw (flat-snoc m.bs b, blanks-append (flat m.bs) b.code) (then m.code em.wrote);
        locations = rw (starts-snoc start m.bs b, ← m.sofar.place_is) (puts m.locations pl);
        fields = rw (flat-snoc m.bs b, fields-append start (flat m.bs) b.code, ← m.sofar.place_is) (puts m.fields em.fields);
        targets = rw (flat-snoc m.bs b, targets-append (flat m.bs) b.code) (puts m.targets em.targets);
        kinds = rw (flat-snoc m.bs b, kinds-append (flat m.bs) b.code) (puts m.kinds em.kinds);
        makers = rw (made-snoc 0 m.bs b, zero-add (slots_in m.bs), ← m.sofar.slots-are) (puts m.makers em.makers);
        page-same = u ∙ m.page-same;
      }

  -- the slot that is next, as it is read
  pub next-block : 8 * slot < length filter.program → (b : Block) × (go b ≡ step_at filter slot)
  next-block h = by (step_at filter slot) refl
    where
      by : (s : Step) → s ≡ step_at filter slot → (b : Block) × (go b ≡ step_at filter slot)
      by (stop r) e = absurd (never-stops r h e)
      by (go b) e = (b, e)

  pub next-read : (h : 8 * slot < length filter.program) → Written filter slot (next-block h).0
  next-read h = written filter slot (next-block h).0 (next-block h).1

  pub next-wide : (h : 8 * slot < length filter.program) {opc number : ℕ} → SlotRead filter.program slot opc number
      → is_wide number ≡ (next-block h).0.wide
  next-wide h r = rw r.numbered.table (sym ((next-read h).wide r.numbered.opc))

  -- the slot as the pass asks it, of the byte that is its opcode
  pub next-slot : 8 * slot < length filter.program → {number : ℕ} → opc_at filter.program slot < 256
      → number ≡ get_or numbers (opc_at filter.program slot) 0 → SlotRead filter.program slot (opc_at filter.program slot) number
  unfolding insn_at
  next-slot h b q =
      let read = next-read h in
      record { there = read.there; opc_is = refl; numbered = record { table = q; opc = b; dst = read.dst; src = read.src } }

  pub next-inside : (h : 8 * slot < length filter.program) {opc number : ℕ} → SlotRead filter.program slot opc number
      → 8 * slot + 8 * slots_wide (is_wide number) ≤ length filter.program
  next-inside h r = rw (next-wide h r) (sound m.sofar (next-block h).0 (next-block h).1).inside

  pub next-room : 8 * slot < length filter.program → page ≤ longest_page → page ≡ length c₀
      → HasEntry t₀ (length filter.program / 8) → Room c t at jumps (code_at filter slot (insn_at filter.program slot))
  next-room h p q last =
      let b = (next-block h).0 in
      let some = wide-some b.wide in
      let inside = (sound m.sofar b (next-block h).1).inside in
      rw (← (next-read h).code)
      (record {
        page = omega (arith, has_room b h (next-block h).1, q, m.page-same);
        entry =
            record {
              field = omega (arith, m.few, inside, some, last.field, put-length m.fields);
              target = omega (arith, m.few, inside, some, last.target, put-length m.targets);
              kind = omega (arith, m.few, inside, some, last.kind, put-length m.kinds);
              maker = omega (arith, m.few, inside, some, last.maker, put-length m.makers);
            };
        small = omega (arith, p, q, m.page-same);
      })

  pub writing-next : {next at' jumps' opc number : ℕ} {c' l' : List ℕ} {t' : Tables}
      → 8 * slot < length filter.program → SlotRead filter.program slot opc number
      → Put l l' slot next (entries at (is_wide number)) → next ≡ slot + slots_wide (is_wide number)
      → Emits c c' t t' at jumps at' jumps' slot (code_at filter slot (insn_at filter.program slot))
      → length c' ≡ length c → Writing filter page start c₀ c' l₀ l' t₀ t' next at' jumps'
  writing-next h r put is em u =
      let w = next-wide h r in
      writing-on (next-block h).0 h (next-block h).1 (rw w at put) (rw w at is) (rw (← (next-read h).code) at em) u

  pub writing-ends : length filter.program ≤ 8 * slot → Writes (walk_from filter page start) start c₀ c l₀ l t₀ t at jumps
  writing-ends h =
      rw (ends m.sofar h)
      (record {
        holds =
            record {
              end_is = m.sofar.place_is;
              jumps_are = m.targets.next;
              few = omega (arith, m.few, m.sofar.slots-are);
              code = rw (← m.sofar.place_is) m.code;
              locations = m.locations.is;
              fields = m.fields.is;
              targets = m.targets.is;
              kinds = m.kinds.is;
              makers = m.makers.is;
            };
      })

-- a slot's entries, written
pub put-wide : (l : List ℕ) (slot at : ℕ) (w : Bool) → w ≡ true
    → Put l (set (set l slot at) (slot + 1) 0) slot (slot + 2) (entries at w) × (slot + 2 ≡ slot + slots_wide w)
put-wide l slot at w e = rw e (record { next = omega arith; is = rw (add-one slot) }, refl)

pub put_one : (l : List ℕ) (slot at : ℕ) (w : Bool) → w ≡ false
    → Put l (set l slot at) slot (slot + 1) (entries at w) × (slot + 1 ≡ slot + slots_wide w)
put_one l slot at w e = rw e (record { next = omega arith; is = refl }, refl)
