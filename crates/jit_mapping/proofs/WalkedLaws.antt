-- The loop that measures a map's text: what holds at its head, and what it comes to. And that the lines of a walk are its page's.
use mathlib.Core.Path.{◌≡◌, ◌∙◌, refl, ap, sym}
use mathlib.Core.Bool.{Bool, true, false}
use mathlib.Core.List.{List, [], ◌∷◌, ◌++◌, append_assoc, append-nil}
use Prim.Native.Nat.{ℕ, ◌+◌, ◌*◌, ◌≤◌, ◌<◌, ◌^◌}
use native.Mathlib.Omega.{arith}
use Rattle.std.proofs.Common.{Result, Ok, Err, IsOk}
use native.Mathlib.Nat.{zero-add}
use lib.Dec.{leb, leb→le, ltb}
use borrow.Author.Tests.{ltb-true, ltb-false}
use lib.ListN.{length, length-append}
use Rattle.base.proofs.Tests.{true-T}
use Rattle.code.specs.declared.Piece.TheVariants.{Prologue, Epilogue}
use Rattle.code.specs.Lines.{Line, line, slot, slot_lines, lines_of}
use Rattle.map.specs.MapText.{text_of}
use Rattle.map.specs.Room.{any_line}
use Rattle.map.proofs.ReadBackLaws.{slots-append}
use Rattle.x86.specs.Encode.{isa}
use Rattle.x86.specs.Code.{size}
use Rattle.x86.proofs.CodeLaws.{size-append}
use Rattle.jit.specs.declared.Flags.{Flags}
use Rattle.jit.specs.declared.Refusal.{Refusal}
use Rattle.jit.specs.Frame.{prologue}
use Rattle.jit.specs.Room.{epilogue_size}
use Rattle.jit.specs.Passes.{walk_from}
use Rattle.jit.specs.JumpTables.{blocks_in}
use Rattle.jit.specs.Translation.{Filter, slots_of, at, Block, Step, stop, go, step_at, Walk, refused, done, joined, within, slots_wide, slots_in, flat, rest, page_of}
use Rattle.jit.proofs.FrameLaws.{epilogue-size}
use Rattle.jit.proofs.Bounds.{wide-some}
use Rattle.jit_walk.proofs.Sofar.{Sofar, begins, stops, goes_on, ends, next-is}
use Rattle.jit_measuring.specs.declared.measure.Look.{Look}
use Rattle.jit_measuring.specs.Looks.{Finds, wide_of}
use Rattle.jit_measuring.proofs.Seen.{step-torn}
use Rattle.jit_mapping.specs.Walked.{walk_lines, Accepted}
use Rattle.jit_mapping.proofs.RowsLaws.{text-append}

-- the page's lines
pub page-lines : (base : ℕ) (f : Flags) (bs : List Block) → lines_of isa base (page_of f bs) ≡ walk_lines base (size (prologue f)) bs
page-lines base f bs = rw epilogue-size

not_done : {A : Type 0} {r : Refusal} {bs : List Block} → refused r ≡ done bs → A
not_done e = let z : ◌≡◌ {A = ℕ} 0 1 = cc in absurd (omega arith)

-- what is done of a walk is part of it
flat-size : (xs bs : List Block) → size (flat (xs ++ bs)) ≡ size (flat xs) + size (flat bs)
flat-size [] bs = omega arith
flat-size (x ∷ xs) bs = rw (size-append x.code (flat (xs ++ bs)), size-append x.code (flat xs), flat-size xs bs) (omega arith)

part : (bs cs : List Block) (v : Walk) → joined bs v ≡ done cs → size (flat bs) ≤ size (flat cs)
part bs cs (refused r) e = not_done e
part bs cs (done ds) e = let f : bs ++ ds ≡ cs = cc in omega (arith, flat-size bs ds, ap (λ (xs : List Block). size (flat xs)) f)

-- one block more, and its line
lines_snoc : (base start : ℕ) (bs : List Block) (b : Block) {place k : ℕ} → place ≡ start + size (flat bs) → k ≡ slots_in bs
    → slot_lines isa (base + start) 0 (bs ++ (b ∷ [])) ≡ slot_lines isa (base + start) 0 bs ++ line (base + place) (size b.code) (slot k)
lines_snoc base start bs b {place} {k} e f =
    let p : base + start + size (flat bs) ≡ base + place = omega (arith, e) in
    slots-append isa (base + start) 0 bs (b ∷ [])
    ∙ rw (p, zero-add (slots_in bs), ← f, append-nil (line (base + place) (size b.code) (slot k)))

-- .. and the text of lines grows by its own
pub text-more : (ks ls ms : List Line) → length (text_of (ks ++ (ls ++ ms))) ≡ length (text_of (ks ++ ls)) + length (text_of ms)
text-more ks ls ms =
    ap (λ (xs : List Line). length (text_of xs)) (sym (append_assoc ks ls ms))
    ∙ ap length (text-append (ks ++ ls) ms)
    ∙ length-append (text_of (ks ++ ls)) (text_of ms)

-- at the head of the loop
pub record Sizing (filter : Filter) (page start base slot place text : ℕ) : Type 0 where
  pub bs : List Block
  pub sofar : Sofar filter page start (walk_from filter page start) bs slot place
  pub text_is : text ≡ length (text_of (line base start Prologue ++ slot_lines isa (base + start) 0 bs))
  pub few : text ≤ any_line * (slot + 1)

pub sizing-begins : (filter : Filter) (page start base : ℕ) {text : ℕ} → start ≤ page → text ≡ length (text_of (line base start Prologue)) → text ≤ any_line
    → Sizing filter page start base 0 start text
sizing-begins filter page start base h e m =
    record {
      bs = [];
      sofar = begins filter page start h;
      text_is = e ∙ ap (λ (ls : List Line). length (text_of ls)) (sym (append-nil (line base start Prologue)));
      few = omega arith;
    }

-- the slot that is next: it has a look, and that says
pub record Taken (filter : Filter) (slot : ℕ) (x : Look) : Type 0 where
  pub block : Block
  pub step : go block ≡ step_at filter slot
  pub size_is : x.size ≡ size block.code
  pub wide : block.wide ≡ wide_of x.next

module _ {filter : Filter} {page start base n slot₁ place text : ℕ} (s : Sizing filter page start base slot₁ place text)
    (a : Accepted n page start base (walk_from filter page start)) where
  -- no address is past the largest one
  pub low : base + place + epilogue_size < 2 ^ 64
  low =
      let w = sym s.sofar.whole ∙ a.walk.walk in
      omega (arith, a.low, s.sofar.place_is, part s.bs a.walk.bs (rest s.sofar.fuel filter page slot₁ place) w)

  pub looked : (x : Result Look Refusal) → 8 * slot₁ < length filter.program → Finds n slot₁ (step_at filter slot₁) x → IsOk x
  looked x h f = by (step_at filter slot₁) refl f
    where
      found : (b : Block) (x : Result Look Refusal) → Finds n slot₁ (go b) x → IsOk x
      found b (Ok y) f = refl
      found b (Err r) f = absurd f

      by : (t : Step) → t ≡ step_at filter slot₁ → Finds n slot₁ t x → IsOk x
      by (stop r) e f = not_done (sym (stops s.sofar r h e) ∙ a.walk.walk)
      by (go b) e f = found b x f

  pub taken : (x : Look) → 8 * slot₁ < length filter.program → Finds n slot₁ (step_at filter slot₁) (Ok x) → Taken filter slot₁ x
  taken x h f = by (step_at filter slot₁) refl f
    where
      by : (t : Step) → t ≡ step_at filter slot₁ → Finds n slot₁ t (Ok x) → Taken filter slot₁ x
      by (stop r) e f = not_done (sym (stops s.sofar r h e) ∙ a.walk.walk)
      by (go b) e f = record { block = b; step = e; size_is = f.0; wide = f.1.0 }

  -- its code has room
  has_room : (b : Block) → 8 * slot₁ < length filter.program → go b ≡ step_at filter slot₁ → place + size b.code ≤ page
  has_room b h e = by (leb (place + size b.code) page) refl (next-is s.sofar b h e).0 (sym (next-is s.sofar b h e).1 ∙ a.walk.walk)
    where
      by : (t : Bool) → leb (place + size b.code) page ≡ t → (v : Walk) → joined s.bs (within t slot₁ b v) ≡ done a.walk.bs
          → place + size b.code ≤ page
      by true q v f = leb→le _ _ (true-T _ q)
      by false q v f = not_done f

  pub sizing : {x : Look} {more slot₂ : ℕ} → 8 * slot₁ < length filter.program → (t : Taken filter slot₁ x)
      → more ≡ length (text_of (line (base + place) x.size (slot slot₁))) → more ≤ any_line → slot₂ ≡ slot₁ + slots_wide (wide_of x.next)
      → Sizing filter page start base slot₂ (place + x.size) (text + more)
  sizing {x} {more} {slot₂} h t e m q =
      let b = t.block in
      rw (q, ← t.wide, t.size_is)
      (record {
        bs = s.bs ++ (b ∷ []);
        sofar = goes_on s.sofar b h t.step (has_room b h t.step);
        text_is = longer b (rw t.size_is at e);
        few = omega (arith, s.few, m, wide-some b.wide);
      })
    where
      longer : (b : Block) → more ≡ length (text_of (line (base + place) (size b.code) (slot slot₁)))
          → text + more ≡ length (text_of (line base start Prologue ++ slot_lines isa (base + start) 0 (s.bs ++ (b ∷ []))))
      longer b e =
          rw (lines_snoc base start s.bs b s.sofar.place_is s.sofar.slots-are)
          (omega (
            arith,
            s.text_is,
            e,
            text-more (line base start Prologue) (slot_lines isa (base + start) 0 s.bs) (line (base + place) (size b.code) (slot slot₁)),
          ))

  -- no byte is left behind the last slot
  passed : slots_of filter.program ≤ slot₁ → length filter.program ≤ 8 * slot₁
  passed g = by (ltb (8 * slot₁) (length filter.program)) refl
    where
      by : (t : Bool) → ltb (8 * slot₁) (length filter.program) ≡ t → length filter.program ≤ 8 * slot₁
      by true q =
          let torn = sym (step-torn filter slot₁ (omega (arith, g))) in
          not_done (sym (stops s.sofar (Refusal.Torn (at slot₁)) (ltb-true _ _ q) torn) ∙ a.walk.walk)
      by false q = ltb-false _ _ q

  pub sized : {more : ℕ} → slots_of filter.program ≤ slot₁ → more ≡ length (text_of (line (base + place) epilogue_size Epilogue))
      → text + more ≡ length (text_of (walk_lines base start (blocks_in (walk_from filter page start))))
  sized {more} h e =
      rw (ends s.sofar (passed h))
      (omega (
        arith,
        s.text_is,
        rw s.sofar.place_is at e,
        text-more (line base start Prologue) (slot_lines isa (base + start) 0 s.bs) (line (base + (start + size (flat s.bs))) epilogue_size Epilogue),
      ))
