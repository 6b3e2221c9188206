-- What `write_page` may count on at each of its calls, and what it comes to, where `Decided` is good.
use mathlib.Core.Path.{◌≡◌, refl}
use mathlib.Core.List.{List}
use Prim.Native.Nat.{ℕ, ◌+◌, ◌≤◌, ◌<◌, ◌^◌}
use native.Mathlib.Omega.{arith}
use Rattle.std.specs.Prelude.{Ok}
use lib.ListN.{length}
use Rattle.x86.specs.Code.{size}
use Rattle.jit.specs.Frame.{prologue}
use Rattle.jit.specs.Limits.{longest_page, longest_program}
use Rattle.jit.specs.Room.{epilogue_size}
use Rattle.jit.specs.Translation.{Inputs, slots_of, Walk, walk_of, translation_of}
use Rattle.jit.specs.Passes.{walk_from}
use Rattle.jit.proofs.Counted.{all_slots}
use Rattle.jit_walk.specs.Acceptable.{Acceptable}
use Rattle.jit_recording.specs.Emits.{Tables, Emits, HasEntry, Room}
use Rattle.jit_recording.proofs.EmitsLaws.{put-length}
use Rattle.jit_writing.specs.Writes.{Fits, Fitting, Writes}
use Rattle.jit_translate.specs.Translated.{Translated, Named, Decided}
use Rattle.jit_translate.specs.Halves.{Begun, Closing, Ended}
use Rattle.jit_translate.proofs.TranslatedLaws as laws
use Rattle.jit_translate.proofs.DecidedLaws.{Ready, ready, accepted-so}

fits : {n page start : ℕ} {w : Walk} → Acceptable n page start w → Fits w page start
fits a = rw a.walk a.room

-- the jump tables that are lent have the lengths that are asked of
pub record Lengths (x : Inputs) (t : Tables) : Type 0 where
  pub fields : x.fields ≡ length t.fields
  pub targets : x.targets ≡ length t.targets
  pub kinds : x.kinds ≡ length t.kinds
  pub makers : x.makers ≡ length t.makers

module _ {x : Inputs} (good : Decided x (Ok tt)) where
  is : Ready x
  is = ready good

  -- and so an entry for each slot, and one
  entry_at : (k : ℕ) → k ≤ slots_of x.filter.program → {t : Tables} → Lengths x t → HasEntry t k
  entry_at k h n =
      record {
        field = omega (arith, h, is.tables.second, n.fields);
        target = omega (arith, h, is.tables.third, n.targets);
        kind = omega (arith, h, is.tables.fourth, n.kinds);
        maker = omega (arith, h, is.tables.fifth, n.makers);
      }

  -- the first half: room for the prologue, and for the slots behind it
  pub prologue-room : {c : List ℕ} {t : Tables} → x.page ≡ length c → Lengths x t
      → Room c t 0 0 (prologue x.flags) × (slots_of x.filter.program < 2 ^ 16)
  prologue-room p h = (
    record { page = omega (arith, is.walk.room, p); entry = entry_at 0 (omega arith) h; small = omega (arith, is.longest, p) },
    omega (arith, is.program),
  )

  -- `start` is where the prologue ended
  module _ {start j : ℕ} {c c₁ : List ℕ} {t t₁ : Tables} (e : Emits c c₁ t t₁ 0 0 start j (slots_of x.filter.program) (prologue x.flags)) where
    starts : start ≡ size (prologue x.flags)
    starts = laws.entered x.flags e

    pub slots-bounded : (length x.filter.program ≤ longest_program)
        × ((x.page ≤ longest_page) × ((start ≤ x.page) × (length x.filter.ids ≡ length x.filter.addresses)))
    slots-bounded = (is.program, (is.longest, (omega (arith, starts, is.walk.room), is.helpers)))

    -- the tables are as long as before
    pub slots-fitting : {l : List ℕ} → x.page ≡ length c₁ → x.locations ≡ length l → Lengths x t
        → Fitting (walk_from x.filter x.page start) x.page start c₁ l t₁ (slots_of x.filter.program)
    slots-fitting p hl h =
        let same : Lengths x t₁ =
        record {
          fields = omega (arith, h.fields, put-length e.fields);
          targets = omega (arith, h.targets, put-length e.targets);
          kinds = omega (arith, h.kinds, put-length e.kinds);
          makers = omega (arith, h.makers, put-length e.makers);
        } in
        rw starts
        (record {
          fits = fits is.walk;
          page_is = p;
          locations = omega (arith, is.tables.first, hl);
          entry = entry_at (slots_of x.filter.program) (omega arith) same;
        })

    pub begun : {c₂ l l₁ : List ℕ} {t₂ : Tables} {end jumps : ℕ} → Writes (walk_from x.filter x.page start) start c₁ c₂ l l₁ t₁ t₂ end jumps
        → Begun (walk_of x) x.flags (slots_of x.filter.program) c c₂ l l₁ t t₂ end jumps
    begun w = laws.began refl e (rw starts at w)

  -- the second half
  module _ {end jumps : ℕ} {c c₁ l l₁ : List ℕ} {t t₁ : Tables}
      (b : Begun (walk_of x) x.flags (slots_of x.filter.program) c c₁ l l₁ t t₁ end jumps)
      (page : x.page ≡ length c) (locations : x.locations ≡ length l) (tables : Lengths x t) where
    ends : end + epilogue_size ≤ x.page
    ends = laws.ends-inside is.walk (all_slots x) b

    few : jumps ≤ slots_of x.filter.program + 1
    few = laws.few-jumps is.walk (all_slots x) b

    listed : jumps ≤ length t.fields
    listed = omega (arith, few, is.tables.second, tables.fields)

    pub short : end + epilogue_size ≤ longest_page
    short = omega (arith, ends, is.longest)

    pub closing : length c₁ ≡ length c → length l₁ ≡ length l → Closing (slots_of x.filter.program) end jumps c₁ l₁ t₁.fields t₁.targets
    closing hc hl =
        record {
          exit = omega (arith, ends, page, hc);
          page = omega (arith, is.longest, page, hc);
          location = omega (arith, is.tables.first, locations, hl);
          fields = omega (arith, listed, laws.fields-same is.walk (all_slots x) b);
          targets = omega (arith, few, is.tables.third, tables.targets, laws.targets-same is.walk (all_slots x) b);
          inside = λ k h. omega (arith, laws.inside is.walk (all_slots x) b listed k h, page, hc);
        }

    -- what the lenders of the tables are left with is what the tables hold
    pub written : {c₂ l₂ f₂ g₂ : List ℕ} → f₂ ≡ t₁.fields → g₂ ≡ t₁.targets
        → length c₁ ≡ length c → Ended (slots_of x.filter.program) end jumps c₁ c₂ l₁ l₂ t₁.fields t₁.targets
        → Translated (translation_of x) c c₂ l l₂ t.fields f₂ t.targets g₂ (Ok (record { length = end + epilogue_size; jumps = jumps }))
    written pf pt hc z =
        rw (is.settles, pf, pt)
        (laws.accepts is.walk (all_slots x) b is.longest page hc (omega (arith, is.tables.first, locations))
        listed (omega (arith, few, is.tables.third, tables.targets)) z)

    pub named : {k₂ m₂ : List ℕ} → k₂ ≡ t₁.kinds → m₂ ≡ t₁.makers → Named x t.kinds k₂ t.makers m₂
    named pk pm =
        rw (pk, pm) (laws.names is.walk.walk (accepted-so good).is
        (laws.kinds-are is.walk (all_slots x) b (omega (arith, few, is.tables.fourth, tables.kinds)))
        (laws.makers-are is.walk (all_slots x) b (omega (arith, few, is.tables.fifth, tables.makers))))
