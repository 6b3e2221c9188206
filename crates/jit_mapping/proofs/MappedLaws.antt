-- The laws of specs/Mapped.antt: it admits one answer only; how `decide_mapped` settles it, and how the writing functions meet it.
use mathlib.Core.Path.{◌≡◌, ◌∙◌, refl, ap, sym}
use mathlib.Core.Bool.{Bool, true, false}
use mathlib.Core.List.{List, ◌++◌, append_assoc}
use Prim.Native.Nat.{ℕ, ◌+◌, ◌-◌, ◌≤◌, ◌<◌, ◌^◌}
use native.Mathlib.Omega.{arith}
use Rattle.std.specs.Prelude.{Ok, Err}
use native.Mathlib.Nat.{zero-add}
use lib.Dec.{leb, ltb, leb→le}
use lib.ListN.{length, length-append, take, drop}
use lib.Seq.{sets, sets-eq, take_at}
use borrow.Author.Tests.{lt-ltb, le-ltb, ltb-true, ltb-false, le-leb, lt-leb}
use Rattle.base.specs.Lists.{over}
use Rattle.base.specs.Pick.{pick}
use Rattle.base.proofs.Tests.{true-T, leb_no}
use Rattle.code.specs.Lines.{lines_of}
use Rattle.code.specs.Page as pages
use Rattle.code.specs.Page.{page_code, past_last, loc_of}
use Rattle.text.specs.Text.{Says}
use Rattle.map.specs.MapText.{text_of}
use Rattle.x86.specs.Encode.{isa}
use Rattle.x86.specs.Code.{size}
use Rattle.x86.proofs.CodeLaws.{length-bytes}
use Rattle.jit.specs.Frame.{prologue}
use Rattle.jit.specs.Room.{epilogue_size}
use Rattle.jit.specs.JumpTables.{blocks_in, page_for}
use Rattle.jit.specs.Passes.{starts}
use Rattle.jit.specs.Translation as translation
use Rattle.jit.specs.Translation.{Inputs, Outcome, Block, slots_of, slots_in, flat, whole, page_of, locations, accepted, walk_of, translation_of}
use Rattle.jit.proofs.Bounds.{whole-size}
use Rattle.jit.proofs.Counted.{all_slots, length-locations}
use Rattle.jit.proofs.FrameLaws.{prologue-size}
use Rattle.jit_translate.specs.declared.translate.Accepted.{Accepted as Page}
use Rattle.jit_translate.specs.Translated.{answer_of as answer_to, verdict_in, code_in, locations_in, fields_in, Translated, Named, Decided}
use Rattle.jit_translate.proofs.DecidedLaws.{Ready, ready}
use Rattle.jit_translate.proofs.TranslatedLaws.{same-numbers}
use Rattle.jit_mapping.specs.declared.Refusal.{Refusal}
use Rattle.jit_mapping.specs.declared.Refusal.TheVariants.{Translation, BaseTooHigh, TextTooShort}
use Rattle.jit_mapping.specs.Mapped.{map_text, Map, no, yes, map_in, map_of, Answer, answer_of, text_in, Buffers, Mapped}
use Rattle.jit_mapping.specs.Rows.{closed_table, table_lines, Rising}
use Rattle.jit_mapping.specs.Walked.{walk_lines, Fit, fit_at, Judging}
use Rattle.jit_mapping.specs.Passes.{fit_in}
use Rattle.jit_mapping.proofs.RowsLaws.{table-lines, rising-starts}
use Rattle.jit_mapping.proofs.WalkedLaws.{page-lines}

-- a refusal leaves everything as it was
pub refuses : {x : Inputs} {base : ℕ} {b : Buffers} {r : Refusal} → map_of x base (length b.text) ≡ no r → Mapped x base b b (Err r)
refuses e =
    record {
      answer = rw e;
      code = rw e;
      locations = rw e;
      fields = rw e;
      targets = rw e;
      kinds = rw e;
      makers = rw e;
      text = rw e;
    }

-- the prologue has bytes
prologue-some : (a b : Bool) → 0 < pick a (pick b 49 31) 34
prologue-some true true = omega arith
prologue-some true false = omega arith
prologue-some false b = omega arith

-- what is stored from the first place on stands at the head
at_head : (s ys : List ℕ) → length ys ≤ length s → sets s 0 ys ≡ over ys s
at_head s ys h = sets-eq ys s 0 (omega arith) ∙ rw (zero-add (length ys))

-- a translation's answer, in its two numbers
lengths-in : (o : Outcome) {page : Page} → Ok page ≡ answer_to o → (page.length ≡ length (code_in o)) × (page.jumps ≡ length (fields_in o))
lengths-in (translation.no r) e = let z : ◌≡◌ {A = ℕ} 0 1 = cc in absurd (omega arith)
lengths-in (translation.yes c l f t) e = same-numbers e

pub answered : {o : Outcome} {c c₁ l l₁ f f₁ t t₁ : List ℕ} {page : Page} → Translated o c c₁ l l₁ f f₁ t t₁ (Ok page)
    → (page.length ≡ length (code_in o)) × (page.jumps ≡ length (fields_in o))
answered {o} h = lengths-in o h.answer

-- what the verdict says
abbrev by_fit : Fit → List ℕ → Map
by_fit (Ok u) text = yes text
by_fit (Err r) text = no r

module _ {x : Inputs} (good : Decided x (Ok tt)) where
  is : Ready x
  is = ready good

  abbrev bs : List Block
  bs = is.walk.bs

  abbrev start : ℕ
  start = size (prologue x.flags)

  abbrev exit : ℕ
  exit = start + size (flat bs)

  translation-is : translation_of x ≡ accepted x.flags bs
  translation-is =
      let fits : size (whole x.flags bs) ≤ x.page = omega (arith, whole-size x.flags bs, is.walk.room) in
      is.settles ∙ rw (is.walk.walk, le-leb _ _ fits, is.walk.targets)

  code_is : length (page_code isa (page_of x.flags bs)) ≡ exit + epilogue_size
  code_is = omega (arith, length-bytes (loc_of isa (page_of x.flags bs)) 0 (whole x.flags bs), whole-size x.flags bs)

  blocks-are : blocks_in (walk_of x) ≡ bs
  blocks-are = rw is.walk.walk

  -- the length of the code, of the page that is asked for
  pub size_is : length (code_in (translation_of x)) ≡ size (pages.whole (page_for x))
  size_is =
      ap (λ (o : Outcome). length (code_in o)) translation-is
      ∙ length-bytes (loc_of isa (page_of x.flags bs)) 0 (whole x.flags bs)
      ∙ ap (λ (cs : List Block). size (whole x.flags cs)) (sym blocks-are)

  pub judging : Judging x.filter x.flags x.page
  judging = record { program = is.program; page_is = is.longest; helpers = is.helpers; walk = is.walk }

  begins : 0 < start
  begins = rw (prologue-size x.flags) (prologue-some x.flags.use_mbuff x.flags.update_data_ptr)

  text_is : (base : ℕ) → map_text x base ≡ text_of (walk_lines base start bs)
  text_is base = ap (λ (cs : List Block). text_of (lines_of isa base (page_of x.flags cs))) blocks-are ∙ ap text_of (page-lines base x.flags bs)

  -- the definition's tests, and those of the verdict
  tested : (base room : ℕ) (text : List ℕ)
      → pick (leb (2 ^ 64) (base + (exit + epilogue_size))) (no BaseTooHigh) (pick (ltb room (length text)) (no TextTooShort) (yes text))
      ≡ by_fit
      (pick (ltb (base + (exit + epilogue_size)) (2 ^ 64)) (pick (leb (length text) room) (Ok tt) (Err TextTooShort)) (Err BaseTooHigh)) text
  tested base room text = by (ltb (base + (exit + epilogue_size)) (2 ^ 64)) refl (leb (length text) room) refl
    where
      by : (low : Bool) → ltb (base + (exit + epilogue_size)) (2 ^ 64) ≡ low → (fits : Bool) → leb (length text) room ≡ fits
          → pick (leb (2 ^ 64) (base + (exit + epilogue_size))) (no BaseTooHigh) (pick (ltb room (length text)) (no TextTooShort) (yes text))
          ≡ by_fit (pick low (pick fits (Ok tt) (Err TextTooShort)) (Err BaseTooHigh)) text
      by true e true f = rw (lt-leb _ _ (ltb-true _ _ e), le-ltb _ _ (leb→le _ _ (true-T _ f)))
      by true e false f = rw (lt-leb _ _ (ltb-true _ _ e), lt-ltb _ _ (leb_no _ _ f))
      by false e fits f = rw (le-leb _ _ (ltb-false _ _ e))

  pub map_is : (base room : ℕ) → map_of x base room ≡ by_fit (fit_at base room start (blocks_in (walk_of x))) (map_text x base)
  map_is base room = rw (translation-is, text_is base, blocks-are, code_is) (tested base room (text_of (walk_lines base start bs)))

  -- where `translate` accepts, the map's own tests decide
  pub judged : (base room : ℕ) → fit_at base room start (blocks_in (walk_of x)) ≡ fit_in (map_of x base room)
  judged base room = by (fit_at base room start (blocks_in (walk_of x))) ∙ sym (ap fit_in (map_is base room))
    where
      by : (f : Fit) → f ≡ fit_in (by_fit f (map_text x base))
      by (Ok u) = refl
      by (Err r) = refl

  module _ (base room : ℕ) (fit : fit_at base room start (blocks_in (walk_of x)) ≡ Ok tt) where
    pub map-fits : map_of x base room ≡ yes (map_text x base)
    map-fits = map_is base room ∙ ap (λ (f : Fit). by_fit f (map_text x base)) fit

    -- what that says
    fit_is : (base + (exit + epilogue_size) < 2 ^ 64) × (length (text_of (walk_lines base start bs)) ≤ room)
    fit_is = by (ltb (base + (exit + epilogue_size)) (2 ^ 64)) refl (leb (length (text_of (walk_lines base start bs))) room) refl (rw blocks-are at fit)
      where
        wrong : {A : Type 0} {r : Refusal} → ◌≡◌ {A = Fit} (Err r) (Ok tt) → A
        wrong e = let z : ◌≡◌ {A = ℕ} 0 1 = cc in absurd (omega arith)

        by : (low : Bool) → ltb (base + (exit + epilogue_size)) (2 ^ 64) ≡ low
            → (fits : Bool) → leb (length (text_of (walk_lines base start bs))) room ≡ fits
            → ◌≡◌ {A = Fit} (pick low (pick fits (Ok tt) (Err TextTooShort)) (Err BaseTooHigh)) (Ok tt)
            → (base + (exit + epilogue_size) < 2 ^ 64) × (length (text_of (walk_lines base start bs)) ≤ room)
        by true e true f q = (ltb-true _ _ e, leb→le _ _ (true-T _ f))
        by true e false f q = wrong q
        by false e fits f q = wrong q

    module _ (l : List ℕ) {l₁ : List ℕ} (left : l₁ ≡ over (locations_in (translation_of x)) l) (long : length l ≡ x.locations) where
      slots-are : slots_in bs ≡ slots_of x.filter.program
      slots-are = all_slots x bs is.walk.walk

      starts-are : length (starts start bs) ≡ slots_of x.filter.program
      starts-are = omega (arith, length-locations x.flags bs, length-append (starts start bs) past_last, slots-are)

      table_is : take (slots_of x.filter.program) l₁ ≡ starts start bs
      table_is =
          rw (left, translation-is, append_assoc (starts start bs) past_last (drop (length (starts start bs ++ past_last)) l))
          (take_at (starts start bs) (past_last ++ drop (length (starts start bs ++ past_last)) l) (slots_of x.filter.program) starts-are)

      lines_are : table_lines (slots_of x.filter.program) base exit l₁ ≡ walk_lines base start bs
      lines_are = rw (table_is, ← slots-are) (table-lines base start bs begins)

      -- what writing the map asks
      pub with-room : {L : ℕ} → L ≡ length (code_in (translation_of x)) → length l₁ ≡ length l
          → ((slots_of x.filter.program ≤ length l₁)
          × ((Rising (L - epilogue_size + epilogue_size) 0 (closed_table (slots_of x.filter.program) (L - epilogue_size) l₁))
          × ((base + (L - epilogue_size + epilogue_size) < 2 ^ 64)
          × (length (text_of (table_lines (slots_of x.filter.program) base (L - epilogue_size) l₁)) ≤ room))))
          × (slots_of x.filter.program < 2 ^ 16)
      with-room {L} e k =
          let at : L - epilogue_size ≡ exit = omega (arith, rw translation-is at e, code_is) in (
            rw at (
              omega (arith, is.tables.first, long, k),
              (
                rw table_is (rising-starts 0 start (exit + epilogue_size) bs begins (omega arith) (omega arith)),
                (omega (arith, fit_is.0), rw lines_are fit_is.1),
              ),
            ),
            omega (arith, is.program),
          )

      -- and what it leaves
      pub maps : {c c₁ f f₁ t t₁ k k₁ m m₁ s s₁ : List ℕ} {page : Page} {T : ℕ} → room ≡ length s
          → Translated (translation_of x) c c₁ l l₁ f f₁ t t₁ (Ok page) → Named x k k₁ m m₁
          → Says s s₁ 0 T (text_of (table_lines (slots_of x.filter.program) base (page.length - epilogue_size) l₁))
          → Mapped x base
          (record { code = c; locations = l; fields = f; targets = t; kinds = k; makers = m; text = s })
          (record { code = c₁; locations = l₁; fields = f₁; targets = t₁; kinds = k₁; makers = m₁; text = s₁ })
          (Ok (record { length = page.length; jumps = page.jumps; text = T }))
      maps {s = s} {s₁ = s₁} {page = page} {T = T} q h names p =
          let lengths = answered h in
          let at : page.length - epilogue_size ≡ exit = omega (arith, rw translation-is at lengths.0, code_is) in
          let said : Says s s₁ 0 T (map_text x base) = rw (text_is base) (rw (at, lines_are) at p) in
          let fits : length (map_text x base) ≤ length s = rw (text_is base, ← q) fit_is.1 in
          let m = ap (map_of x base) (sym q) ∙ map-fits in
          record {
            answer = counted lengths.0 lengths.1 (omega (arith, said.next, fits)) ∙ sym (ap (λ (w : Map). answer_of w (translation_of x)) m);
            code = rw m h.code;
            locations = rw m h.locations;
            fields = rw m h.fields;
            targets = rw m h.targets;
            kinds = rw m names.kinds;
            makers = rw m names.makers;
            text = said.text ∙ at_head s (map_text x base) fits ∙ sym (ap (λ (w : Map). over (text_in w) s) m);
          }
        where
          counted : {L J T a b d : ℕ} → L ≡ a → J ≡ b → T ≡ d
              → ◌≡◌ {A = Answer} (Ok (record { length = L; jumps = J; text = T })) (Ok (record { length = a; jumps = b; text = d }))
          counted e f g = rw (e, f, g)

-- where there is none, for what reason; where there is one, `translate` accepts, and it fits
pub no-map : (x : Inputs) (base room : ℕ) {r : Refusal} → fit_in (map_of x base room) ≡ Err r → map_of x base room ≡ no r
no-map x base room {r} e = by (map_of x base room) e
  where
    by : (m : Map) → fit_in m ≡ Err r → m ≡ no r
    by (no q) f = cc
    by (yes text) f = let z : ◌≡◌ {A = ℕ} 0 1 = cc in absurd (omega arith)

pub a-map : (x : Inputs) (base room : ℕ) → fit_in (map_of x base room) ≡ Ok tt
    → Decided x (Ok tt) × (fit_at base room (size (prologue x.flags)) (blocks_in (walk_of x)) ≡ Ok tt)
a-map x base room e = by (translation_of x) refl
  where
    by : (o : Outcome) → translation_of x ≡ o → Decided x (Ok tt) × (fit_at base room (size (prologue x.flags)) (blocks_in (walk_of x)) ≡ Ok tt)
    by (translation.no r) q =
        let f : Err (Translation r) ≡ Ok tt = ap (λ (o : Outcome). fit_in (map_in o (map_text x base) base room)) (sym q) ∙ e in
        let z : ◌≡◌ {A = ℕ} 0 1 = cc in
        absurd (omega arith)
    by (translation.yes c l f t) q =
        let good : Decided x (Ok tt) = record { verdict = sym (ap verdict_in q) } in
        (good, judged good base room ∙ e)

pub same : (a b : Buffers) → a.code ≡ b.code → a.locations ≡ b.locations → a.fields ≡ b.fields → a.targets ≡ b.targets
    → a.kinds ≡ b.kinds → a.makers ≡ b.makers → a.text ≡ b.text → a ≡ b
same a b = by a.code a.locations a.fields a.targets a.kinds a.makers a.text
  where
    by : (c l f t k m s : List ℕ) → c ≡ b.code → l ≡ b.locations → f ≡ b.fields → t ≡ b.targets → k ≡ b.kinds → m ≡ b.makers → s ≡ b.text
        → ◌≡◌ {A = Buffers} (record { code = c; locations = l; fields = f; targets = t; kinds = k; makers = m; text = s }) b
    by c l f t k m s p q r u v w z = rw (p, q, r, u, v, w, z) refl

-- It admits one answer and one set of contents at exit only.
pub one_answer : {x : Inputs} {base : ℕ} {before after other : Buffers} {r s : Answer} → Mapped x base before after r → Mapped x base before other s
    → (r ≡ s) × (after ≡ other)
one_answer {after = after} {other = other} a b = (
  a.answer ∙ sym b.answer,
  same after other
      (a.code ∙ sym b.code)
      (a.locations ∙ sym b.locations)
      (a.fields ∙ sym b.fields)
      (a.targets ∙ sym b.targets)
      (a.kinds ∙ sym b.kinds)
      (a.makers ∙ sym b.makers)
      (a.text ∙ sym b.text),
)

-- the code has an epilogue
pub long-enough : {x : Inputs} (good : Decided x (Ok tt)) {c c₁ l l₁ f f₁ t t₁ : List ℕ} {page : Page}
    → Translated (translation_of x) c c₁ l l₁ f f₁ t t₁ (Ok page) → epilogue_size ≤ page.length
long-enough good h = omega (arith, rw (translation-is good) at (answered h).0, code_is good)

-- What an acceptance says: the translation's own, and that of the map.
pub record Mapping (x : Inputs) (base : ℕ) (before after : Buffers) (L J T : ℕ) : Type 0 where
  pub page : Translated (translation_of x)
      before.code after.code before.locations after.locations before.fields after.fields before.targets after.targets
      (Ok (record { length = L; jumps = J }))
  pub names : Named x before.kinds after.kinds before.makers after.makers
  pub length_is : L ≡ size (pages.whole (page_for x))
  pub low : base + size (pages.whole (page_for x)) < 2 ^ 64
  pub text : take T after.text ≡ map_text x base

record Yes (o : Outcome) (base : ℕ) (text : List ℕ) : Type 0 where
  pub verdict : Ok tt ≡ verdict_in o
  pub low : base + length (code_in o) < 2 ^ 64
  pub mine : (J : ℕ) → J ≡ length (fields_in o) → Ok (record { length = length (code_in o); jumps = J }) ≡ answer_to o

refused-not : {A : Type 0} {r : Refusal} {text : List ℕ} → no r ≡ yes text → A
refused-not e = let z : ◌≡◌ {A = ℕ} 0 1 = cc in absurd (omega arith)

is-yes : (o : Outcome) (text : List ℕ) (base room : ℕ) {made : List ℕ} → map_in o text base room ≡ yes made → (text ≡ made) × Yes o base text
is-yes (translation.no r) text base room e = refused-not e
is-yes (translation.yes c l f t) text base room {made} e = by (leb (2 ^ 64) (base + length c)) refl (ltb room (length text)) e
  where
    by : (high : Bool) → leb (2 ^ 64) (base + length c) ≡ high → (short : Bool)
        → pick high (no BaseTooHigh) (pick short (no TextTooShort) (yes text)) ≡ yes made
        → (text ≡ made) × Yes (translation.yes c l f t) base text
    by true h short q = refused-not q
    by false h true q = refused-not q
    by false h false q = (cc, record { verdict = refl; low = leb_no _ _ h; mine = λ J e. rw e })

-- the numbers of an answer
abbrev length_in : Answer → ℕ
length_in (Ok a) = a.length
length_in (Err r) = 0

abbrev jumps_in : Answer → ℕ
jumps_in (Ok a) = a.jumps
jumps_in (Err r) = 0

abbrev text_length_in : Answer → ℕ
text_length_in (Ok a) = a.text
text_length_in (Err r) = 0

pub mapping : {x : Inputs} {base : ℕ} {before after : Buffers} {L J T : ℕ} → Mapped x base before after (Ok (record { length = L; jumps = J; text = T }))
    → Mapping x base before after L J T
mapping {x} {base} {before} {after} {L} {J} {T} h = by (map_of x base (length before.text)) refl
  where
    by : (w : Map) → map_of x base (length before.text) ≡ w → Mapping x base before after L J T
    by (no r) e =
        let f : ◌≡◌ {A = Answer} (Ok (record { length = L; jumps = J; text = T })) (Err r) = h.answer ∙ ap (λ (w : Map). answer_of w (translation_of x)) e in
        let z : ◌≡◌ {A = ℕ} 0 1 = cc in
        absurd (omega arith)
    by (yes made) e =
        let is = is-yes (translation_of x) (map_text x base) base (length before.text) e in
        let size = size_is (record { verdict = is.1.verdict }) in
        let f : ◌≡◌ {A = Answer} (Ok (record { length = L; jumps = J; text = T })) (answer_of (yes made) (translation_of x)) =
        h.answer ∙ ap (λ (w : Map). answer_of w (translation_of x)) e in
        let l : L ≡ length (code_in (translation_of x)) = ap length_in f in
        let j : J ≡ length (fields_in (translation_of x)) = ap jumps_in f in
        let t : T ≡ length made = ap text_length_in f in
        record {
          page =
              record {
                answer = rw l (is.1.mine J j);
                code = rw e at h.code;
                locations = rw e at h.locations;
                fields = rw e at h.fields;
                targets = rw e at h.targets;
              };
          names = record { kinds = rw e at h.kinds; makers = rw e at h.makers };
          length_is = l ∙ size;
          low = rw (← size) is.1.low;
          text = ap (take T) (rw e at h.text) ∙ take_at made (drop (length made) before.text) T (sym t) ∙ sym is.0;
        }
