-- The laws of specs/Translated.antt: one answer only, and what is written in two halves is what the definition says.
use mathlib.Core.Path.{◌≡◌, ◌∙◌, refl, ap, sym}
use mathlib.Core.List.{List, [], ◌∷◌, ◌++◌, append_assoc, append-nil}
use Prim.Native.Nat.{ℕ, ◌+◌, ◌<◌, ◌≤◌}
use native.Mathlib.Omega.{arith}
use Rattle.std.specs.Prelude.{Ok, Err}
use native.Mathlib.Nat.{zero-add}
use lib.ListN.{length, length-append, take, drop, get_or, set, get_or-append}
use lib.Seq.{sets, sets-eq, length-sets}
use borrow.Author.Tests.{le-leb}
use Rattle.jit.specs.declared.Flags.{Flags}
use Rattle.jit.specs.declared.Refusal.{Refusal}
use Rattle.x86.specs.Code.{size, targets_of, kinds_of, each}
use Rattle.x86.specs.Encode.{isa}
use Rattle.jit.specs.JumpTables.{made_from, kind_table, maker_table}
use Rattle.x86.specs.Lowered.{fields_of, code_of}
use Rattle.x86.specs.Fill.{blanks}
use Rattle.x86.proofs.CodeLaws.{blanks-append, length-blanks, length-bytes, fields-append, targets-append, length_fields}
use Rattle.x86.proofs.CodeLaws.{kinds-append, length-kinds, length-each, length-made}
use Rattle.base.specs.Lists.{over}
use Rattle.x86.proofs.FillLaws.{sets_over, take-over, fill-all}
use Rattle.x86_emit.specs.Wrote.{Wrote}
use Rattle.x86_emit.proofs.WroteLaws.{then, later}
use Rattle.jit.specs.MulDivMod.{Code}
use Rattle.jit.specs.Frame.{prologue, epilogue}
use Rattle.jit.proofs.FrameLaws.{epilogue-size, prologue-targets, epilogue-targets}
use Rattle.jit.specs.Translation.{Inputs, Block, Walk, refused, done, walk_of, flat, locations, place_of, page_of, whole, finish, Outcome, no, yes}
use Rattle.jit.specs.Translation.{translation_of}
use Rattle.jit.specs.Passes.{starts, exit_of}
use Rattle.jit.proofs.Bounds.{whole-size, whole-jumps}
use Rattle.jit.specs.Translation.{slots_in}
use Rattle.jit.proofs.Counted.{length-locations}
use Rattle.jit_resolving.proofs.Filling.{fields-inside}
use Rattle.jit_walk.specs.Acceptable.{Acceptable}
use Rattle.base.proofs.Lists.{empty, sets-append}
use Rattle.jit_recording.specs.Emits.{Tables, Emits}
use Rattle.jit_writing.specs.Writes.{Holds, Writes}
use Rattle.jit.specs.Limits.{longest_page}
use Rattle.jit.specs.Room.{epilogue_size}
use Rattle.jit_translate.specs.declared.translate.Accepted.{Accepted}
use Rattle.jit_translate.specs.Translated.{Answer, Translated, Named}
use Rattle.jit_translate.specs.Halves.{Head, BegunAs, Begun, Ended}

-- It admits one answer only: the outcome and the contents at entry settle the answer and the contents at exit.
pub one_answer : {o : Outcome} {c₀ c₁ c₂ l₀ l₁ l₂ f₀ f₁ f₂ t₀ t₁ t₂ : List ℕ} {r s : Answer}
    → Translated o c₀ c₁ l₀ l₁ f₀ f₁ t₀ t₁ r → Translated o c₀ c₂ l₀ l₂ f₀ f₂ t₀ t₂ s
    → (r ≡ s) × (c₁ ≡ c₂) × (l₁ ≡ l₂) × (f₁ ≡ f₂) × (t₁ ≡ t₂)
one_answer a b =
    (a.answer ∙ sym b.answer, a.code ∙ sym b.code, a.locations ∙ sym b.locations, a.fields ∙ sym b.fields, a.targets ∙ sym b.targets)

-- The same acceptance has the same two numbers.
pub same-numbers : {a b : Accepted} → ◌≡◌ {A = Answer} (Ok a) (Ok b) → (a.length ≡ b.length) × (a.jumps ≡ b.jumps)
same-numbers {a} {b} e = let s : a ≡ b = cc in (ap (λ (x : Accepted). x.length) s, ap (λ (x : Accepted). x.jumps) s)

-- A refusal leaves all as it was.
pub refuses : {o : Outcome} {c l f t : List ℕ} {r : Refusal} → o ≡ no r → Translated o c c l l f f t t (Err r)
refuses e = rw e (record { answer = refl; code = refl; locations = refl; fields = refl; targets = refl })

-- The prologue is written, then the slots.
pub entered : (g : Flags) {p j n : ℕ} {c c₁ : List ℕ} {t t₁ : Tables} → Emits c c₁ t t₁ 0 0 p j n (prologue g) → p ≡ size (prologue g)
entered g e = e.wrote.next ∙ rw (length-blanks (prologue g)) (zero-add (size (prologue g)))

pub began : {w : Walk} {g : Flags} {start p j n end jumps : ℕ} {c c₁ c₂ l l₁ : List ℕ} {t t₁ t₂ : Tables} → start ≡ size (prologue g)
    → Emits c c₁ t t₁ 0 0 p j n (prologue g) → Writes w start c₁ c₂ l l₁ t₁ t₂ end jumps → Begun w g n c c₂ l l₁ t t₂ end jumps
began {w} {g} {start} {p} {j} {n} {end} {jumps} {c} {c₁} {c₂} {l} {l₁} {t} {t₁} {t₂} s e h = record { state = by w h.holds }
  where
    -- a table whose first entry is the prologue's jump's
    behind : (a first more : List ℕ) {b b₁ : List ℕ} → length first ≡ length (targets_of (prologue g)) → b₁ ≡ sets b 1 more → b ≡ sets a 0 first
        → b₁ ≡ sets a 0 (first ++ more)
    behind a first more one q r =
        let next : 1 ≡ 0 + length first = omega (arith, one, ap length (prologue-targets g)) in
        q ∙ rw (r, next) (sets-append a 0 first more)

    by : (w : Walk) → Holds w start c₁ c₂ l l₁ t₁ t₂ end jumps → BegunAs w g n c c₂ l l₁ t t₂ end jumps
    by (refused r) x = tt
    by (done bs) x =
        let far : fields_of 0 (prologue g ++ flat bs) ≡ fields_of 0 (prologue g) ++ fields_of start (flat bs) =
        fields-append 0 (prologue g) (flat bs) ∙ rw (s, zero-add (size (prologue g))) refl in
        record {
          end_is = x.end_is ∙ rw s;
          jumps_are = x.jumps_are;
          few = x.few;
          code = rw (blanks-append (prologue g) (flat bs)) (then e.wrote (rw (entered g e, ← s) x.code));
          locations = rw (← s) x.locations;
          fields = rw far (behind t.fields (fields_of 0 (prologue g)) _ (length_fields 0 (prologue g)) x.fields e.fields.is);
          targets = rw (targets-append (prologue g) (flat bs)) (behind t.targets (targets_of (prologue g)) _ refl x.targets e.targets.is);
          kinds = rw (kinds-append (prologue g) (flat bs)) (behind t.kinds (kinds_of (prologue g)) _ (length-kinds (prologue g)) x.kinds e.kinds.is);
          makers = behind t.makers (each n (targets_of (prologue g))) _ (length-each n (targets_of (prologue g))) x.makers e.makers.is;
        }

-- what an accepted program's fields are, and that they lie in the page
one_list : (g : Flags) (bs : List Block) → (prologue g ++ flat bs) ++ epilogue ≡ whole g bs
one_list g bs = append_assoc (prologue g) (flat bs) epilogue

no-fields-after : (p : ℕ) → fields_of p epilogue ≡ []
no-fields-after p = empty (fields_of p epilogue) (omega (arith, length_fields p epilogue, ap length epilogue-targets))

all-fields : (g : Flags) (bs : List Block) → fields_of 0 (prologue g ++ flat bs) ≡ fields_of 0 (whole g bs)
all-fields g bs =
    sym (append-nil (fields_of 0 (prologue g ++ flat bs)))
    ∙ ap (λ (l : List ℕ). fields_of 0 (prologue g ++ flat bs) ++ l) (sym (no-fields-after (0 + size (prologue g ++ flat bs))))
    ∙ sym (fields-append 0 (prologue g ++ flat bs) epilogue)
    ∙ ap (fields_of 0) (one_list g bs)

all-targets : (g : Flags) (bs : List Block) → targets_of (prologue g ++ flat bs) ≡ targets_of (whole g bs)
all-targets g bs =
    sym (append-nil (targets_of (prologue g ++ flat bs)))
    ∙ ap (λ (l : List ℕ). targets_of (prologue g ++ flat bs) ++ l) (sym epilogue-targets)
    ∙ sym (targets-append (prologue g ++ flat bs) epilogue)
    ∙ ap targets_of (one_list g bs)

no-kinds-after : kinds_of epilogue ≡ []
no-kinds-after = empty (kinds_of epilogue) (omega (arith, length-kinds epilogue, ap length epilogue-targets))

all_kinds : (g : Flags) (bs : List Block) → kinds_of (prologue g ++ flat bs) ≡ kinds_of (whole g bs)
all_kinds g bs =
    sym (append-nil (kinds_of (prologue g ++ flat bs)))
    ∙ ap (λ (l : List ℕ). kinds_of (prologue g ++ flat bs) ++ l) (sym no-kinds-after)
    ∙ sym (kinds-append (prologue g ++ flat bs) epilogue)
    ∙ ap kinds_of (one_list g bs)

-- The blank code, with the epilogue behind it, and everything further as it was.
written : (g : Flags) (bs : List Block) {c c₁ : List ℕ} {e : ℕ} → e ≡ size (prologue g) + size (flat bs) → e + epilogue_size ≤ length c₁
    → Wrote c c₁ 0 e (blanks (prologue g ++ flat bs)) → sets c₁ e (blanks epilogue) ≡ blanks (whole g bs) ++ drop (size (whole g bs)) c
written g bs {c} {c₁} {e} d h w =
    let E = blanks epilogue in
    let le : length E ≡ epilogue_size = length-blanks epilogue ∙ epilogue-size in
    let sz : size (whole g bs) ≡ e + epilogue_size = omega (arith, whole-size g bs, d) in
    sets-eq E c₁ e (rw le h)
    ∙ rw (w.head, le, later c c₁ (e + 8) (e + epilogue_size) (omega arith) w.tail, sz)
    (ap (λ (l : List ℕ). l ++ drop (e + epilogue_size) c) (sym (blanks-append (prologue g ++ flat bs) epilogue) ∙ ap blanks (one_list g bs)))

set-sets : (l : List ℕ) (xs : List ℕ) (n : ℕ) → length xs ≡ n → n < length l → set (sets l 0 xs) n 0 ≡ over (xs ++ (0 ∷ [])) l
set-sets l xs n e h =
    let z : n ≡ 0 + length xs = omega (arith, e) in
    ap (λ (k : ℕ). sets (sets l 0 xs) k (0 ∷ [])) z
    ∙ sets-append l 0 xs (0 ∷ [])
    ∙ sets_over (xs ++ (0 ∷ [])) l (omega (arith, length-append xs (0 ∷ []), e))

-- An accepted walk, begun: the prologue and the slots are written.
module _ {g : Flags} {n page : ℕ} {w : Walk} (a : Acceptable n page (size (prologue g)) w) (all : (bs : List Block) → w ≡ done bs → slots_in bs ≡ n)
    {e j : ℕ} {c c₁ l l₁ : List ℕ} {t t₁ : Tables} (x : Begun w g n c c₁ l l₁ t t₁ e j) where
  abbrev is : Code
  is = whole g a.bs

  head : Head a.bs g n c c₁ l l₁ t t₁ e j
  head = rw a.walk at x.state

  -- the tables are as long as they were
  pub fields-same : length t₁.fields ≡ length t.fields
  fields-same = ap length head.fields ∙ length-sets t.fields 0 (fields_of 0 (prologue g ++ flat a.bs))

  pub targets-same : length t₁.targets ≡ length t.targets
  targets-same = ap length head.targets ∙ length-sets t.targets 0 (targets_of (prologue g ++ flat a.bs))

  slots : slots_in a.bs ≡ n
  slots = all a.bs a.walk

  pub ends-inside : e + epilogue_size ≤ page
  ends-inside = omega (arith, head.end_is, a.room)

  pub few-jumps : j ≤ n + 1
  few-jumps = omega (arith, head.few, slots)

  sized : size is ≡ e + epilogue_size
  sized = omega (arith, whole-size g a.bs, head.end_is)

  listed : length (fields_of 0 is) ≡ j
  listed = length_fields 0 is ∙ whole-jumps g a.bs ∙ sym head.jumps_are

  all_are : j ≤ length t.fields → t₁.fields ≡ over (fields_of 0 is) t.fields
  all_are h = head.fields ∙ rw (all-fields g a.bs) (sets_over (fields_of 0 is) t.fields (omega (arith, listed)))

  pub inside : j ≤ length t.fields → (k : ℕ) → k < j → get_or t₁.fields k 0 + 4 ≤ page
  inside h k m =
      let ahead = get_or-append (fields_of 0 is) (drop (length (fields_of 0 is)) t.fields) 0 k (omega (arith, listed)) in
      let at-k : get_or t₁.fields k 0 ≡ get_or (fields_of 0 is) k 0 = rw (all_are h) ahead in
      omega (arith, at-k, fields-inside 0 is k (omega (arith, listed)), sized, ends-inside)

  -- What is written and filled is what the definition says.
  pub accepts : {c₂ l₂ : List ℕ} → page ≤ longest_page → page ≡ length c → length c₁ ≡ length c → n < length l → j ≤ length t.fields
      → j ≤ length t.targets → Ended n e j c₁ c₂ l₁ l₂ t₁.fields t₁.targets
      → Translated (finish g n page w) c c₂ l l₂ t.fields t₁.fields t.targets t₁.targets (Ok (record { length = e + epilogue_size; jumps = j }))
  accepts {c₂} {l₂} k m m₁ hl hf ht z =
      let bs = a.bs in
      let loc = place_of (locations g bs) (exit_of g bs) in
      let fits : size is ≤ page = omega (arith, sized, ends-inside) in
      let o : finish g n page (done bs) ≡ yes (code_of loc is) (locations g bs) (fields_of 0 is) (targets_of is) = rw (le-leb _ _ fits, a.targets) in
      let ll : length (locations g bs) ≡ n + 1 = length-locations g bs ∙ rw slots in
      let nl : length (starts (size (prologue g)) bs) ≡ n = omega (arith, ll, length-append (starts (size (prologue g)) bs) (0 ∷ [])) in
      let lt : length (targets_of is) ≡ j = whole-jumps g bs ∙ sym head.jumps_are in
      let ls : l₂ ≡ over (locations g bs) l = z.locations ∙ rw head.locations (set-sets l (starts (size (prologue g)) bs) n nl hl) in
      let ts : t₁.targets ≡ over (targets_of is) t.targets =
      head.targets ∙ rw (all-targets g bs) (sets_over (targets_of is) t.targets (omega (arith, lt))) in
      let tl : take (n + 1) l₂ ≡ locations g bs = rw ls (take-over (locations g bs) l (n + 1) ll) in
      let tf : take j t₁.fields ≡ fields_of 0 is = rw (all_are hf) (take-over (fields_of 0 is) t.fields j listed) in
      let tg : take j t₁.targets ≡ targets_of is = rw ts (take-over (targets_of is) t.targets j lt) in
      let wr : Wrote c c₁ 0 e (blanks (prologue g ++ flat bs)) = rw head.end_is head.code in
      let lb : length (code_of loc is) ≡ size is = length-bytes loc 0 is in
      let cs : c₂ ≡ over (code_of loc is) c =
      z.code
      ∙ rw (tl, tf, tg, written g bs head.end_is (omega (arith, m, m₁, ends-inside)) wr, head.end_is)
      (fill-all loc is [] (drop (size is) c) 0 refl (omega (arith, sized, ends-inside, k)) ∙ rw lb refl) in
      rw (a.walk, o) (record { answer = rw (lb, sized, listed); code = cs; locations = ls; fields = all_are hf; targets = ts })

  -- .. and so is what is said of each jump.
  pub kinds-are : j ≤ length t.kinds → t₁.kinds ≡ over (kind_table isa (page_of g a.bs)) t.kinds
  kinds-are h =
      let lk : length (kinds_of is) ≡ j = length-kinds is ∙ whole-jumps g a.bs ∙ sym head.jumps_are in
      head.kinds ∙ rw (all_kinds g a.bs) (sets_over (kinds_of is) t.kinds (omega (arith, lk)))

  pub makers-are : j ≤ length t.makers → t₁.makers ≡ over (maker_table (page_of g a.bs)) t.makers
  makers-are h =
      let first = each n (targets_of (prologue g)) in
      let one : length first ≡ 1 = length-each n (targets_of (prologue g)) ∙ ap length (prologue-targets g) in
      let lm : length (first ++ made_from 0 a.bs) ≡ j =
      length-append first (made_from 0 a.bs) ∙ omega (arith, one, length-made 0 a.bs, head.jumps_are) in
      head.makers ∙ rw slots (sets_over (first ++ made_from 0 a.bs) t.makers (omega (arith, lm)))

-- of what is asked: its walk is not refused, so that its blocks are these
pub names : {x : Inputs} {bs : List Block} {k k₁ m m₁ : List ℕ} → walk_of x ≡ done bs → {c l f t : List ℕ} → translation_of x ≡ yes c l f t
    → k₁ ≡ over (kind_table isa (page_of x.flags bs)) k → m₁ ≡ over (maker_table (page_of x.flags bs)) m → Named x k k₁ m m₁
names w o p q = record { kinds = rw (o, w) p; makers = rw (o, w) q }

-- A refusal leaves these as they were, too.
pub unnamed : {x : Inputs} {k m : List ℕ} {r : Refusal} → translation_of x ≡ no r → Named x k k m m
unnamed e = record { kinds = rw e refl; makers = rw e refl }
