-- The laws of `Decided` (specs/Translated.antt): sizes and slots settle it, and what writing may count on where it is good.
use Rattle.std.proofs.Common.{Option, Some, None, Result, Ok, Err}
use mathlib.Core.Path.{◌≡◌, ◌∙◌, refl, ap, sym}
use mathlib.Core.Bool.{Bool, true, false, not, ◌||◌}
use mathlib.Core.List.{List}
use Prim.Native.Nat.{ℕ, ◌/◌, ◌≤◌}
use native.Mathlib.Omega.{arith}
use lib.Dec.{leb, leb→le, ltb, eqb}
use lib.ListN.{length}
use borrow.Author.Tests.{ltb-false, eqb-true, not-false, le-leb}
use Rattle.base.specs.Pick.{pick}
use Rattle.base.proofs.Tests.{true-T, or-false-l}
use Rattle.base.specs.declared.Slot.{Slot}
use Rattle.x86.specs.Code.{size}
use Rattle.jit.specs.Frame.{prologue}
use Rattle.jit.specs.Limits.{shortest_page, longest_page, longest_program, most_helpers}
use Rattle.jit.specs.declared.Flags.{Flags}
use Rattle.jit.specs.declared.Refusal.{Refusal}
use Rattle.jit.specs.Translation.{Inputs, slots_of, at, twice, short_table, Walk, refused, done, walk_of}
use Rattle.jit.specs.Passes.{walk_from}
use Rattle.jit.specs.Translation.{first_bad, unless_bad, whole, accepted, finish, Outcome, no, yes, translation_of}
use Rattle.jit.proofs.Bounds.{whole-size}
use Rattle.jit_walk.specs.Acceptable.{Acceptable}
use Rattle.jit_judging.specs.Sizes.{Sizes, sized, Fine}
use Rattle.jit_judging.proofs.SizesLaws.{begins, sizes_begin, LongEnough, long-enough}
use Rattle.jit_judging.specs.Judged.{verdict_of}
use Rattle.jit_judging.proofs.Judging.{is-good, is-not}
use Rattle.jit_translate.specs.Translated.{verdict_in, Decided}

-- It admits one verdict only.
pub one-verdict : {x : Inputs} {r s : Result (Unit {0}) Refusal} → Decided x r → Decided x s → r ≡ s
one-verdict a b = a.verdict ∙ sym b.verdict

-- the verdict on the sizes of what is asked
abbrev sized_as : Inputs → Result (Unit {0}) Refusal
sized_as x =
    sized (length x.filter.program) x.page x.locations x.fields x.targets x.kinds x.makers x.filter.ids (length x.filter.addresses)

abbrev pub SizedAs : Inputs → Result (Unit {0}) Refusal → Type 0
SizedAs x =
    Sizes (length x.filter.program) x.page x.locations x.fields x.targets x.kinds x.makers x.filter.ids (length x.filter.addresses)

-- what the walk comes to
abbrev ending : Inputs → Outcome
ending x = finish x.flags (slots_of x.filter.program) x.page (walk_of x)

begins-so : (x : Inputs) → translation_of x ≡ begins (sized_as x) (ending x)
unfolding translation_of
begins-so x = sizes_begin x (ending x)

-- once the sizes are good, the walk decides
settled : (x : Inputs) {r : Result (Unit {0}) Refusal} → SizedAs x r → translation_of x ≡ begins r (ending x)
settled x s = begins-so x ∙ rw s.answer

-- What `decide` answers: refused by its sizes, or judged by its slots.
pub unsized : (x : Inputs) {v : Result (Unit {0}) Refusal} {r : Refusal} → SizedAs x v → v ≡ Err r → Decided x (Err r)
unsized x s e = record { verdict = sym (ap verdict_in (rw e at (settled x s))) }

good-walk : (g : Flags) (n page : ℕ) {w : Walk} → Acceptable n page (size (prologue g)) w → verdict_in (finish g n page w) ≡ Ok tt
good-walk g n page a =
    let fits : size (whole g a.bs) ≤ page = omega (arith, whole-size g a.bs, a.room) in
    rw (a.walk, le-leb _ _ fits, a.targets)

pub judged : (x : Inputs) {v w : Result (Unit {0}) Refusal} {start : ℕ} → SizedAs x v → v ≡ Ok tt → start ≡ size (prologue x.flags)
    → w ≡ verdict_of (slots_of x.filter.program) x.page start (walk_from x.filter x.page start) → Decided x w
judged x {v} {w} {start} s e p j = by w (rw p at j)
  where
    settles : translation_of x ≡ ending x
    settles = rw e at (settled x s)

    by : (w : Result (Unit {0}) Refusal) → w ≡ verdict_of (slots_of x.filter.program) x.page (size (prologue x.flags)) (walk_of x) → Decided x w
    by (Ok u) q =
        let a = is-good (slots_of x.filter.program) x.page (size (prologue x.flags)) (walk_of x) q refl in
        record { verdict = sym (ap verdict_in settles ∙ good-walk x.flags (slots_of x.filter.program) x.page a) }
    by (Err r) q =
        let f = is-not (slots_of x.filter.program) x.page x.flags (walk_of x) refl q refl in
        record { verdict = sym (ap verdict_in (settles ∙ f)) }

-- What writing may count on.
pub record Ready (x : Inputs) : Type 0 where
  pub program : length x.filter.program ≤ longest_program
  pub shortest : shortest_page ≤ x.page
  pub longest : x.page ≤ longest_page
  pub tables : LongEnough (slots_of x.filter.program) x.locations x.fields x.targets x.kinds x.makers
  pub helpers : length x.filter.ids ≡ length x.filter.addresses
  pub walk : Acceptable (slots_of x.filter.program) x.page (size (prologue x.flags)) (walk_of x)
  pub settles : translation_of x ≡ ending x

not_good : {A : Type 0} {r : Refusal} → Ok (tt {0}) ≡ Err r → A
not_good e = let z : ◌≡◌ {A = ℕ} 0 1 = cc in absurd (omega arith)

sizes-fine : (prog page l f t k m : ℕ) (ids : List ℕ) (a : ℕ) → Ok tt ≡ sized prog page l f t k m ids a → Fine prog page l f t k m ids a (Ok tt)
sizes-fine prog page l f t k m ids a =
    by (ltb page shortest_page) refl (ltb longest_page page) refl (ltb longest_program prog) refl (short_table (prog / 8) l f t k m) refl
    (not (eqb (length ids) a) || (ltb most_helpers (length ids) || twice ids)) refl
  where
    by : (short : Bool) → ltb page shortest_page ≡ short → (long : Bool) → ltb longest_page page ≡ long
        → (program : Bool) → ltb longest_program prog ≡ program
        → (tables : Bool) → short_table (prog / 8) l f t k m ≡ tables
        → (helpers : Bool) → (not (eqb (length ids) a) || (ltb most_helpers (length ids) || twice ids)) ≡ helpers
        → Ok (tt {0}) ≡ pick short (Err Refusal.PageTooShort) (pick long (Err Refusal.PageTooLong) (pick program (Err Refusal.ProgramTooLong)
        (pick tables (Err Refusal.TableTooShort) (pick helpers (Err Refusal.BadHelpers) (Ok tt)))))
        → Fine prog page l f t k m ids a (Ok tt)
    by true q long r program s tables t₁ helpers u e = not_good e
    by false q true r program s tables t₁ helpers u e = not_good e
    by false q false r true s tables t₁ helpers u e = not_good e
    by false q false r false s true t₁ helpers u e = not_good e
    by false q false r false s false t₁ true u e = not_good e
    by false q false r false s false t₁ false u e =
        let paired = eqb-true (length ids) a (not-false (eqb (length ids) a) (or-false-l (not (eqb (length ids) a)) _ u)) in
        (ltb-false page shortest_page q, (ltb-false longest_page page r, (ltb-false longest_program prog s, (t₁, paired))))

walk-good : (g : Flags) (n page : ℕ) (w : Walk) → Ok tt ≡ verdict_in (finish g n page w) → Acceptable n page (size (prologue g)) w
walk-good g n page (refused r) e = not_good e
walk-good g n page (done bs) e = by (leb (size (whole g bs)) page) refl (first_bad n 0 bs) refl e
  where
    by : (t : Bool) → leb (size (whole g bs)) page ≡ t → (b : Option Slot) → first_bad n 0 bs ≡ b
        → Ok tt ≡ verdict_in (pick t (unless_bad b (accepted g bs)) (no (Refusal.NoRoom (at n)))) → Acceptable n page (size (prologue g)) (done bs)
    by true q None f e = record { bs = bs; walk = refl; room = omega (arith, whole-size g bs, leb→le (size (whole g bs)) page (true-T _ q)); targets = f }
    by true q (Some s) f e = not_good e
    by false q b f e = not_good e

pub ready : {x : Inputs} → Decided x (Ok tt) → Ready x
ready {x} d = by (sized_as x) refl (d.verdict ∙ ap verdict_in (begins-so x))
  where
    by : (v : Result (Unit {0}) Refusal) → sized_as x ≡ v → Ok tt ≡ verdict_in (begins v (ending x)) → Ready x
    by (Err r) q e = not_good e
    by (Ok u) q e =
        let fine = sizes-fine _ _ _ _ _ _ _ x.filter.ids _ (sym q) in
        record {
          program = fine.1.1.0;
          shortest = fine.0;
          longest = fine.1.0;
          tables = long-enough _ _ _ _ _ _ fine.1.1.1.0;
          helpers = fine.1.1.1.1;
          walk = walk-good x.flags (slots_of x.filter.program) x.page (walk_of x) e;
          settles = begins-so x ∙ rw q;
        }

-- what a caller of `decide` knows of a refusal
pub refusal : {x : Inputs} {v : Result (Unit {0}) Refusal} {r : Refusal} → Decided x v → v ≡ Err r → translation_of x ≡ no r
refusal {x} {r = r} d e = by (translation_of x) (sym e ∙ d.verdict)
  where
    by : (o : Outcome) → Err r ≡ verdict_in o → o ≡ no r
    by (no q) h = cc
    by (yes c l f t) h = not_good (sym h)

pub good : {x : Inputs} {v : Result (Unit {0}) Refusal} → Decided x v → v ≡ Ok tt → Decided x (Ok tt)
good d e = rw e at d

-- what is good has an outcome that is accepted
pub record Yes (x : Inputs) : Type 0 where
  pub code : List ℕ
  pub locations : List ℕ
  pub fields : List ℕ
  pub targets : List ℕ
  pub is : translation_of x ≡ yes code locations fields targets

pub accepted-so : {x : Inputs} → Decided x (Ok tt) → Yes x
accepted-so {x} d = by (translation_of x) refl d.verdict
  where
    by : (o : Outcome) → translation_of x ≡ o → Ok tt ≡ verdict_in o → Yes x
    by (no r) e h = not_good h
    by (yes c l f t) e h = record { code = c; locations = l; fields = f; targets = t; is = e }
