-- Refusals 1 to 5: the search for an id that is listed twice, the tests one by one, and that the definition begins with them.
use Rattle.std.proofs.Common.{Result, Ok, Err}
use mathlib.Core.Path.{◌≡◌, ◌∙◌, refl, ap, sym}
use mathlib.Core.Bool.{Bool, true, false, not, ◌&&◌, ◌||◌}
use mathlib.Core.List.{List, [], ◌∷◌}
use Prim.Native.Nat.{ℕ, zero, suc, ◌+◌, ◌-◌, ◌/◌, ◌<◌, ◌≤◌}
use native.Mathlib.Numerals.{add-one}
use native.Mathlib.Omega.{arith}
use lib.Dec.{T, leb, ltb, eqb, ltb→lt}
use lib.ListN.{length, length-drop, get_or, drop, drop_of_length-le}
use lib.Seq.{drop-cons}
use Rattle.std.proofs.Common.{take}
use Rattle.std.proofs.Math.Seq.{take-length}
use borrow.Author.Tests.{lt-ltb, le-ltb, eq-eqb, ne_eqb}
use Rattle.std.specs.List.{IsAllAdjacentAnswer, list_any}
use Rattle.base.specs.Pick.{pick}
use Rattle.base.proofs.Tests.{true-T, and_l, and_r, or-false-l, or-false-r, leb_no}
use Rattle.jit.specs.declared.Refusal.{Refusal}
use Rattle.jit.specs.Limits.{shortest_page, longest_page, longest_program, most_helpers}
use Rattle.jit.specs.Translation.{Inputs, slots_of, Outcome, no, listed, twice, bad_helpers, short_table, sizes_of}
use Rattle.jit_judging.specs.Sizes.{rising, sized, Sizes}

-- the library's search for an id is the definition's
pub listed-any : (id : ℕ) (ids : List ℕ) → list_any (λ x. eqb x id) ids ≡ listed id ids
listed-any id [] = refl
listed-any id (x ∷ ids) = ap (λ (b : Bool). eqb x id || b) (listed-any id ids)

-- .. in the ids from one on
pub contained : (ids : List ℕ) (k id : ℕ) {b : Bool} → b ≡ list_any (λ x. eqb x id) (take (length ids - k) (drop k ids)) → b ≡ listed id (drop k ids)
contained ids k id e = e ∙ ap (λ (xs : List ℕ). list_any (λ x. eqb x id) xs) rest_is ∙ listed-any id (drop k ids)
  where
    rest_is : take (length ids - k) (drop k ids) ≡ drop k ids
    rest_is = ap (λ n. take n (drop k ids)) (sym (length-drop k ids)) ∙ take-length (drop k ids)

-- one id further
pub twice-on : (ids : List ℕ) (k : ℕ) {b : Bool} → k < length ids → b ≡ listed (get_or ids k 0) (drop (k + 1) ids) → b ≡ false
    → twice (drop k ids) ≡ twice (drop (k + 1) ids)
twice-on ids k h e f =
    let q : listed (get_or ids k 0) (drop (suc k) ids) ≡ false = rw (add-one k) at (sym e ∙ f) in
    rw (add-one k) (ap twice (drop-cons ids k 0 h) ∙ rw q)

pub twice-hit : (ids : List ℕ) (k : ℕ) {b : Bool} → k < length ids → b ≡ listed (get_or ids k 0) (drop (k + 1) ids) → b ≡ true
    → twice (drop k ids) ≡ true
twice-hit ids k h e f =
    let q : listed (get_or ids k 0) (drop (suc k) ids) ≡ true = rw (add-one k) at (sym e ∙ f) in
    ap twice (drop-cons ids k 0 h) ∙ rw q

pub twice-end : (ids : List ℕ) (k : ℕ) → length ids ≤ k → twice (drop k ids) ≡ false
twice-end ids k h = rw (drop_of_length-le ids h)

-- each id is above the one before it, or one is not
rises : (ids : List ℕ) → ((k : ℕ) → suc k < length ids → ltb (get_or ids k 0) (get_or ids (suc k) 0) ≡ true) → rising ids ≡ true
rises [] h = refl
rises (x ∷ []) h = refl
rises (x ∷ y ∷ ys) h = rw (h 0 (omega arith)) (rises (y ∷ ys) (λ k g. h (suc k) (omega (arith, g))))

falls : (ids : List ℕ) (k : ℕ) → suc k < length ids → ltb (get_or ids k 0) (get_or ids (suc k) 0) ≡ false → rising ids ≡ false
falls [] k h e = absurd (omega (arith, h))
falls (x ∷ []) k h e = absurd (omega (arith, h))
falls (x ∷ y ∷ ys) zero h e = rw e
falls (x ∷ y ∷ ys) (suc k) h e = rw (falls (y ∷ ys) k (omega (arith, h)) e) (no (ltb x y))
  where
    no : (b : Bool) → (b && false) ≡ false
    no true = refl
    no false = refl

pub rising-answer : (ids : List ℕ) (r : Bool) → IsAllAdjacentAnswer (λ x y b. b ≡ ltb x y) ids r → r ≡ rising ids
rising-answer ids true h = sym (rises ids (λ k g. sym (rw (add-one k) at (h k 0 (rw (add-one k) g)))))
rising-answer ids false h = sym (falls ids h.0 (rw (add-one h.0) at h.1) (sym (rw (add-one h.0) at (h.2 0))))

-- In rising order no id stands twice: all that follow the first are above it, and they rise too.
rising-past : (w x : ℕ) (xs : List ℕ) → w ≤ x → T (rising (x ∷ xs)) → listed w xs ≡ false
rising-past w x [] h r = refl
rising-past w x (y ∷ ys) h r =
    let above = ltb→lt x y (and_l (ltb x y) _ r) in
    rw (ne_eqb y w (λ e. omega arith)) (rising-past w y ys (omega arith) (and_r (ltb x y) _ r))

rising-tail : (x : ℕ) (xs : List ℕ) → T (rising (x ∷ xs)) → T (rising xs)
rising-tail x [] r = tt
rising-tail x (y ∷ ys) r = and_r (ltb x y) _ r

rising-once : (ids : List ℕ) → T (rising ids) → twice ids ≡ false
rising-once [] r = refl
rising-once (x ∷ xs) r = rw (rising-past x x xs (omega arith) r) (rising-once xs (rising-tail x xs r))

pub not-twice : (ids : List ℕ) → rising ids ≡ true → twice ids ≡ false
not-twice ids e = rising-once ids (true-T _ e)

-- The five tests, one behind the other: what is answered where one fails, and where all are passed.
-- the page and the program are within the limits
pub record Limited (prog page : ℕ) : Type 0 where
  pub not_short : shortest_page ≤ page
  pub not-long : page ≤ longest_page
  pub program : prog ≤ longest_program

pub limited : {prog page : ℕ} → shortest_page ≤ page → page ≤ longest_page → prog ≤ longest_program → Limited prog page
limited a b c = record { not_short = a; not-long = b; program = c }

-- where those are passed, what is left is the tables' test, and then the helpers'
rest : (prog page locations fields targets kinds makers : ℕ) (ids : List ℕ) (addresses : ℕ) → Limited prog page
    → sized prog page locations fields targets kinds makers ids addresses
    ≡ pick (short_table (prog / 8) locations fields targets kinds makers) (Err Refusal.TableTooShort)
    (pick (not (eqb (length ids) addresses) || (ltb most_helpers (length ids) || twice ids)) (Err Refusal.BadHelpers) (Ok tt))
rest prog page locations fields targets kinds makers ids addresses l = rw (le-ltb _ _ l.not_short, le-ltb _ _ l.not-long, le-ltb _ _ l.program)

module _ {prog page locations fields targets kinds makers : ℕ} {ids : List ℕ} {addresses : ℕ} where
  pub page-short : page < shortest_page → Sizes prog page locations fields targets kinds makers ids addresses (Err Refusal.PageTooShort)
  page-short h = record { answer = rw (lt-ltb _ _ h); fine = tt }

  pub page-long : shortest_page ≤ page → longest_page < page → Sizes prog page locations fields targets kinds makers ids addresses (Err Refusal.PageTooLong)
  page-long a h = record { answer = rw (le-ltb _ _ a, lt-ltb _ _ h); fine = tt }

  pub program-long : shortest_page ≤ page → page ≤ longest_page → longest_program < prog
      → Sizes prog page locations fields targets kinds makers ids addresses (Err Refusal.ProgramTooLong)
  program-long a b h = record { answer = rw (le-ltb _ _ a, le-ltb _ _ b, lt-ltb _ _ h); fine = tt }

  module _ (l : Limited prog page) {short : Bool} (s : short ≡ short_table (prog / 8) locations fields targets kinds makers) where
    pub table-short : short ≡ true → Sizes prog page locations fields targets kinds makers ids addresses (Err Refusal.TableTooShort)
    table-short e = record { answer = sym (rest prog page locations fields targets kinds makers ids addresses l ∙ rw (← s, e)); fine = tt }

    module _ (long : short ≡ false) where
      pub unpaired : ¬ (length ids ≡ addresses) → Sizes prog page locations fields targets kinds makers ids addresses (Err Refusal.BadHelpers)
      unpaired h = record { answer = sym (rest prog page locations fields targets kinds makers ids addresses l ∙ rw (← s, long, ne_eqb _ _ h)); fine = tt }

      pub too_many : length ids ≡ addresses → most_helpers < length ids
          → Sizes prog page locations fields targets kinds makers ids addresses (Err Refusal.BadHelpers)
      too_many e h = record { answer = sym (rest prog page locations fields targets kinds makers ids addresses l ∙ rw (← s, long, eq-eqb _ _ e, lt-ltb _ _ h)); fine = tt }

      pub one-twice : {b : Bool} → length ids ≡ addresses → length ids ≤ most_helpers → b ≡ twice ids → b ≡ true
          → Sizes prog page locations fields targets kinds makers ids addresses (Err Refusal.BadHelpers)
      one-twice e h q f = record { answer = sym (rest prog page locations fields targets kinds makers ids addresses l ∙ rw (← s, long, eq-eqb _ _ e, le-ltb _ _ h, ← q, f)); fine = tt }

      pub passed : {b : Bool} → length ids ≡ addresses → length ids ≤ most_helpers → b ≡ twice ids → b ≡ false
          → Sizes prog page locations fields targets kinds makers ids addresses (Ok tt)
      passed e h q f =
          record {
            answer = sym (rest prog page locations fields targets kinds makers ids addresses l ∙ rw (← s, long, eq-eqb _ _ e, le-ltb _ _ h, ← q, f));
            fine = (l.not_short, (l.not-long, (l.program, (sym s ∙ long, e))));
          }

-- each table has an entry for every slot and one more
pub record LongEnough (n locations fields targets kinds makers : ℕ) : Type 0 where
  pub first : n < locations
  pub second : n < fields
  pub third : n < targets
  pub fourth : n < kinds
  pub fifth : n < makers

pub long-enough : (n a b c d e : ℕ) → short_table n a b c d e ≡ false → LongEnough n a b c d e
long-enough n a b c d e q₁ =
    let q₂ = or-false-r (leb a n) (leb b n || (leb c n || (leb d n || leb e n))) q₁ in
    let q₃ = or-false-r (leb b n) (leb c n || (leb d n || leb e n)) q₂ in
    let q₄ = or-false-r (leb c n) (leb d n || leb e n) q₃ in
    record {
      first = leb_no a n (or-false-l (leb a n) _ q₁);
      second = leb_no b n (or-false-l (leb b n) _ q₂);
      third = leb_no c n (or-false-l (leb c n) _ q₃);
      fourth = leb_no d n (or-false-l (leb d n) _ q₄);
      fifth = leb_no e n (or-false-r (leb d n) _ q₄);
    }

-- The tests are how the definition begins.
abbrev pub begins : Result (Unit {0}) Refusal → Outcome → Outcome
begins (Err r) o = no r
begins (Ok u) o = o

begins-pick : (b : Bool) (r : Refusal) (s : Result (Unit {0}) Refusal) (o : Outcome) → pick b (no r) (begins s o) ≡ begins (pick b (Err r) s) o
begins-pick true r s o = refl
begins-pick false r s o = refl

abbrev sized_of : Inputs → Result (Unit {0}) Refusal
sized_of x =
    sized (length x.filter.program) x.page x.locations x.fields x.targets x.kinds x.makers x.filter.ids (length x.filter.addresses)

pub sizes_begin : (x : Inputs) (o : Outcome) → sizes_of x o ≡ begins (sized_of x) o
unfolding sizes_of
sizes_begin x o =
    let n = slots_of x.filter.program in
    let a = ltb x.page shortest_page in
    let b = ltb longest_page x.page in
    let c = ltb longest_program (length x.filter.program) in
    let d = short_table n x.locations x.fields x.targets x.kinds x.makers in
    let e = bad_helpers x.filter.ids x.filter.addresses in
    let s₁ = pick e (Err Refusal.BadHelpers) (Ok tt) in
    let s₂ = pick d (Err Refusal.TableTooShort) s₁ in
    let s₃ = pick c (Err Refusal.ProgramTooLong) s₂ in
    let s₄ = pick b (Err Refusal.PageTooLong) s₃ in
    rw (begins-pick e Refusal.BadHelpers (Ok tt) o, begins-pick d Refusal.TableTooShort s₁ o)
    (rw (begins-pick c Refusal.ProgramTooLong s₂ o, begins-pick b Refusal.PageTooLong s₃ o, begins-pick a Refusal.PageTooShort s₄ o))
