-- The laws of specs/Saving.antt: what is said of the flag is true of what was asked, and what cannot happen is not said.
use mathlib.Core.Path.{◌≡◌, ◌∙◌, refl, ap, sym}
use mathlib.Core.Bool.{Bool, true, false, not, ◌&&◌}
use mathlib.Core.List.{List, [], ◌∷◌}
use Prim.Native.Nat.{ℕ, ◌+◌, ◌/◌, ◌≤◌}
use native.Mathlib.Omega.{arith}
use Rattle.std.specs.Prelude.{Ok, Err}
use lib.Dec.{ltb, eqb}
use lib.ListN.{length}
use borrow.Author.Tests.{ltb-false, eqb-true, eqb-false}
use Rattle.base.proofs.Tests.{leb-false}
use Rattle.base.specs.Pick.{pick}
use Rattle.jit.specs.declared.Flags.{Flags}
use Rattle.jit.specs.declared.Refusal.{Refusal}
use Rattle.jit.specs.declared.Refusal.TheVariants.{TableTooShort, BadHelpers}
use Rattle.jit.specs.Limits.{shortest_page, longest_page, longest_program}
use Rattle.jit.specs.Refusals.{number_of}
use Rattle.jit.specs.Translation.{Filter, Inputs, Outcome, no, yes, slots_of, short_table, bad_helpers, walk_of, finish, sizes_of, translation_of}
use Rattle.jit.specs.Modes.{in_mode, asked_in}
use Rattle.jit.specs.Compact.{plainly, compactly, Keeps}
use Rattle.jit.proofs.CompactLaws.{compact}
use Rattle.jit_translate.specs.Lent.{sized}
use Rattle.jit_translate.specs.Translated.{Answer, answer_of}
use Rattle.text.specs.Text.{Says}
use Rattle.text.proofs.SaysLaws.{sets-out, then}
use Rattle.listing_saving.specs.Saving.{turned, is_said, listed, entries, roomy}

-- the answer hangs on the lengths of what is lent alone
pub by_lengths : (f : Filter) (g : Flags) {page size l₁ l₂ l₃ l₄ l₅ : ℕ} → page ≡ size → l₁ ≡ entries → l₂ ≡ entries → l₃ ≡ entries
    → l₄ ≡ entries → l₅ ≡ entries
    → answer_of (translation_of (sized f g page l₁ l₂ l₃ l₄ l₅)) ≡ answer_of (translation_of (roomy f g size))
by_lengths f g e e₁ e₂ e₃ e₄ e₅ = rw (e, e₁, e₂, e₃, e₄, e₅)

-- Where a line is said the tables that were lent were long enough, so that others that are long enough change nothing.
and-false : (b : Bool) → (b && false) ≡ false
and-false true = refl
and-false false = refl

enough : (n : ℕ) → n ≤ longest_program → short_table (n / 8) entries entries entries entries entries ≡ false
enough n h = rw (leb-false entries (n / 8) (omega arith))

no_line : (compact : Bool) → is_said compact (Err TableTooShort) ≡ true → ⊥
no_line compact e = let z : false ≡ true = sym (and-false (not compact)) ∙ e in let w : ◌≡◌ {A = ℕ} 0 1 = cc in omega arith

skip : {A : Type 0} (a b c d d' : Bool) (p q r s o : A) → (c ≡ false → d' ≡ false) → (a ≡ false → b ≡ false → c ≡ false → d ≡ true → ⊥)
    → pick a p (pick b q (pick c r (pick d' s o))) ≡ pick a p (pick b q (pick c r (pick d s o)))
skip true b c d d' p q r s o h k = refl
skip false true c d d' p q r s o h k = refl
skip false false true d d' p q r s o h k = refl
skip false false false true d' p q r s o h k = absurd (k refl refl refl refl)
skip false false false false d' p q r s o h k = rw (h refl)

pub tables-do-not-matter : (x : Inputs) → is_said x.filter.mode.compact (answer_of (translation_of x)) ≡ true
    → translation_of (roomy (in_mode turned x.filter) x.flags x.page) ≡ translation_of (asked_in turned x)
unfolding translation_of sizes_of
tables-do-not-matter x said =
    let p = x.filter.program in
    skip (ltb x.page shortest_page) (ltb longest_page x.page) (ltb longest_program (length p))
    (short_table (slots_of p) x.locations x.fields x.targets x.kinds x.makers) _ _ _ _ _
    (pick (bad_helpers x.filter.ids x.filter.addresses) (no BadHelpers) (finish x.flags (slots_of p) x.page (walk_of (asked_in turned x))))
    (λ c. enough (length p) (ltb-false longest_program (length p) c))
    (λ a b c d. no_line x.filter.mode.compact (rw (a, b, c, d) at said))

-- With the flag off what is accepted is accepted with it, in no more bytes: below the totals no refusal is said, and no difference is cut to 0.
abbrev NoLonger : ℕ → Answer → Type 0
NoLonger n (Ok a) = a.length ≤ n
NoLonger n (Err r) = ⊥

abbrev bytes_of : Answer → ℕ
bytes_of (Ok a) = a.length + 1
bytes_of (Err r) = 0

keeps-no-longer : (o : Outcome) (code targets : List ℕ) → Keeps code targets o → NoLonger (length code) (answer_of o)
keeps-no-longer (no r) code targets h = absurd h
keeps-no-longer (yes c l f t) code targets h = h.0

pub fits-with-it : (x : Inputs) (n j : ℕ) → answer_of (translation_of (plainly x)) ≡ Ok (record { length = n; jumps = j }) → NoLonger n (answer_of (translation_of (compactly x)))
fits-with-it x n j e = by (translation_of (plainly x)) refl
  where
    by : (o : Outcome) → translation_of (plainly x) ≡ o → NoLonger n (answer_of (translation_of (compactly x)))
    by (no r) g = absurd (omega (arith, ap bytes_of (rw g at e)))
    by (yes c l f t) g =
        let n-is : length c ≡ n = omega (arith, ap bytes_of (rw g at e)) in
        rw (← n-is) (keeps-no-longer (translation_of (compactly x)) c t (compact.accepts x c l f t g))

-- With the flag on, what is accepted and would not be without it would be refused for want of room.
pub only-for-room : (x : Inputs) (n j : ℕ) (r : Refusal) → answer_of (translation_of (compactly x)) ≡ Ok (record { length = n; jumps = j })
    → translation_of (plainly x) ≡ no r → number_of r ≡ 13
only-for-room x n j r e f = by (eqb (number_of r) 13) refl
  where
    by : (t : Bool) → eqb (number_of r) 13 ≡ t → number_of r ≡ 13
    by true t = eqb-true _ _ t
    by false t =
        let g : translation_of (compactly x) ≡ no r = compact.refuses x r f (eqb-false _ _ t) in
        absurd (omega (arith, ap bytes_of (rw g at e)))

-- The line and its newline: nothing where nothing is said, or nothing finds room.
pub no-saving : {l l' : List ℕ} {r : ℕ} (text : List ℕ) → r ≡ 0 → Says l l' 0 r text → Says l l' 0 0 (listed text)
no-saving [] e p = rw e at p
no-saving {l} (c ∷ cs) e p =
    let small : length l ≤ 0 = omega (arith, e, p.next) in
    record {
      text = p.text ∙ (sets-out l (c ∷ cs) 0 small ∙ sym (sets-out l (listed (c ∷ cs)) 0 small));
      next = omega (arith, small);
    }

pub a-saving : {l l₁ l₂ : List ℕ} {r₁ r₂ : ℕ} (text : List ℕ) → ¬ (r₁ ≡ 0) → Says l l₁ 0 r₁ text → Says l₁ l₂ r₁ r₂ (0x0a ∷ [])
    → Says l l₂ 0 r₂ (listed text)
a-saving [] f p q = absurd (f (omega (arith, p.next)))
a-saving (c ∷ cs) f p q = then p q
