-- What `Mapped` (specs/Mapped.antt) shuts out, each of its parts used. Wrong texts are shut out by map/proofs/Useless.antt, and here with them
-- every text but `map_text`'s: the contract is an equation.
use mathlib.Core.Path.{◌≡◌, ◌∙◌, refl, ap}
use mathlib.Core.Bool.{Bool, true, false}
use mathlib.Core.Logic.{◌≢◌}
use mathlib.Core.List.{List}
use Prim.Native.Nat.{ℕ, ◌+◌, ◌-◌, ◌≤◌, ◌<◌, ◌^◌}
use native.Mathlib.Omega.{arith}
use Rattle.std.specs.Prelude.{Ok, Err}
use lib.Dec.{leb, leb→le}
use lib.ListN.{length, take}
use borrow.Author.Tests.{le-leb, lt-leb, lt-ltb, le-ltb}
use Rattle.base.proofs.Tests.{true-T, leb_no}
use Rattle.jit.specs.declared.Refusal.{Refusal as Untranslated}
use Rattle.jit.specs.Translation as translation
use Rattle.jit.specs.Translation.{Inputs, translation_of}
use Rattle.jit_mapping.specs.declared.Refusal.{Refusal}
use Rattle.jit_mapping.specs.declared.Refusal.TheVariants.{Translation, BaseTooHigh, TextTooShort}
use Rattle.jit_mapping.specs.Mapped.{Map, no, yes, map_text, map_of, Answer, answer_of, Buffers, Mapped}
use Rattle.jit_mapping.proofs.MappedLaws.{mapping}

-- two numbers for the two answers, and one for each refusal of its own: different ones are not the same
abbrev told : Answer → ℕ
told (Ok a) = 0
told (Err (Translation r)) = 1
told (Err BaseTooHigh) = 15
told (Err TextTooShort) = 16

differ : {a b : Answer} → told a ≢ told b → a ≡ b → ⊥
differ n e = n (ap told e)

module _ (x : Inputs) (base : ℕ) (before after : Buffers) where
  -- the answer is that of the map
  answers : {r : Answer} {w : Map} → Mapped x base before after r → map_of x base (length before.text) ≡ w → r ≡ answer_of w (translation_of x)
  answers h e = h.answer ∙ ap (λ (w : Map). answer_of w (translation_of x)) e

  -- the translator's own refusals come first, whatever the base and the room
  pub map-before-page : {q : Untranslated} {r : Answer} → translation_of x ≡ translation.no q → r ≢ Err (Translation q)
      → Mapped x base before after r → ⊥
  map-before-page e n h = n (h.answer ∙ rw e)

  module _ {c l f t : List ℕ} (e : translation_of x ≡ translation.yes c l f t) where
    -- the three answers
    high : 2 ^ 64 ≤ base + length c → map_of x base (length before.text) ≡ no BaseTooHigh
    high b = rw (e, le-leb (2 ^ 64) (base + length c) b)

    short : base + length c < 2 ^ 64 → length before.text < length (map_text x base) → map_of x base (length before.text) ≡ no TextTooShort
    short b r = rw (e, lt-leb (2 ^ 64) (base + length c) b, lt-ltb (length before.text) (length (map_text x base)) r)

    fine : base + length c < 2 ^ 64 → length (map_text x base) ≤ length before.text → map_of x base (length before.text) ≡ yes (map_text x base)
    fine b r = rw (e, lt-leb (2 ^ 64) (base + length c) b, le-ltb (length before.text) (length (map_text x base)) r)

    -- the border: base plus L is 2^64 - 1 and refused for it, or 2^64 and not
    pub border-refused : base + length c ≡ 2 ^ 64 - 1 → Mapped x base before after (Err BaseTooHigh) → ⊥
    border-refused b h = by (leb (length (map_text x base)) (length before.text)) refl
      where
        by : (t : Bool) → leb (length (map_text x base)) (length before.text) ≡ t → ⊥
        by true q = differ (λ z. omega (arith, z)) (answers h (fine (omega arith) (leb→le _ _ (true-T _ q))))
        by false q = differ (λ z. omega (arith, z)) (answers h (short (omega arith) (leb_no _ _ q)))

    pub border-passed : {L J T : ℕ} → base + length c ≡ 2 ^ 64 → Mapped x base before after (Ok (record { length = L; jumps = J; text = T })) → ⊥
    border-passed b h = differ (λ z. omega (arith, z)) (answers h (high (omega arith)))

    -- 16 answered where 15 holds, whatever the room
    pub short-before-high : 2 ^ 64 ≤ base + length c → Mapped x base before after (Err TextTooShort) → ⊥
    short-before-high b h = differ (λ z. omega (arith, z)) (answers h (high b))

    -- a text that finds room to the byte and is refused, and one that is a byte too long and is not
    module _ (low : base + length c < 2 ^ 64) where
      pub exact-refused : length before.text ≡ length (map_text x base) → Mapped x base before after (Err TextTooShort) → ⊥
      exact-refused r h = differ (λ z. omega (arith, z)) (answers h (fine low (omega arith)))

      pub short-passed : {L J T : ℕ} → length before.text + 1 ≡ length (map_text x base) → Mapped x base before after (Ok (record { length = L; jumps = J; text = T })) → ⊥
      short-passed r h = differ (λ z. omega (arith, z)) (answers h (short low (omega arith)))

  -- a refusal that leaves code behind, or an entry, or text
  module _ {q : Refusal} (h : Mapped x base before after (Err q)) where
    refused : (w : Map) → map_of x base (length before.text) ≡ w → w ≡ no q
    refused (no r) e = let a = answers h e in cc
    refused (yes text) e = absurd (unlike (answers h e))
      where
        unlike : {l j t : ℕ} {q : Refusal} → ◌≡◌ {A = Answer} (Err q) (Ok (record { length = l; jumps = j; text = t })) → ⊥
        unlike f = let z : ◌≡◌ {A = ℕ} 0 1 = cc in omega arith

    pub code-left : after.code ≢ before.code → ⊥
    code-left n = n (rw (refused _ refl) at h.code)

    pub location-left : after.locations ≢ before.locations → ⊥
    location-left n = n (rw (refused _ refl) at h.locations)

    pub field-left : after.fields ≢ before.fields → ⊥
    field-left n = n (rw (refused _ refl) at h.fields)

    pub target_left : after.targets ≢ before.targets → ⊥
    target_left n = n (rw (refused _ refl) at h.targets)

    pub kind-left : after.kinds ≢ before.kinds → ⊥
    kind-left n = n (rw (refused _ refl) at h.kinds)

    pub maker-left : after.makers ≢ before.makers → ⊥
    maker-left n = n (rw (refused _ refl) at h.makers)

    pub text-left : after.text ≢ before.text → ⊥
    text-left n = n (rw (refused _ refl) at h.text)

  -- another text than the page's, or another length of it
  pub other_text : {L J T : ℕ} → Mapped x base before after (Ok (record { length = L; jumps = J; text = T })) → take T after.text ≢ map_text x base → ⊥
  other_text h n = n (mapping h).text
