-- What `Decided` and `Translated` shut out. Of `decide`: every verdict but the outcome's. Of `translate`, each of its five parts used:
-- programs that answer or write something other than the outcome, whatever the outcome is. Read of `translate` as it is called: o is
-- `translation_of` of what was given, ₀ is at entry and ₁ at exit.
use mathlib.Core.Path.{◌≡◌, ◌∙◌, refl, ap, sym}
use mathlib.Core.Logic.{◌≢◌}
use mathlib.Core.List.{List}
use Prim.Native.Nat.{ℕ, ◌+◌}
use native.Mathlib.Omega.{arith}
use Rattle.std.specs.Prelude.{Ok, Err}
use lib.ListN.{length, take, drop, get_or}
use lib.Seq.{get_or-append-add, get_or-drop}
use Rattle.jit.specs.declared.Refusal.{Refusal}
use Rattle.base.specs.Lists.{over}
use Rattle.x86.proofs.FillLaws.{take-over}
use Rattle.jit.specs.Translation.{Inputs, Outcome, no, yes, translation_of}
use Rattle.jit_translate.proofs.TranslatedLaws.{same-numbers}
use Rattle.jit_translate.specs.Translated.{Answer, code_in, locations_in, fields_in, targets_in, Translated, Decided}

-- a `decide` that says good of what is refused, that refuses what is accepted, or refuses for another reason or another slot
module _ {x : Inputs} where
  pub good-of-refused : {q : Refusal} → translation_of x ≡ no q → Decided x (Ok tt) → ⊥
  good-of-refused e d = let v = rw e at d.verdict in let z : ◌≡◌ {A = ℕ} 0 1 = cc in omega arith

  pub not-of-accepted : {c l f t : List ℕ} {r : Refusal} → translation_of x ≡ yes c l f t → Decided x (Err r) → ⊥
  not-of-accepted e d = let v = rw e at d.verdict in let z : ◌≡◌ {A = ℕ} 0 1 = cc in omega arith

  pub not-of-another : {q r : Refusal} → r ≢ q → translation_of x ≡ no q → Decided x (Err r) → ⊥
  not-of-another n e d = let v = rw e at d.verdict in n (cc)

module _ {c₀ c₁ l₀ l₁ f₀ f₁ t₀ t₁ : List ℕ} where
  -- one that refuses everything: what is accepted is not refused, whatever the reason given
  pub refuses-everything : {c l f t : List ℕ} {r : Refusal} → Translated (yes c l f t) c₀ c₁ l₀ l₁ f₀ f₁ t₀ t₁ (Err r) → ⊥
  refuses-everything h = let a = h.answer in let z : ◌≡◌ {A = ℕ} 0 1 = cc in omega arith

  -- one that accepts everything
  pub accepts-everything : {q : Refusal} {L J : ℕ} → Translated (no q) c₀ c₁ l₀ l₁ f₀ f₁ t₀ t₁ (Ok (record { length = L; jumps = J })) → ⊥
  accepts-everything h = let a = h.answer in let z : ◌≡◌ {A = ℕ} 0 1 = cc in omega arith

  -- another refusal, or the same of another slot
  pub another-refusal : {q r : Refusal} → r ≢ q → Translated (no q) c₀ c₁ l₀ l₁ f₀ f₁ t₀ t₁ (Err r) → ⊥
  another-refusal n h = let a = h.answer in n (cc)

  -- a made-up length, a made-up count of jumps
  module _ {c l f t : List ℕ} {L J : ℕ} (h : Translated (yes c l f t) c₀ c₁ l₀ l₁ f₀ f₁ t₀ t₁ (Ok (record { length = L; jumps = J }))) where
    pub length-made-up : L ≢ length c → ⊥
    length-made-up n = n (same-numbers h.answer).0

    pub jumps-made-up : J ≢ length f → ⊥
    jumps-made-up n = n (same-numbers h.answer).1

-- What is lent and left as it was held the outcome already: so a translator that answers success and writes nothing is shut out wherever
-- the page, or a table, did not hold it by chance.
unwritten : (ys l : List ℕ) → l ≡ over ys l → take (length ys) l ≢ ys → ⊥
unwritten ys l e n = n (ap (take (length ys)) e ∙ take-over ys l (length ys) refl)

module _ {o : Outcome} {c₀ c₁ l₀ l₁ f₀ f₁ t₀ t₁ : List ℕ} {r : Answer} (h : Translated o c₀ c₁ l₀ l₁ f₀ f₁ t₀ t₁ r) where
  pub code-unwritten : c₁ ≡ c₀ → take (length (code_in o)) c₀ ≢ code_in o → ⊥
  code-unwritten e = unwritten (code_in o) c₀ (sym e ∙ h.code)

  pub locations-unwritten : l₁ ≡ l₀ → take (length (locations_in o)) l₀ ≢ locations_in o → ⊥
  locations-unwritten e = unwritten (locations_in o) l₀ (sym e ∙ h.locations)

  pub fields-unwritten : f₁ ≡ f₀ → take (length (fields_in o)) f₀ ≢ fields_in o → ⊥
  fields-unwritten e = unwritten (fields_in o) f₀ (sym e ∙ h.fields)

  pub targets-unwritten : t₁ ≡ t₀ → take (length (targets_in o)) t₀ ≢ targets_in o → ⊥
  targets-unwritten e = unwritten (targets_in o) t₀ (sym e ∙ h.targets)

-- One that changes an entry behind the outcome's: on a refusal, which writes nothing, any entry of the page or of a table.
kept : (ys l : List ℕ) (k : ℕ) → get_or (over ys l) (length ys + k) 0 ≡ get_or l (length ys + k) 0
kept ys l k = get_or-append-add ys (drop (length ys) l) k 0 ∙ get_or-drop (length ys) l k 0

changed : (ys l m : List ℕ) (k : ℕ) → m ≡ over ys l → get_or m (length ys + k) 0 ≢ get_or l (length ys + k) 0 → ⊥
changed ys l m k e n = n (rw e (kept ys l k))

module _ {o : Outcome} {c₀ c₁ l₀ l₁ f₀ f₁ t₀ t₁ : List ℕ} {r : Answer} (h : Translated o c₀ c₁ l₀ l₁ f₀ f₁ t₀ t₁ r) (k : ℕ) where
  pub code-changed : let at = length (code_in o) + k in get_or c₁ at 0 ≢ get_or c₀ at 0 → ⊥
  code-changed = changed (code_in o) c₀ c₁ k h.code

  pub locations-changed : let at = length (locations_in o) + k in get_or l₁ at 0 ≢ get_or l₀ at 0 → ⊥
  locations-changed = changed (locations_in o) l₀ l₁ k h.locations

  pub fields-changed : let at = length (fields_in o) + k in get_or f₁ at 0 ≢ get_or f₀ at 0 → ⊥
  fields-changed = changed (fields_in o) f₀ f₁ k h.fields

  pub targets-changed : let at = length (targets_in o) + k in get_or t₁ at 0 ≢ get_or t₀ at 0 → ⊥
  targets-changed = changed (targets_in o) t₀ t₁ k h.targets
