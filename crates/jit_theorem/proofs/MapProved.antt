-- The theorem of the map is proved: from the laws of `translate_mapped`'s contract, the theorem of the page, and the map that is read back.
use mathlib.Core.Path.{◌≡◌, refl, ap, ◌∙◌}
use Prim.Native.Nat.{ℕ}
use native.Mathlib.Omega.{arith}
use Rattle.std.specs.Prelude.{Ok, Err}
use lib.ListN.{length, take}
use Rattle.base.specs.Lists.{over}
use Rattle.code.specs.Code.{size}
use Rattle.code.specs.Page.{whole}
use Rattle.map.specs.ReadBack.{ReadBack}
use Rattle.map.proofs.ReadBackLaws.{read_back}
use Rattle.x86.specs.Encode.{isa}
use Rattle.jit.specs.Translation.{Inputs, translation_of}
use Rattle.jit.specs.JumpTables.{page_for, kinds_in, makers_in}
use Rattle.jit_safety.specs.Demand3.{Given}
use Rattle.jit_translate.specs.Translated.{code_in, locations_in, fields_in, targets_in}
use Rattle.jit_mapping.specs.declared.Refusal.{Refusal}
use Rattle.jit_mapping.specs.Mapped.{Map, no, yes, map_of, Answer, answer_of, written, text_in, Buffers, Mapped}
use Rattle.jit_mapping.proofs.MappedLaws.{same, one_answer, mapping}
use Rattle.jit_theorem.specs.Theorem.{Promise}
use Rattle.jit_theorem.specs.MapTheorem.{page_in, MapPromise, MapTheorem}
use Rattle.jit_theorem.proofs.Proved as page

refusal-of : (x : Inputs) (base : ℕ) (before after : Buffers) (q : Refusal) → Mapped x base before after (Err q)
    → (map_of x base (length before.text) ≡ no q) × (after ≡ before)
refusal-of x base before after q h = by (map_of x base (length before.text)) refl
  where
    by : (w : Map) → map_of x base (length before.text) ≡ w → (map_of x base (length before.text) ≡ no q) × (after ≡ before)
    by (no r) e =
        let f : Err q ≡ Err r = h.answer ∙ ap (λ (w : Map). answer_of w (translation_of x)) e in
        let g : q ≡ r = cc in (
          rw g e,
          same after before
              (rw e at h.code)
              (rw e at h.locations)
              (rw e at h.fields)
              (rw e at h.targets)
              (rw e at h.kinds)
              (rw e at h.makers)
              (rw e at h.text),
        )
    by (yes text) e =
        let f : Err q ≡ answer_of (yes text) (translation_of x) = h.answer ∙ ap (λ (w : Map). answer_of w (translation_of x)) e in
        let z : ◌≡◌ {A = ℕ} 0 1 = cc in
        absurd (omega arith)

module _ (x : Inputs) (given : Given x) (base : ℕ) (before after : Buffers) {L J T : ℕ} (h : Mapped x base before after (Ok (record { length = L; jumps = J; text = T }))) where
  page-of : Promise x (page_in before) (page_in after) (Ok (record { length = L; jumps = J }))
  page-of = page.kept x given (page_in before) (page_in after) (Ok (record { length = L; jumps = J })) (mapping h).page (mapping h).names

  map_of_lem : (L ≡ size isa (whole (page_for x))) × ReadBack isa base (page_for x) (take T after.text)
  map_of_lem = ((mapping h).length_is, rw (mapping h).text (read_back isa base (page_for x) (mapping h).low))

pub kept : (x : Inputs) → Given x → (base : ℕ) (before after : Buffers) (r : Answer) → Mapped x base before after r → MapPromise x base before after r
kept x given base before after r h =
    record {
      bytes = h;
      refusal = λ q e. refusal-of x base before after q (rw e at h);
      page = λ L J T e. page-of x given base before after (rw e at h);
      map = λ L J T e. map_of_lem x given base before after (rw e at h);
    }

-- what a map leaves
left : (x : Inputs) (base : ℕ) → Buffers → Buffers
left x base b =
    let w = map_of x base (length b.text) in
    let o = translation_of x in
    record {
      code = over (written w (code_in o)) b.code;
      locations = over (written w (locations_in o)) b.locations;
      fields = over (written w (fields_in o)) b.fields;
      targets = over (written w (targets_in o)) b.targets;
      kinds = over (written w (kinds_in x o)) b.kinds;
      makers = over (written w (makers_in x o)) b.makers;
      text = over (text_in w) b.text;
    }

pub map_theorem : MapTheorem
unfolding left
map_theorem =
    record {
      kept = kept;
      answered = λ x given base before.
          let r = answer_of (map_of x base (length before.text)) (translation_of x) in
          let h : Mapped x base before (left x base before) r =
          record { answer = refl; code = refl; locations = refl; fields = refl; targets = refl; kinds = refl; makers = refl; text = refl } in
          (r, (left x base before, kept x given base before (left x base before) r h));
      only = λ x base before after other r s p q. one_answer p.bytes q.bytes;
    }
