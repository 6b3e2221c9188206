-- The laws of specs/ExportedMap.antt: one struct only; where the number is 0, the page is as `translate` promises, and the text names its bytes;
-- how the contract is met.
use mathlib.Core.Path.{◌≡◌, ◌∙◌, ap, sym, refl}
use Prim.Native.Nat.{ℕ, ◌≤◌}
use native.Mathlib.Omega.{arith}
use Rattle.std.specs.Prelude.{Ok, Err}
use lib.ListN.{take}
use Rattle.code.specs.Code.{size}
use Rattle.code.specs.Page.{whole}
use Rattle.map.specs.ReadBack.{ReadBack}
use Rattle.x86.specs.Encode.{isa}
use Rattle.jit.specs.declared.Refusal.{Refusal as TranslationRefusal}
use Rattle.jit.specs.declared.Refusal.TheVariants as refusal
use Rattle.jit.specs.Refusals.{number_of as translation_number}
use Rattle.jit.specs.Translation.{Inputs}
use Rattle.jit.specs.JumpTables.{page_for}
use Rattle.jit_safety.specs.Demand3.{Given}
use Rattle.jit_mapping.specs.declared.Refusal.{Refusal}
use Rattle.jit_mapping.specs.declared.Refusal.TheVariants.{Translation, BaseTooHigh, TextTooShort}
use Rattle.jit_mapping.specs.Refusals.{number_of}
use Rattle.jit_mapping.specs.Mapped.{Answer, Buffers, Mapped}
use Rattle.jit_theorem.specs.Theorem.{Promise}
use Rattle.jit_theorem.specs.MapTheorem.{page_in, MapPromise}
use Rattle.jit_theorem.proofs.MapProved.{map_theorem}
use Rattle.ndakoleem_map.specs.declared.Mapped as struct
use Rattle.ndakoleem_map.specs.ExportedMap.{number_in, slot_in, length_in, jumps_in, text_in, ExportedMap}

-- It admits one struct and one set of contents at exit only.
pub one_map : {x : Inputs} {base : ℕ} {before after other : Buffers} {r s : struct.Mapped}
    → ExportedMap x base before after r → ExportedMap x base before other s
    → ((r.number ≡ s.number) × (r.slot ≡ s.slot) × (r.length ≡ s.length) × (r.jumps ≡ s.jumps) × (r.text ≡ s.text)) × (after ≡ other)
one_map {x} {base} {before} {after} {other} a b =
    let same = map_theorem.only x base before after other a.answer b.answer a.promise b.promise in
    let by = same.0 in (
      (
        a.number_is ∙ ap number_in by ∙ sym b.number_is,
        a.slot_is ∙ ap slot_in by ∙ sym b.slot_is,
        a.length_is ∙ ap length_in by ∙ sym b.length_is,
        a.jumps_are ∙ ap jumps_in by ∙ sym b.jumps_are,
        a.text_is ∙ ap text_in by ∙ sym b.text_is,
      ),
      same.1,
    )

-- No refusal has number 0: none of a translation (crates/ndakoleem/proofs/ExportedLaws.antt has that too, for its own library), and neither of
-- the map's own.
translation-numbered : (r : TranslationRefusal) → 1 ≤ translation_number r
translation-numbered refusal.PageTooShort = omega arith
translation-numbered refusal.PageTooLong = omega arith
translation-numbered refusal.ProgramTooLong = omega arith
translation-numbered refusal.TableTooShort = omega arith
translation-numbered refusal.BadHelpers = omega arith
translation-numbered (refusal.Torn s) = omega arith
translation-numbered (refusal.BadRegister s) = omega arith
translation-numbered (refusal.UnknownOpcode s) = omega arith
translation-numbered (refusal.Unimplemented s) = omega arith
translation-numbered (refusal.BadSwap s) = omega arith
translation-numbered (refusal.UnknownHelper s) = omega arith
translation-numbered (refusal.BadCall s) = omega arith
translation-numbered (refusal.NoRoom s) = omega arith
translation-numbered (refusal.BadTarget s) = omega arith

numbered : (r : Refusal) → 1 ≤ number_of r
numbered (Translation r) = translation-numbered r
numbered BaseTooHigh = omega arith
numbered TextTooShort = omega arith

-- So what has it is accepted: the page is promised as `ndakoleem_translate_4` promises it, and the text names its bytes.
module _ {x : Inputs} {base : ℕ} {before after : Buffers} {r : struct.Mapped} (h : ExportedMap x base before after r) (z : r.number ≡ 0) where
  pub mapped-page : Promise x (page_in before) (page_in after) (Ok (record { length = r.length; jumps = r.jumps }))
  mapped-page = rw (h.length_is, h.jumps_are) (by h.answer h.promise (sym h.number_is ∙ z))
    where
      by : (a : Answer) → MapPromise x base before after a → number_in a ≡ 0
          → Promise x (page_in before) (page_in after) (Ok (record { length = length_in a; jumps = jumps_in a }))
      by (Ok a) p e = p.page a.length a.jumps a.text refl
      by (Err q) p e = absurd (omega (arith, numbered q, e))

  pub mapped-text : (r.length ≡ size isa (whole (page_for x))) × ReadBack isa base (page_for x) (take r.text after.text)
  mapped-text = rw (h.length_is, h.text_is) (by h.answer h.promise (sym h.number_is ∙ z))
    where
      by : (a : Answer) → MapPromise x base before after a → number_in a ≡ 0
          → (length_in a ≡ size isa (whole (page_for x))) × ReadBack isa base (page_for x) (take (text_in a) after.text)
      by (Ok a) p e = p.map a.length a.jumps a.text refl
      by (Err q) p e = absurd (omega (arith, numbered q, e))

-- The struct of an answer's five numbers meets the contract.
pub exported-map : (x : Inputs) → Given x → (base : ℕ) {before after : Buffers} {a : Answer} {number slot bytes jumps text : ℕ}
    → Mapped x base before after a
    → number ≡ number_in a → slot ≡ slot_in a → bytes ≡ length_in a → jumps ≡ jumps_in a → text ≡ text_in a
    → ExportedMap x base before after (record { number = number; slot = slot; length = bytes; jumps = jumps; text = text })
exported-map x given base {before} {after} {a} h n s l j t =
    record {
      answer = a;
      promise = map_theorem.kept x given base before after a h;
      number_is = n;
      slot_is = s;
      length_is = l;
      jumps_are = j;
      text_is = t;
    }
