-- What the exported function that also writes the page's map answers: `MapPromise` (crates/jit_theorem/specs/MapTheorem.antt), of an answer whose
-- five numbers are the struct's. No refusal has number 0, so where the number is 0 the page is what `ndakoleem_translate_4` promises, and the
-- text, read back, names its bytes (`mapped-page` and `mapped-text`, proofs/ExportedMapLaws.antt). It is a library of its own: a loader that
-- wants no map links nothing of it, and its translation costs what it did.
use Rattle.std.specs.Prelude.{◌≡◌, ℕ, Ok, Err}
use Rattle.jit.specs.Translation.{Inputs}
use Rattle.jit_mapping.specs.Refusals.{number_of, slot_of}
use Rattle.jit_mapping.specs.Mapped.{Answer, Buffers}
use Rattle.jit_theorem.specs.MapTheorem.{MapPromise}
use Rattle.ndakoleem_map.specs.declared.Mapped.{Mapped}

-- the five numbers of an answer
abbrev pub number_in : Answer → ℕ
number_in (Ok a) = 0
number_in (Err r) = number_of r

abbrev pub slot_in : Answer → ℕ
slot_in (Ok a) = 0
slot_in (Err r) = slot_of r

abbrev pub length_in : Answer → ℕ
length_in (Ok a) = a.length
length_in (Err r) = 0

abbrev pub jumps_in : Answer → ℕ
jumps_in (Ok a) = a.jumps
jumps_in (Err r) = 0

abbrev pub text_in : Answer → ℕ
text_in (Ok a) = a.text
text_in (Err r) = 0

-- THE CONTRACT, for what is asked, the page's base, and what is lent at entry and at exit
pub record ExportedMap (x : Inputs) (base : ℕ) (before after : Buffers) (r : Mapped) : Type 0 where
  pub answer : Answer
  pub promise : MapPromise x base before after answer
  pub number_is : r.number ≡ number_in answer
  pub slot_is : r.slot ≡ slot_in answer
  pub length_is : r.length ≡ length_in answer
  pub jumps_are : r.jumps ≡ jumps_in answer
  pub text_is : r.text ≡ text_in answer
