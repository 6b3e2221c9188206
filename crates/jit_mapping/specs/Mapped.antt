-- What the translator answers when it is asked for a map beside the page, and what it leaves in what it was lent: what `translate` does, and
-- the map's text. It is refused where `translate` refuses (1 to 14), then where the page would go on past the largest 64-bit address (15),
-- then where the text has no room (16); and then nothing that was lent is changed.
use Rattle.std.specs.Prelude.{◌≡◌, List, [], ℕ, ◌+◌, ◌^◌, leb, ltb, length, Result, Ok, Err}
use Rattle.base.specs.Lists.{over}
use Rattle.base.specs.Pick.{pick}
use Rattle.code.specs.Lines.{lines_of}
use Rattle.map.specs.MapText.{text_of}
use Rattle.x86.specs.Encode.{isa}
use Rattle.jit.specs.Translation as translation
use Rattle.jit.specs.Translation.{Inputs, Outcome, translation_of}
use Rattle.jit.specs.JumpTables.{page_for, kinds_in, makers_in}
use Rattle.jit_translate.specs.Translated.{code_in, locations_in, fields_in, targets_in}
use Rattle.jit_mapping.specs.declared.Accepted.{Accepted}
use Rattle.jit_mapping.specs.declared.Refusal.{Refusal}
use Rattle.jit_mapping.specs.declared.Refusal.TheVariants.{Translation, BaseTooHigh, TextTooShort}

-- the text of the page's map, where the page lies at a base
abbrev pub map_text : Inputs → (base : ℕ) → List ℕ
map_text x base = text_of (lines_of isa base (page_for x))

pub data Map : Type 0 where
  no : Refusal → Map
  yes : (text : List ℕ) → Map

-- `room` is the text buffer's length
abbrev pub map_in : Outcome → (text : List ℕ) → (base room : ℕ) → Map
map_in (translation.no r) text base room = no (Translation r)
map_in (translation.yes c l f t) text base room =
    pick (leb (2 ^ 64) (base + length c)) (no BaseTooHigh) (pick (ltb room (length text)) (no TextTooShort) (yes text))

abbrev pub map_of : Inputs → (base room : ℕ) → Map
map_of x base room = map_in (translation_of x) (map_text x base) base room

-- what `translate_mapped` answers
abbrev pub Answer : Type 0
Answer = Result Accepted Refusal

-- the answer, and what of a translation is written: all of it, or nothing
abbrev pub answer_of : Map → Outcome → Answer
answer_of (no r) o = Err r
answer_of (yes text) o = Ok (record { length = length (code_in o); jumps = length (fields_in o); text = length text })

abbrev pub written : Map → List ℕ → List ℕ
written (no r) ys = []
written (yes text) ys = ys

abbrev pub text_in : Map → List ℕ
text_in (no r) = []
text_in (yes text) = text

-- What is lent, at one moment: the code buffer, the five tables and the text buffer.
pub record Buffers : Type 0 where
  pub code : List ℕ
  pub locations : List ℕ
  pub fields : List ℕ
  pub targets : List ℕ
  pub kinds : List ℕ
  pub makers : List ℕ
  pub text : List ℕ

-- THE CONTRACT of `translate_mapped`: what is written stands at the head of each buffer, and everything behind it is as it was.
pub record Mapped (x : Inputs) (base : ℕ) (before after : Buffers) (r : Answer) : Type 0 where
  pub answer : r ≡ answer_of (map_of x base (length before.text)) (translation_of x)
  pub code : after.code ≡ over (written (map_of x base (length before.text)) (code_in (translation_of x))) before.code
  pub locations : after.locations ≡ over (written (map_of x base (length before.text)) (locations_in (translation_of x))) before.locations
  pub fields : after.fields ≡ over (written (map_of x base (length before.text)) (fields_in (translation_of x))) before.fields
  pub targets : after.targets ≡ over (written (map_of x base (length before.text)) (targets_in (translation_of x))) before.targets
  pub kinds : after.kinds ≡ over (written (map_of x base (length before.text)) (kinds_in x (translation_of x))) before.kinds
  pub makers : after.makers ≡ over (written (map_of x base (length before.text)) (makers_in x (translation_of x))) before.makers
  pub text : after.text ≡ over (text_in (map_of x base (length before.text))) before.text
