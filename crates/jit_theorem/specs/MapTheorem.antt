-- THE THEOREM OF THE MAP: what is proved of `translate_mapped`, which beside the page writes the text by which perf names its bytes:
--
--   map_of     which text or which refusal belongs to what is asked, where the page lies at a base     crates/jit_mapping/specs/Mapped.antt
--   Mapped    how the answer and what was lent hold it                                               the same
--   lines_of   whose each byte of a page is; From, the same of a single byte                         crates/code/specs/Lines.antt
--   text_of    the lines as text                                                                     crates/map/specs/MapText.antt
--   read_map   how perf reads a map                                                                  crates/map/specs/Perf.antt
--   ReadBack  what is read there: the page's pieces, end to end, each under its name                crates/map/specs/ReadBack.antt
--
-- `MapPromise` says it of one call; `MapTheorem` says that every call keeps it, that it can always be kept, and in one way only.
use Rattle.std.specs.Prelude.{◌≡◌, ℕ, length, take, Ok, Err}
use Rattle.code.specs.Code.{size}
use Rattle.code.specs.Page.{whole}
use Rattle.map.specs.ReadBack.{ReadBack}
use Rattle.x86.specs.Encode.{isa}
use Rattle.jit.specs.Translation.{Inputs}
use Rattle.jit.specs.JumpTables.{page_for}
use Rattle.jit_safety.specs.Demand3.{Given}
use Rattle.jit_mapping.specs.declared.Refusal.{Refusal}
use Rattle.jit_mapping.specs.Mapped.{no, map_of, Answer, Buffers, Mapped}
use Rattle.jit_theorem.specs.Theorem as Theorem
use Rattle.jit_theorem.specs.Theorem.{Promise}

-- what `translate` was lent of it
abbrev pub page_in : Buffers → Theorem.Buffers
page_in b =
    record {
      code = b.code;
      locations = b.locations;
      fields = b.fields;
      targets = b.targets;
      kinds = b.kinds;
      makers = b.makers;
    }

pub record MapPromise (x : Inputs) (base : ℕ) (before after : Buffers) (r : Answer) : Type 0 where
  -- the answer, the page, the tables and the text are `map_of`'s; this is `translate_mapped`'s own contract
  pub bytes : Mapped x base before after r
  -- refused, nothing that was lent is changed
  pub refusal : (q : Refusal) → r ≡ Err q → (map_of x base (length before.text) ≡ no q) × (after ≡ before)
  -- accepted, the page is what `translate` promises it to be
  pub page : (L J T : ℕ) → r ≡ Ok (record { length = L; jumps = J; text = T })
      → Promise x (page_in before) (page_in after) (Ok (record { length = L; jumps = J }))
  -- .. and the text's T bytes, read as perf reads them, name the page's L bytes from the base on, each by the piece that it is of
  pub map : (L J T : ℕ) → r ≡ Ok (record { length = L; jumps = J; text = T })
      → (L ≡ size isa (whole (page_for x))) × ReadBack isa base (page_for x) (take T after.text)

-- `Given`, as in Theorem.antt, is what Rattle says of every slice.
pub record MapTheorem : Type 0 where
  pub kept : (x : Inputs) → Given x → (base : ℕ) (before after : Buffers) (r : Answer) → Mapped x base before after r → MapPromise x base before after r
  pub answered : (x : Inputs) → Given x → (base : ℕ) (before : Buffers) → (r : Answer) × ((after : Buffers) × MapPromise x base before after r)
  pub only : (x : Inputs) (base : ℕ) (before after other : Buffers) (r s : Answer) → MapPromise x base before after r → MapPromise x base before other s
      → (r ≡ s) × (after ≡ other)
