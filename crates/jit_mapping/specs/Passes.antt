-- What the passes ask and leave, of the parameters by their names (base/specs/Lent.antt). Only they speak of it; the proofs join them to the
-- contract (Lent.antt).
use Rattle.std.specs.Prelude.{◌≡◌, ℕ, ◌+◌, ◌≤◌, ◌<◌, ◌^◌, Bool, ltb, length, get_or, Ok, Err}
use Rattle.base.specs.declared.Position.{Position}
use Rattle.base.specs.Lent.{Slice, MutSlice, Lent, MutLent}
use Rattle.code.specs.declared.Piece.{Piece}
use Rattle.text.specs.Numerals.{hex}
use Rattle.text.specs.Lent.{Says}
use Rattle.map.specs.MapText.{text_of}
use Rattle.x86.specs.Code.{size}
use Rattle.jit.specs.declared.Flags.{Flags}
use Rattle.jit.specs.Room.{epilogue_size}
use Rattle.jit.specs.Translation.{Filter, slots_of, flat}
use Rattle.jit.specs.JumpTables.{blocks_in}
use Rattle.jit.specs.Passes.{walked, walk_from}
use Rattle.jit.specs.Frame.{prologue}
use Rattle.jit_walk.specs.Acceptable.{Acceptable}
use Rattle.jit_mapping.specs.declared.mapped.Filter as declared
use Rattle.jit_mapping.specs.declared.write.Open.{Open}
use Rattle.jit_mapping.specs.Mapped.{Map, no, yes}
use Rattle.jit_mapping.specs.Walked as W
use Rattle.jit_mapping.specs.Walked.{Fit}
use Rattle.jit_mapping.specs.Rows as R
use Rattle.jit_mapping.specs.Rows.{Rising, closed_table, table_lines}

-- the filter that is asked of
abbrev pub filter_at : declared.Filter → Filter
filter_at filter = record { program = filter.program.now; mode = filter.mode; ids = filter.ids.now; addresses = filter.addresses.now }

-- a walk that is accepted, of a page that does not go on past the largest address; and how long its map's text is
abbrev pub Accepted : Filter → (page : ℕ) → (start : Position) → (base : ℕ) → Type 0
Accepted filter page start base = W.Accepted (slots_of filter.program) page start.offset base (walked filter page start)

abbrev pub Walked : Filter → (page : ℕ) → (start : Position) → Type 0
Walked filter page start = Acceptable (slots_of filter.program) page start.offset (walked filter page start)

abbrev pub code_length : Filter → (page : ℕ) → (start : Position) → ℕ
code_length filter page start = start.offset + size (flat (blocks_in (walked filter page start))) + epilogue_size

abbrev pub is_low : Filter → (page : ℕ) → (start : Position) → (base : ℕ) → Bool
is_low filter page start base = ltb (base + code_length filter page start) (2 ^ 64)

abbrev pub text_length : Filter → (page : ℕ) → (start : Position) → (base : ℕ) → ℕ
text_length filter page start base = length (text_of (W.walk_lines base start.offset (blocks_in (walked filter page start))))

-- whether the map of a program that is accepted fits; and of any program, whether there is a map
abbrev pub Judging : Filter → Flags → (page : ℕ) → Type 0
Judging filter flags page = W.Judging filter flags page

abbrev pub fit_of : Filter → Flags → (page base room : ℕ) → Fit
fit_of filter flags page base room = W.fit_at base room (size (prologue flags)) (blocks_in (walk_from filter page (size (prologue flags))))

abbrev pub fit_in : Map → Fit
fit_in (no r) = Err r
fit_in (yes text) = Ok tt

abbrev pub Fitting : Filter → Flags → (code : MutSlice) → (base : ℕ) → (text : MutSlice) → Type 0
Fitting filter flags code base text = fit_of filter flags (length code.now) base (length text.now) ≡ Ok tt

-- the digits of addresses are counted, up to where a piece begins
abbrev pub Counted : (base : ℕ) → Open → Type 0
Counted base begun = begun.width.digits ≤ length (hex (base + begun.from))

-- a piece is closed by an entry that is not 0: there is room for its line, and then the line stands there
abbrev pub Closing : (text : MutSlice) → (base : ℕ) → Open → (place : ℕ) → Type 0
Closing text base begun place = R.Closing text.now base begun.piece begun.from begun.next place

abbrev pub Closed : (text : MutLent) → (base : ℕ) → Open → (place : ℕ) → (opened : Piece) → (r : Open) → Type 0
Closed text base begun place opened r =
    R.Closed text.entry.now text.exit.now base begun.piece begun.from begun.next place opened r.piece r.from r.next

-- the lines of a table of locations, behind which the epilogue's beginning and end stand
abbrev pub place_at : (locations : Lent) → (n exit k : ℕ) → ℕ
place_at locations n exit k = get_or (closed_table n exit locations.entry.now) k 0

abbrev pub WithRoom : (locations : Slice) → (n exit base : ℕ) → (text : MutSlice) → Type 0
WithRoom locations n exit base text =
    (n ≤ length locations.now)
    × ((Rising (exit + epilogue_size) 0 (closed_table n exit locations.now))
    × ((base + (exit + epilogue_size) < 2 ^ 64) × (length (text_of (table_lines n base exit locations.now)) ≤ length text.now)))

abbrev pub SaysRows : (locations : Lent) → (n exit base : ℕ) → (text : MutLent) → (r : ℕ) → Type 0
SaysRows locations n exit base text r = Says text 0 r (text_of (table_lines n base exit locations.entry.now))
