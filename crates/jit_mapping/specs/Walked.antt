-- The lines of a walk that is accepted, of which the first slot's code begins at `start`: those of its page (proofs/WalkedLaws.antt).
use Rattle.std.specs.Prelude.{◌≡◌, List, ◌++◌, ℕ, ◌+◌, ◌≤◌, ◌<◌, ◌^◌, leb, ltb, length, ⊤, Result, Ok, Err}
use Rattle.base.specs.Pick.{pick}
use Rattle.code.specs.declared.Piece.TheVariants.{Prologue, Epilogue}
use Rattle.code.specs.Lines.{Line, line, slot_lines}
use Rattle.x86.specs.Encode.{isa}
use Rattle.x86.specs.Code.{size}
use Rattle.jit.specs.Room.{epilogue_size}
use Rattle.jit.specs.declared.Flags.{Flags}
use Rattle.jit.specs.Frame.{prologue}
use Rattle.jit.specs.Limits.{longest_program, longest_page}
use Rattle.jit.specs.Passes.{walk_from}
use Rattle.jit.specs.Translation.{Filter, Block, Walk, slots_of, flat}
use Rattle.jit_walk.specs.Acceptable.{Acceptable}
use Rattle.map.specs.MapText.{text_of}
use Rattle.jit_mapping.specs.declared.Refusal.{Refusal}
use Rattle.jit_mapping.specs.declared.Refusal.TheVariants.{BaseTooHigh, TextTooShort}

abbrev pub walk_lines : (base start : ℕ) → List Block → List Line
walk_lines base start bs =
    line base start Prologue ++ (slot_lines isa (base + start) 0 bs ++ line (base + (start + size (flat bs))) epilogue_size Epilogue)

pub record Accepted (n page start base : ℕ) (w : Walk) : Type 0 where
  pub walk : Acceptable n page start w
  pub low : base + (start + size (flat walk.bs)) + epilogue_size < 2 ^ 64

-- The verdict on the map of blocks: its page goes on past the largest address, or its text has no room, or it fits.
abbrev pub Fit : Type 0
Fit = Result ⊤ Refusal

abbrev pub fit_at : (base room start : ℕ) → List Block → Fit
fit_at base room start bs =
    pick (ltb (base + (start + size (flat bs) + epilogue_size)) (2 ^ 64))
    (pick (leb (length (text_of (walk_lines base start bs))) room) (Ok tt) (Err TextTooShort)) (Err BaseTooHigh)

-- what it is asked of
pub record Judging (filter : Filter) (flags : Flags) (page : ℕ) : Type 0 where
  pub program : length filter.program ≤ longest_program
  pub page_is : page ≤ longest_page
  pub helpers : length filter.ids ≡ length filter.addresses
  pub walk : Acceptable (slots_of filter.program) page (size (prologue flags)) (walk_from filter page (size (prologue flags)))
