-- Whose each byte of a page is: a line for each piece that has bytes, the prologue, the slots by their numbers, the epilogue, one behind the
-- other. It says from which address on the piece lies, where the page lies at a base, and how many bytes it has. For any processor.
use Rattle.std.specs.Prelude.{List, [], ◌∷◌, ◌++◌, ℕ, zero, suc, ◌+◌, ◌≤◌, ◌<◌}
use Rattle.code.specs.declared.Piece.{Piece}
use Rattle.code.specs.declared.Piece.TheVariants.{Prologue, Slot, Epilogue}
use Rattle.code.specs.Instr.{Isa}
use Rattle.code.specs.Code.{size}
use Rattle.code.specs.Page.{Block, Page, slots_wide, exit_of}
use Rattle.code.specs.Landing.{SlotAt}

abbrev pub slot : (number : ℕ) → Piece
slot k = Slot (record { number = k })

pub record Line : Type 0 where
  pub start : ℕ
  pub bytes : ℕ
  pub piece : Piece

-- a piece without bytes has no line
abbrev pub line : (start bytes : ℕ) → Piece → List Line
line start zero piece = []
line start (suc more) piece = record { start = start; bytes = suc more; piece = piece } ∷ []

module _ {P J : Type 0} (m : Isa P J) where
  -- the lines of blocks, of which the first is that of a slot
  abbrev pub slot_lines : (start number : ℕ) → List (Block P J) → List Line
  slot_lines start number [] = []
  slot_lines start number (b ∷ bs) =
      line start (size m b.code) (slot number) ++ slot_lines (start + size m b.code) (number + slots_wide b.wide) bs

  abbrev pub lines_of : (base : ℕ) → Page P J → List Line
  lines_of base g =
      line base (size m g.prologue) Prologue
      ++ (slot_lines (base + size m g.prologue) 0 g.blocks ++ line (base + exit_of m g) (size m g.epilogue) Epilogue)

  -- whose the byte at p is
  pub data From (g : Page P J) (p : ℕ) : Piece → Type 0 where
    of_prologue : p < size m g.prologue → From g p Prologue
    of_slot : (number q : ℕ) (b : Block P J) → SlotAt m g number q b → q ≤ p → p < q + size m b.code → From g p (slot number)
    of_epilogue : exit_of m g ≤ p → p < exit_of m g + size m g.epilogue → From g p Epilogue
