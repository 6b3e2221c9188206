-- The text of a page's map: for each line (crates/code/specs/Lines.antt) its start and its size, both in lower-case hexadecimal without a
-- prefix or leading zeros, and its name, with one space between them, and the line's end.
use Rattle.std.specs.Prelude.{List, [], ◌∷◌, ◌++◌, ℕ}
use Rattle.code.specs.declared.Piece.{Piece}
use Rattle.code.specs.declared.Piece.TheVariants.{Prologue, Slot, Epilogue}
use Rattle.code.specs.Lines.{Line}
use Rattle.text.specs.Text.{ascii}
use Rattle.text.specs.Numerals.{decimal, hex}
use Rattle.map.specs.Perf.{space, newline}

-- `prologue`, `epilogue`, and `slot_` with the slot's number in decimal
abbrev pub name_of : Piece → List ℕ
name_of Prologue = ascii "prologue"
name_of Epilogue = ascii "epilogue"
name_of (Slot s) = ascii "slot_" ++ decimal s.number

abbrev pub line_text : Line → List ℕ
line_text l = hex l.start ++ (space ∷ hex l.bytes ++ (space ∷ name_of l.piece ++ (newline ∷ [])))

abbrev pub text_of : List Line → List ℕ
text_of [] = []
text_of (l ∷ ls) = line_text l ++ text_of ls
