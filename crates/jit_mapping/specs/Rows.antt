-- The lines of a map as they are read off the table of locations: each entry that is not 0 ends the piece before it and begins one of its
-- own; behind the slots come the epilogue's beginning and its end. That these are the page's lines is a law (proofs/RowsLaws.antt).
use Rattle.std.specs.Prelude.{◌≡◌, List, [], ◌∷◌, ◌++◌, ℕ, ◌+◌, ◌-◌, ◌≤◌, ◌<◌, ◌^◌, length, take, ltb}
use Rattle.base.specs.Pick.{pick}
use Rattle.text.specs.Text.{Says}
use Rattle.map.specs.MapText.{text_of}
use Rattle.jit.specs.Room.{epilogue_size}
use Rattle.code.specs.declared.Piece.{Piece}
use Rattle.code.specs.declared.Piece.TheVariants.{Prologue, Epilogue}
use Rattle.code.specs.Lines.{Line, line, slot}

-- what begins at entry k of a table of n slots
abbrev pub piece_at : (n k : ℕ) → Piece
piece_at n k = pick (ltb k n) (slot k) Epilogue

-- the piece from a place on, and what the table says from entry k on
abbrev pub rows : (n base : ℕ) → Piece → (from k : ℕ) → (table : List ℕ) → List Line
rows n base piece from k [] = []
rows n base piece from k (p ∷ ps) =
    pick (ltb 0 p) (line (base + from) (p - from) piece ++ rows n base (piece_at n k) p (k + 1) ps) (rows n base piece from (k + 1) ps)

-- the locations of n slots, and behind them where the epilogue begins and ends
abbrev pub closed_table : (n exit : ℕ) → (locations : List ℕ) → List ℕ
closed_table n exit locations = take n locations ++ (exit ∷ (exit + epilogue_size) ∷ [])

abbrev pub table_lines : (n base exit : ℕ) → (locations : List ℕ) → List Line
table_lines n base exit locations = rows n base Prologue 0 0 (closed_table n exit locations)

-- An entry that is not 0 closes a piece: what it asks, and what it leaves.
pub record Closing (l : List ℕ) (base : ℕ) (piece : Piece) (from next place : ℕ) : Type 0 where
  pub below : 0 < place → from ≤ place
  pub address : 0 < place → base + from < 2 ^ 64
  pub room : 0 < place → next + length (text_of (line (base + from) (place - from) piece)) ≤ length l

pub record Closed (l l' : List ℕ) (base : ℕ) (piece : Piece) (from next place : ℕ) (opened piece' : Piece) (from' next' : ℕ) : Type 0 where
  pub says : Says l l' next next' (text_of (pick (ltb 0 place) (line (base + from) (place - from) piece) []))
  pub piece_is : piece' ≡ pick (ltb 0 place) opened piece
  pub from_is : from' ≡ pick (ltb 0 place) place from

-- the entries that are not 0 do not fall, from a place up to an end
abbrev pub Rising : (end from : ℕ) → (table : List ℕ) → Type 0
Rising end from [] = from ≤ end
Rising end from (p ∷ ps) = (p ≡ 0 → Rising end from ps) × (0 < p → (from ≤ p) × Rising end p ps)
