-- What a map is good for: read back by perf's rules (Perf.antt), its lines lie one behind the other from the page's base to its end, without
-- a gap and without an overlap, and the line that covers a byte names the piece of the page that the byte is of. For any processor.
use Rattle.std.specs.Prelude.{◌≡◌, List, [], ◌∷◌, ◌++◌, ℕ, ◌+◌, ◌≤◌, ◌<◌}
use Rattle.code.specs.Instr.{Isa}
use Rattle.code.specs.Code.{size}
use Rattle.code.specs.Page.{Page, whole}
use Rattle.code.specs.declared.Piece.{Piece}
use Rattle.code.specs.Lines.{From}
use Rattle.map.specs.Perf.{Symbol, all, read_map}
use Rattle.map.specs.MapText.{name_of}

-- the lines lie end to end from an address to another, and none is empty
pub data Tiles (to : ℕ) : (from : ℕ) → List Symbol → Type 0 where
  done : Tiles to to []
  next : (s : Symbol) (ss : List Symbol) → 0 < s.size → Tiles to (s.start + s.size) ss → Tiles to s.start (s ∷ ss)

-- a line that covers an address has the name
pub record Shows (symbols : List Symbol) (address : ℕ) (name : List ℕ) : Type 0 where
  pub ahead : List Symbol
  pub symbol : Symbol
  pub behind : List Symbol
  pub split : symbols ≡ ahead ++ symbol ∷ behind
  pub from : symbol.start ≤ address
  pub to : address < symbol.start + symbol.size
  pub named : symbol.name ≡ name

module _ {P J : Type 0} (m : Isa P J) where
  pub record ReadBack (base : ℕ) (g : Page P J) (text : List ℕ) : Type 0 where
    pub symbols : List Symbol
    pub read : read_map text ≡ all symbols
    pub tiles : Tiles (base + size m (whole g)) base symbols
    -- every byte is of a piece, and the line that covers it names that piece
    pub every : (p : ℕ) → p < size m (whole g) → (piece : Piece) × From m g p piece
    pub names : (p : ℕ) (piece : Piece) → From m g p piece → Shows symbols (base + p) (name_of piece)
