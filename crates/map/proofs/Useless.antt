-- Wrong texts of a map, at one page of a processor that has instructions of any length: `ReadBack` shuts out those that tell perf something
-- else, and the equation with `text_of` also those that perf reads as the same.
use mathlib.Core.Path.{◌≡◌, refl, ap}
use mathlib.Core.Bool.{Bool, true, false}
use mathlib.Core.List.{List, [], ◌∷◌, ◌++◌}
use Prim.Native.Nat.{ℕ, ◌+◌, ◌<◌, ◌^◌}
use Prim.Native.String.{String}
use native.Mathlib.Omega.{arith}
use lib.Dec.{ltb}
use lib.ListN.{length, get_or, replicate}
use borrow.Author.Tests.{ltb-true, ltb-false}
use Rattle.code.specs.declared.Piece.{Piece}
use Rattle.code.specs.Instr.{Isa, op}
use Rattle.code.specs.Code.{size}
use Rattle.code.specs.Page.{Block, Page, Code, whole}
use Rattle.code.specs.Lines.{slot, lines_of, From, of_slot}
use Rattle.text.specs.Text.{ascii}
use Rattle.text.specs.Numerals.{decimal, hex, digit_of}
use Rattle.map.specs.Perf.{Symbol, torn, all, lines_up_to, read_map}
use Rattle.map.specs.MapText.{name_of, text_of}
use Rattle.map.specs.ReadBack.{Tiles, done, next, Shows, ReadBack}
use Rattle.map.proofs.ReadBackLaws.{shows-behind, every_byte, names-piece, read_back}
use Rattle.map.proofs.NamesLaws.{Covers, one_name}

-- A tiling, one fact by the other.
abbrev pub Laid : (to from : ℕ) → List Symbol → Type 0
Laid to from [] = from ≡ to
Laid to from (s ∷ ss) = (from ≡ s.start) × ((0 < s.size) × Laid to (s.start + s.size) ss)

pub tiles-laid : {to from : ℕ} {ss : List Symbol} → Tiles to from ss → Laid to from ss
tiles-laid done = refl
tiles-laid (next s ss h t) = (refl, (h, tiles-laid t))

module _ {P J : Type 0} {m : Isa P J} {base : ℕ} {g : Page P J} {text : List ℕ} (r : ReadBack m base g text) where
  -- what a text that is read as `ss` has to meet
  pub laid : (ss : List Symbol) → read_map text ≡ all ss → Laid (base + size m (whole g)) base ss
  laid ss e = let s : r.symbols ≡ ss = cc in tiles-laid (rw s at r.tiles)

  pub whole-text : read_map text ≡ torn → ⊥
  whole-text e = let z : ◌≡◌ {A = ℕ} 0 1 = cc in omega arith

  pub named : (ss : List Symbol) → read_map text ≡ all ss → (p : ℕ) (piece : Piece) (name : List ℕ) → From m g p piece → Shows ss (base + p) name
      → name ≡ name_of piece
  named ss e p piece name f s =
      let q : r.symbols ≡ ss = cc in
      one_name r.tiles (rw q s) (r.names p piece f)

-- The page: 26 bytes of prologue; slot 0, wide, of 10 bytes; slots 2, 4, 6 and 8, wide and of none; slot 10, of 5; an epilogue of 2.
abbrev toy : Isa ℕ ℕ
toy =
    record {
      plain = λ n. replicate n 0x90;
      head = λ j. [];
      kind = λ j. j;
      word = λ j d. d;
      patch = λ old d. d;
      through = λ r. [];
      through_len = λ r. 0;
      back = [];
    }

abbrev code : ℕ → Code ℕ ℕ
code n = op n ∷ []

abbrev none : Block ℕ ℕ
none = record { code = []; wide = true }

abbrev page : Page ℕ ℕ
page =
    record {
      prologue = code 26;
      blocks = record { code = code 10; wide = true } ∷ none ∷ none ∷ none ∷ none ∷ record { code = code 5; wide = false } ∷ [];
      epilogue = code 2;
    }

-- lines of text, each with the byte 10 behind it: not by a name of the definitions, which would change along with them
abbrev rows : List String → List ℕ
rows [] = []
rows (s ∷ ss) = ascii s ++ 10 ∷ rows ss

abbrev row : ℕ → ℕ → String → Symbol
row start size name = record { start = start; size = size; name = ascii name }

abbrev Reads : List ℕ → Type 0
Reads text = ReadBack toy 0xab00 page text

pub right : text_of (lines_of toy 0xab00 page) ≡ rows ("ab00 1a prologue" ∷ "ab1a a slot_0" ∷ "ab24 5 slot_10" ∷ "ab29 2 epilogue" ∷ [])
unfolding hex decimal
right = refl

pub right-read : Reads (rows ("ab00 1a prologue" ∷ "ab1a a slot_0" ∷ "ab24 5 slot_10" ∷ "ab29 2 epilogue" ∷ []))
right-read = rw right at (read_back toy 0xab00 page (omega arith))

-- a size one short
pub short : Reads (rows ("ab00 1a prologue" ∷ "ab1a 9 slot_0" ∷ "ab24 5 slot_10" ∷ "ab29 2 epilogue" ∷ [])) → ⊥
unfolding lines_up_to digit_of
short r =
    let l = laid r (row 0xab00 26 "prologue" ∷ row 0xab1a 9 "slot_0" ∷ row 0xab24 5 "slot_10" ∷ row 0xab29 2 "epilogue" ∷ []) refl in
    omega (arith, l.1.1.1.1.0)

-- .. one long, so that two lines overlap; in decimal; the end in its place
pub long : Reads (rows ("ab00 1b prologue" ∷ "ab1a a slot_0" ∷ "ab24 5 slot_10" ∷ "ab29 2 epilogue" ∷ [])) → ⊥
unfolding lines_up_to digit_of
long r =
    let l = laid r (row 0xab00 27 "prologue" ∷ row 0xab1a 10 "slot_0" ∷ row 0xab24 5 "slot_10" ∷ row 0xab29 2 "epilogue" ∷ []) refl in
    omega (arith, l.1.1.0)

pub size-in-decimal : Reads (rows ("ab00 26 prologue" ∷ "ab1a 10 slot_0" ∷ "ab24 5 slot_10" ∷ "ab29 2 epilogue" ∷ [])) → ⊥
unfolding lines_up_to digit_of
size-in-decimal r =
    let l = laid r (row 0xab00 38 "prologue" ∷ row 0xab1a 16 "slot_0" ∷ row 0xab24 5 "slot_10" ∷ row 0xab29 2 "epilogue" ∷ []) refl in
    omega (arith, l.1.1.0)

pub end-for-size : Reads (rows ("ab00 ab1a prologue" ∷ "ab1a ab24 slot_0" ∷ "ab24 ab29 slot_10" ∷ "ab29 ab2b epilogue" ∷ [])) → ⊥
unfolding lines_up_to digit_of
end-for-size r =
    let l = laid r (row 0xab00 0xab1a "prologue" ∷ row 0xab1a 0xab24 "slot_0" ∷ row 0xab24 0xab29 "slot_10" ∷ row 0xab29 0xab2b "epilogue" ∷ []) refl in
    omega (arith, l.1.1.0)

-- places in the page for addresses
pub base-left-out : Reads (rows ("0 1a prologue" ∷ "1a a slot_0" ∷ "24 5 slot_10" ∷ "29 2 epilogue" ∷ [])) → ⊥
unfolding lines_up_to digit_of
base-left-out r =
    let l = laid r (row 0 26 "prologue" ∷ row 0x1a 10 "slot_0" ∷ row 0x24 5 "slot_10" ∷ row 0x29 2 "epilogue" ∷ []) refl in
    omega (arith, l.0)

-- a line for a slot without bytes
pub empty-line : Reads (rows ("ab00 1a prologue" ∷ "ab1a a slot_0" ∷ "ab24 0 slot_2" ∷ "ab24 5 slot_10" ∷ "ab29 2 epilogue" ∷ [])) → ⊥
unfolding lines_up_to digit_of
empty-line r =
    let l = laid r (row 0xab00 26 "prologue" ∷ row 0xab1a 10 "slot_0" ∷ row 0xab24 0 "slot_2" ∷ row 0xab24 5 "slot_10" ∷ row 0xab29 2 "epilogue" ∷ []) refl in
    omega (arith, l.1.1.1.1.1.0)

-- a line left out: the epilogue's, the first, a slot's, and all
pub no-epilogue : Reads (rows ("ab00 1a prologue" ∷ "ab1a a slot_0" ∷ "ab24 5 slot_10" ∷ [])) → ⊥
unfolding lines_up_to digit_of
no-epilogue r =
    let l = laid r (row 0xab00 26 "prologue" ∷ row 0xab1a 10 "slot_0" ∷ row 0xab24 5 "slot_10" ∷ []) refl in
    omega (arith, l.1.1.1.1.1.1)

pub no-prologue : Reads (rows ("ab1a a slot_0" ∷ "ab24 5 slot_10" ∷ "ab29 2 epilogue" ∷ [])) → ⊥
unfolding lines_up_to digit_of
no-prologue r = let l = laid r (row 0xab1a 10 "slot_0" ∷ row 0xab24 5 "slot_10" ∷ row 0xab29 2 "epilogue" ∷ []) refl in omega (arith, l.0)

pub slot-left-out : Reads (rows ("ab00 1a prologue" ∷ "ab1a a slot_0" ∷ "ab29 2 epilogue" ∷ [])) → ⊥
unfolding lines_up_to digit_of
slot-left-out r =
    let l = laid r (row 0xab00 26 "prologue" ∷ row 0xab1a 10 "slot_0" ∷ row 0xab29 2 "epilogue" ∷ []) refl in
    omega (arith, l.1.1.1.1.0)

pub no_lines : Reads [] → ⊥
unfolding lines_up_to
no_lines r = let l = laid r [] refl in omega (arith, l)

-- two lines in the wrong order; one twice
pub exchanged : Reads (rows ("ab00 1a prologue" ∷ "ab24 5 slot_10" ∷ "ab1a a slot_0" ∷ "ab29 2 epilogue" ∷ [])) → ⊥
unfolding lines_up_to digit_of
exchanged r =
    let l = laid r (row 0xab00 26 "prologue" ∷ row 0xab24 5 "slot_10" ∷ row 0xab1a 10 "slot_0" ∷ row 0xab29 2 "epilogue" ∷ []) refl in
    omega (arith, l.1.1.0)

pub twice : Reads (rows ("ab00 1a prologue" ∷ "ab00 1a prologue" ∷ "ab1a a slot_0" ∷ "ab24 5 slot_10" ∷ "ab29 2 epilogue" ∷ [])) → ⊥
unfolding lines_up_to digit_of
twice r =
    let l =
    laid r (row 0xab00 26 "prologue" ∷ row 0xab00 26 "prologue" ∷ row 0xab1a 10 "slot_0" ∷ row 0xab24 5 "slot_10" ∷ row 0xab29 2 "epilogue" ∷ []) refl in
    omega (arith, l.1.1.0)

-- not lines at all: the last without its end; a prefix; two spaces; no name's space; no size
pub unended : Reads (rows ("ab00 1a prologue" ∷ "ab1a a slot_0" ∷ "ab24 5 slot_10" ∷ []) ++ ascii "ab29 2 epilogue") → ⊥
unfolding lines_up_to digit_of
unended r = whole-text r refl

pub prefixed : Reads (rows ("0xab00 0x1a prologue" ∷ "0xab1a 0xa slot_0" ∷ "0xab24 0x5 slot_10" ∷ "0xab29 0x2 epilogue" ∷ [])) → ⊥
unfolding lines_up_to digit_of
prefixed r = whole-text r refl

pub two-spaces : Reads (rows ("ab00  1a prologue" ∷ "ab1a  a slot_0" ∷ "ab24  5 slot_10" ∷ "ab29  2 epilogue" ∷ [])) → ⊥
unfolding lines_up_to digit_of
two-spaces r = whole-text r refl

pub no-sizes : Reads (rows ("ab00 prologue" ∷ "ab1a slot_0" ∷ "ab24 slot_10" ∷ "ab29 epilogue" ∷ [])) → ⊥
unfolding lines_up_to digit_of
no-sizes r = whole-text r refl

-- A slot's name: its number in hexadecimal; how many blocks are ahead of it; another slot's. The byte is the first of slot 10.
of-ten : From toy page 36 (slot 10)
of-ten =
    of_slot 10 36 (record { code = code 5; wide = false })
    (record { ahead = record { code = code 10; wide = true } ∷ none ∷ none ∷ none ∷ none ∷ []; behind = []; split = refl; number = refl; place = refl })
    (omega arith) (omega arith)

misnamed : (name : List ℕ) {text : List ℕ} → Reads text
    → read_map text
    ≡ all
    (row 0xab00 26 "prologue" ∷ row 0xab1a 10 "slot_0" ∷ record { start = 0xab24; size = 5; name = name } ∷ row 0xab29 2 "epilogue" ∷ [])
    → name ≡ ascii "slot_10"
unfolding decimal
misnamed name r e =
    named r (row 0xab00 26 "prologue" ∷ row 0xab1a 10 "slot_0" ∷ record { start = 0xab24; size = 5; name = name } ∷ row 0xab29 2 "epilogue" ∷ []) e
    36 (slot 10) name of-ten
    (record {
      ahead = row 0xab00 26 "prologue" ∷ row 0xab1a 10 "slot_0" ∷ [];
      symbol = record { start = 0xab24; size = 5; name = name };
      behind = row 0xab29 2 "epilogue" ∷ [];
      split = refl;
      from = omega arith;
      to = omega arith;
      named = refl;
    })

pub slot-in-hexadecimal : Reads (rows ("ab00 1a prologue" ∷ "ab1a a slot_0" ∷ "ab24 5 slot_a" ∷ "ab29 2 epilogue" ∷ [])) → ⊥
unfolding lines_up_to digit_of
slot-in-hexadecimal r = omega (arith, ap (λ (t : List ℕ). get_or t 5 0) (misnamed (ascii "slot_a") r refl))

pub block-for-slot : Reads (rows ("ab00 1a prologue" ∷ "ab1a a slot_0" ∷ "ab24 5 slot_5" ∷ "ab29 2 epilogue" ∷ [])) → ⊥
unfolding lines_up_to digit_of
block-for-slot r = omega (arith, ap (λ (t : List ℕ). get_or t 5 0) (misnamed (ascii "slot_5") r refl))

pub next-slot : Reads (rows ("ab00 1a prologue" ∷ "ab1a a slot_0" ∷ "ab24 5 slot_11" ∷ "ab29 2 epilogue" ∷ [])) → ⊥
unfolding lines_up_to digit_of
next-slot r = omega (arith, ap (λ (t : List ℕ). get_or t 6 0) (misnamed (ascii "slot_11") r refl))

pub space-at-the-end : Reads (rows ("ab00 1a prologue" ∷ "ab1a a slot_0" ∷ "ab24 5 slot_10 " ∷ "ab29 2 epilogue" ∷ [])) → ⊥
unfolding lines_up_to digit_of
space-at-the-end r = omega (arith, ap (λ (t : List ℕ). length t) (misnamed (ascii "slot_10 ") r refl))

-- What tells perf the same is not the text either: a leading zero; a capital digit; a piece in two lines. `ReadBack` lets these pass, and
-- the equation with `text_of` does not.
abbrev zeros : List ℕ
zeros = rows ("ab00 1a prologue" ∷ "ab1a 0a slot_0" ∷ "ab24 5 slot_10" ∷ "ab29 2 epilogue" ∷ [])

abbrev capitals : List ℕ
capitals = rows ("AB00 1A prologue" ∷ "AB1A A slot_0" ∷ "AB24 5 slot_10" ∷ "AB29 2 epilogue" ∷ [])

abbrev halves : List ℕ
halves = rows ("ab00 1a prologue" ∷ "ab1a 5 slot_0" ∷ "ab1f 5 slot_0" ∷ "ab24 5 slot_10" ∷ "ab29 2 epilogue" ∷ [])

pub read_alike : (read_map zeros ≡ read_map (text_of (lines_of toy 0xab00 page))) × (read_map capitals ≡ read_map (text_of (lines_of toy 0xab00 page)))
unfolding lines_up_to digit_of hex decimal
read_alike = (refl, refl)

-- a line of some lines, or of those behind the first
data Either (s : Symbol) (ss : List Symbol) (address : ℕ) (x : List ℕ) : Type 0 where
  here : Covers s address → s.name ≡ x → Either s ss address x
  later : Shows ss address x → Either s ss address x

either : {s : Symbol} {ss : List Symbol} {address : ℕ} {x : List ℕ} → Shows (s ∷ ss) address x → Either s ss address x
either {s} {ss} {address} {x} h = by h.ahead h.split
  where
    by : (a : List Symbol) → s ∷ ss ≡ a ++ h.symbol ∷ h.behind → Either s ss address x
    by [] e = let f : s ≡ h.symbol = cc in here (rw f (record { from = h.from; to = h.to })) (rw f h.named)
    by (c ∷ a) e =
        let f : ss ≡ a ++ h.symbol ∷ h.behind = cc in
        later (record { ahead = a; symbol = h.symbol; behind = h.behind; split = f; from = h.from; to = h.to; named = h.named })

alone : (s : Symbol) (ss : List Symbol) {address : ℕ} {x : List ℕ} → Covers s address → s.name ≡ x → Shows (s ∷ ss) address x
alone s ss c e = record { ahead = []; symbol = s; behind = ss; split = refl; from = c.from; to = c.to; named = e }

-- two lines of one name show what one does
in_two : (start a b : ℕ) (name : List ℕ) (ss : List Symbol) {address : ℕ} {x : List ℕ}
    → Shows (record { start = start; size = a + b; name = name } ∷ ss) address x
    → Shows (record { start = start; size = a; name = name } ∷ record { start = start + a; size = b; name = name } ∷ ss) address x
in_two start a b name ss {address} {x} h = by (either h)
  where
    first : Symbol
    first = record { start = start; size = a; name = name }

    second : Symbol
    second = record { start = start + a; size = b; name = name }

    by : Either (record { start = start; size = a + b; name = name }) ss address x → Shows (first ∷ second ∷ ss) address x
    by (later s) = shows-behind (first ∷ second ∷ []) ss s
    by (here c e) = go (ltb address (start + a)) refl
      where
        go : (t : Bool) → ltb address (start + a) ≡ t → Shows (first ∷ second ∷ ss) address x
        go true t = alone first (second ∷ ss) (record { from = c.from; to = ltb-true address (start + a) t }) e
        go false t =
            shows-behind (first ∷ []) (second ∷ ss)
            (alone second ss (record { from = ltb-false address (start + a) t; to = omega (arith, c.to) }) e)

pub halves-read : Reads halves
unfolding lines_up_to digit_of hex decimal
halves-read =
    record {
      symbols = prologue ∷ row 0xab1a 5 "slot_0" ∷ row 0xab1f 5 "slot_0" ∷ others;
      read = refl;
      tiles =
          next prologue (row 0xab1a 5 "slot_0" ∷ row 0xab1f 5 "slot_0" ∷ others) (omega arith)
          (next (row 0xab1a 5 "slot_0") (row 0xab1f 5 "slot_0" ∷ others) (omega arith)
          (next (row 0xab1f 5 "slot_0") others (omega arith)
          (next (row 0xab24 5 "slot_10") (row 0xab29 2 "epilogue" ∷ []) (omega arith) (next (row 0xab29 2 "epilogue") [] (omega arith) done))));
      every = every_byte toy page;
      names = λ p piece f. by (either (names-piece toy 0xab00 page p piece f));
    }
  where
    prologue : Symbol
    prologue = row 0xab00 26 "prologue"

    others : List Symbol
    others = row 0xab24 5 "slot_10" ∷ row 0xab29 2 "epilogue" ∷ []

    by : {address : ℕ} {x : List ℕ} → Either prologue (row 0xab1a 10 "slot_0" ∷ others) address x
        → Shows (prologue ∷ row 0xab1a 5 "slot_0" ∷ row 0xab1f 5 "slot_0" ∷ others) address x
    by (here c e) = alone prologue (row 0xab1a 5 "slot_0" ∷ row 0xab1f 5 "slot_0" ∷ others) c e
    by (later s) = shows-behind (prologue ∷ []) (row 0xab1a 5 "slot_0" ∷ row 0xab1f 5 "slot_0" ∷ others) (in_two 0xab1a 5 5 (ascii "slot_0") others s)

pub leading-zero : text_of (lines_of toy 0xab00 page) ≡ zeros → ⊥
unfolding hex decimal
leading-zero e = omega (arith, ap (λ (t : List ℕ). length t) e)

pub capital-digit : text_of (lines_of toy 0xab00 page) ≡ capitals → ⊥
unfolding hex decimal
capital-digit e = omega (arith, ap (λ (t : List ℕ). get_or t 0 0) e)

pub in-two-lines : text_of (lines_of toy 0xab00 page) ≡ halves → ⊥
unfolding hex decimal
in-two-lines e = omega (arith, ap (λ (t : List ℕ). length t) e)

-- The names of two slots, and the bound: an address of more than 64 bits would be cut.
pub ten-in-hexadecimal : name_of (slot 10) ≡ ascii "slot_a" → ⊥
unfolding decimal
ten-in-hexadecimal e = omega (arith, ap (λ (t : List ℕ). length t) e)

pub too-high : ReadBack toy (2 ^ 64) page (text_of (lines_of toy (2 ^ 64) page)) → ⊥
unfolding lines_up_to digit_of hex decimal
too-high r =
    let l = laid r (row 0 26 "prologue" ∷ row 26 10 "slot_0" ∷ row 36 5 "slot_10" ∷ row 41 2 "epilogue" ∷ []) refl in
    omega (arith, l.0)
