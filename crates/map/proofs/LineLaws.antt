-- What the functions of src/line.rt count on: a line's text, field by field.
use mathlib.Core.Path.{◌≡◌, ◌∙◌, refl, ap}
use mathlib.Core.List.{List, [], ◌∷◌, ◌++◌, append-nil}
use Prim.Native.Nat.{ℕ, zero, suc, ◌+◌, ◌≤◌}
use native.Mathlib.Omega.{arith}
use lib.ListN.{length, length-append}
use Rattle.code.specs.declared.Piece.{Piece}
use Rattle.code.specs.Lines.{line}
use Rattle.text.specs.Numerals.{hex}
use Rattle.text.specs.Text.{Says}
use Rattle.text.proofs.SaysLaws.{kept}
use Rattle.map.specs.Perf.{space, newline}
use Rattle.map.specs.MapText.{name_of, line_text, text_of}

-- a piece that has bytes has one line
pub some-line : (start bytes : ℕ) (piece : Piece) → ¬ (bytes ≡ 0)
    → text_of (line start bytes piece) ≡ line_text (record { start = start; bytes = bytes; piece = piece })
some-line start zero piece f = absurd (f refl)
some-line start (suc more) piece f = append-nil (line_text (record { start = start; bytes = suc more; piece = piece }))

pub no_line : (start bytes : ℕ) (piece : Piece) → bytes ≡ 0 → text_of (line start bytes piece) ≡ []
no_line start zero piece e = refl
no_line start (suc more) piece e = absurd (omega (arith, e))

-- how long it is
pub line-long : (start bytes : ℕ) (piece : Piece) → ¬ (bytes ≡ 0)
    → length (text_of (line start bytes piece)) ≡ length (hex start) + length (hex bytes) + length (name_of piece) + 3
line-long start bytes piece f =
    ap length (some-line start bytes piece f)
    ∙ omega (
      arith,
      length-append (hex start) (space ∷ hex bytes ++ (space ∷ name_of piece ++ (newline ∷ []))),
      length-append (hex bytes) (space ∷ name_of piece ++ (newline ∷ [])),
      length-append (name_of piece) (newline ∷ []),
    )

-- behind what finds room, room is left for what comes then
pub after : {l l' : List ℕ} {at r : ℕ} {ys : List ℕ} (more : ℕ) → Says l l' at r ys → at + (length ys + more) ≤ length l → r + more ≤ length l'
after {l} {l'} {at} {r} {ys} more p h = omega (arith, p.next, kept p)

-- what a line takes, field by field
pub line-room : (start bytes : ℕ) (piece : Piece) (at : ℕ) {n : ℕ} → ¬ (bytes ≡ 0) → at + length (text_of (line start bytes piece)) ≤ n
    → at + (length (hex start) + (1 + (length (hex bytes) + (1 + (length (name_of piece) + 1))))) ≤ n
line-room start bytes piece at f h = omega (arith, line-long start bytes piece f)
