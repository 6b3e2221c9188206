-- What perf reads in the text of lines: those lines.
use mathlib.Core.Path.{◌≡◌, ◌∙◌, refl, ap}
use mathlib.Core.Bool.{false}
use mathlib.Core.List.{List, [], ◌∷◌, ◌++◌, append_assoc}
use Prim.Native.Nat.{ℕ, zero, suc, ◌+◌, ◌*◌, ◌≤◌, ◌<◌, ◌^◌}
use native.Mathlib.Omega.{arith}
use lib.Dec.{eqb}
use lib.ListN.{length, length-append}
use borrow.Author.Tests.{lt-ltb}
use Rattle.base.proofs.Tests.{eqb-false}
use Rattle.code.specs.declared.Piece.{Piece}
use Rattle.code.specs.declared.Piece.TheVariants.{Prologue, Slot, Epilogue}
use Rattle.code.specs.Lines.{Line}
use Rattle.text.specs.Numerals.{decimal, hex, digit_of}
use Rattle.text.proofs.NumeralLaws.{read_from, read, Digits, hex-back, hex-digits, hex-some, decimal-digits}
use Rattle.map.specs.Perf.{space, newline, Symbol, took, digits_from, number, rest_of_line, symbol_in, Reading, all, onward, more, lines_up_to, read_map}
use Rattle.map.specs.MapText.{name_of, line_text, text_of}

-- A number ends at the space behind it.
digit-space : digit_of space ≡ 16
unfolding digit_of
digit-space = refl

digits-all : (n : ℕ) (cs r : List ℕ) → Digits 16 cs → digits_from n (cs ++ space ∷ r) ≡ took (read_from 16 n cs) (space ∷ r)
digits-all n [] r h = rw digit-space refl
digits-all n (c ∷ cs) r h = rw (lt-ltb (digit_of c) 16 h.0) (digits-all (n * 16 + digit_of c) cs r h.1)

number-all : (cs r : List ℕ) → 1 ≤ length cs → Digits 16 cs → number (cs ++ space ∷ r) ≡ took (read 16 cs) (space ∷ r)
number-all [] r s h = absurd (omega (arith, s))
number-all (c ∷ cs) r s h =
    let z : 0 * 16 + digit_of c ≡ digit_of c = omega arith in
    rw (lt-ltb (digit_of c) 16 h.0, z) (digits-all (digit_of c) cs r h.1)

pub number-hex : (n : ℕ) (r : List ℕ) → n < 2 ^ 64 → number (hex n ++ space ∷ r) ≡ took n (space ∷ r)
number-hex n r h = number-all (hex n) r (hex-some n) (hex-digits n) ∙ rw (hex-back n h)

-- A name without a line's end stands up to the line's end.
abbrev pub Unbroken : List ℕ → Type 0
Unbroken [] = Unit {0}
Unbroken (c ∷ cs) = (eqb c newline ≡ false) × Unbroken cs

pub rest_all : (cs r : List ℕ) → Unbroken cs → rest_of_line (cs ++ newline ∷ r) ≡ took cs r
rest_all [] r h = refl
rest_all (c ∷ cs) r h = rw (h.0, rest_all cs r h.1)

digit-newline : digit_of newline ≡ 16
unfolding digit_of
digit-newline = refl

unbroken-digits : (cs : List ℕ) → Digits 10 cs → Unbroken cs
unbroken-digits [] h = tt
unbroken-digits (c ∷ cs) h = (eqb-false c newline (λ e. omega (arith, h.0, ap digit_of e, digit-newline)), unbroken-digits cs h.1)

pub unbroken-name : (p : Piece) → Unbroken (name_of p)
unbroken-name Prologue = (refl, (refl, (refl, (refl, (refl, (refl, (refl, (refl, tt))))))))
unbroken-name Epilogue = (refl, (refl, (refl, (refl, (refl, (refl, (refl, (refl, tt))))))))
unbroken-name (Slot s) = (refl, (refl, (refl, (refl, (refl, unbroken-digits (decimal s.number) (decimal-digits s.number))))))

-- A line, and all of them.
abbrev pub symbol_of : Line → Symbol
symbol_of l = record { start = l.start; size = l.bytes; name = name_of l.piece }

abbrev pub symbols_of : List Line → List Symbol
symbols_of [] = []
symbols_of (l ∷ ls) = symbol_of l ∷ symbols_of ls

abbrev pub Fit : List Line → Type 0
Fit [] = Unit {0}
Fit (l ∷ ls) = ((l.start < 2 ^ 64) × (l.bytes < 2 ^ 64)) × Fit ls

line-then : (a b name r : List ℕ)
    → (a ++ (space ∷ b ++ (space ∷ name ++ (newline ∷ [])))) ++ r ≡ a ++ (space ∷ (b ++ (space ∷ (name ++ (newline ∷ r)))))
line-then a b name r = simp append_assoc

pub line_read : (l : Line) (r : List ℕ) → l.start < 2 ^ 64 → l.bytes < 2 ^ 64 → symbol_in (line_text l ++ r) ≡ took (symbol_of l) r
line_read l r s b =
    rw (
      line-then (hex l.start) (hex l.bytes) (name_of l.piece) r,
      number-hex l.start (hex l.bytes ++ (space ∷ (name_of l.piece ++ (newline ∷ r)))) s,
      number-hex l.bytes (name_of l.piece ++ (newline ∷ r)) b,
      rest_all (name_of l.piece) r (unbroken-name l.piece),
    )

line-some : (l : Line) (r : List ℕ) → 1 + length r ≤ length (line_text l ++ r)
line-some l r =
    omega (
      arith,
      length-append (line_text l) r,
      hex-some l.start,
      length-append (hex l.start) (space ∷ hex l.bytes ++ (space ∷ name_of l.piece ++ (newline ∷ []))),
    )

more-some : (text : List ℕ) (k : List ℕ → Reading) → 1 ≤ length text → more text k ≡ onward (symbol_in text) k
more-some [] k h = absurd (omega (arith, h))
more-some (c ∷ cs) k h = refl

pub lines-read : (ls : List Line) (most : ℕ) → length ls ≤ most → Fit ls → lines_up_to most (text_of ls) ≡ all (symbols_of ls)
unfolding lines_up_to
lines-read [] zero h f = refl
lines-read [] (suc most) h f = refl
lines-read (l ∷ ls) zero h f = absurd (omega (arith, h))
lines-read (l ∷ ls) (suc most) h f =
    more-some (line_text l ++ text_of ls) (λ t. lines_up_to most t) (omega (arith, line-some l (text_of ls)))
    ∙ rw (line_read l (text_of ls) f.0.0 f.0.1, lines-read ls most (omega arith) f.1)

lines-few : (ls : List Line) → length ls ≤ length (text_of ls)
lines-few [] = omega arith
lines-few (l ∷ ls) = omega (arith, lines-few ls, line-some l (text_of ls))

pub map_read : (ls : List Line) → Fit ls → read_map (text_of ls) ≡ all (symbols_of ls)
map_read ls f = lines-read ls (length (text_of ls)) (lines-few ls) f
