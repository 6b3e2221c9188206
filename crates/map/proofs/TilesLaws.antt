-- The lines of a page lie end to end, from its base to its end.
use mathlib.Core.Path.{◌≡◌, refl}
use mathlib.Core.List.{List, [], ◌∷◌, ◌++◌}
use Prim.Native.Nat.{ℕ, zero, suc, ◌+◌, ◌≤◌, ◌<◌, ◌^◌}
use native.Mathlib.Nat.{add-zero}
use native.Mathlib.Omega.{arith}
use Rattle.code.specs.declared.Piece.{Piece}
use Rattle.code.specs.declared.Piece.TheVariants.{Prologue, Epilogue}
use Rattle.code.specs.Instr.{Isa}
use Rattle.code.specs.Code.{size}
use Rattle.code.specs.Page.{Block, Page, slots_wide, flat, exit_of, whole}
use Rattle.code.specs.Lines.{Line, line, slot, slot_lines, lines_of}
use Rattle.code.proofs.CodeLaws.{size-append}
use Rattle.code.proofs.PageLaws.{whole-size}
use Rattle.map.specs.Perf.{Symbol}
use Rattle.map.specs.ReadBack.{Tiles, done, next}
use Rattle.map.proofs.PerfLaws.{symbols_of, Fit}

pub symbols-append : (a b : List Line) → symbols_of (a ++ b) ≡ symbols_of a ++ symbols_of b
symbols-append [] b = refl
symbols-append (l ∷ a) b = rw (symbols-append a b)

pub tiles-append : {to mid from : ℕ} {a b : List Symbol} → Tiles mid from a → Tiles to mid b → Tiles to from (a ++ b)
tiles-append done q = q
tiles-append {b = b} (next s ss h t) q = next s (ss ++ b) h (tiles-append t q)

pub tiles-most : {to from : ℕ} {ss : List Symbol} → Tiles to from ss → from ≤ to
tiles-most done = omega arith
tiles-most (next s ss h t) = omega (arith, tiles-most t)

-- what lies below 2 ^ 64 has numbers below it
pub tiles-fit : (to from : ℕ) (ls : List Line) → to < 2 ^ 64 → Tiles to from (symbols_of ls) → Fit ls
tiles-fit to from [] h t = tt
tiles-fit to from (l ∷ ls) h (next s ss p t) = let k = tiles-most t in ((omega arith, omega arith), tiles-fit to (l.start + l.bytes) ls h t)

pub tiles-line : (start bytes : ℕ) (p : Piece) → Tiles (start + bytes) start (symbols_of (line start bytes p))
tiles-line start zero p = rw (add-zero start) done
tiles-line start (suc more) p = next (record { start = start; size = suc more; name = _ }) [] (omega arith) done

module _ {P J : Type 0} (m : Isa P J) where
  pub tiles-slots : (start number : ℕ) (bs : List (Block P J)) → Tiles (start + size m (flat bs)) start (symbols_of (slot_lines m start number bs))
  tiles-slots start number [] = rw (add-zero start) done
  tiles-slots start number (b ∷ bs) =
      let n = size m b.code in
      let e : start + size m (b.code ++ flat bs) ≡ start + n + size m (flat bs) = rw (size-append m b.code (flat bs)) (omega arith) in
      rw (symbols-append (line start n (slot number)) (slot_lines m (start + n) (number + slots_wide b.wide) bs), e)
      (tiles-append (tiles-line start n (slot number)) (tiles-slots (start + n) (number + slots_wide b.wide) bs))

  pub tiles-page : (base : ℕ) (g : Page P J) → Tiles (base + size m (whole g)) base (symbols_of (lines_of m base g))
  tiles-page base g =
      let a = line base (size m g.prologue) Prologue in
      let b = slot_lines m (base + size m g.prologue) 0 g.blocks in
      let c = line (base + exit_of m g) (size m g.epilogue) Epilogue in
      let e : base + size m (whole g) ≡ base + exit_of m g + size m g.epilogue = rw (whole-size m g) (omega arith) in
      let f : base + size m g.prologue + size m (flat g.blocks) ≡ base + exit_of m g = omega arith in
      rw (symbols-append a (b ++ c), symbols-append b c, e)
      (tiles-append (tiles-line base (size m g.prologue) Prologue)
      (tiles-append (rw f at (tiles-slots (base + size m g.prologue) 0 g.blocks)) (tiles-line (base + exit_of m g) (size m g.epilogue) Epilogue)))
