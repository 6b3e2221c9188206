-- No line of a map has more than `longest_line` bytes (specs/Room.antt), and there is one at most for each slot, the prologue and the epilogue.
use mathlib.Core.Path.{◌≡◌, ap}
use mathlib.Core.List.{List, [], ◌∷◌, ◌++◌}
use Prim.Native.Nat.{ℕ, zero, suc, ◌+◌, ◌*◌, ◌≤◌, ◌<◌, ◌^◌}
use native.Mathlib.Omega.{arith}
use lib.ListN.{length, length-append}
use Rattle.code.specs.declared.Piece.{Piece}
use Rattle.code.specs.declared.Piece.TheVariants.{Prologue, Epilogue}
use Rattle.code.specs.Lines.{line, slot, slot_lines}
use Rattle.text.proofs.NumeralLaws.{few-hex, few-decimal, hex-most}
use Rattle.map.specs.MapText.{name_of, text_of}
use Rattle.map.proofs.LineLaws.{line-long}
use Rattle.x86.specs.Encode.{isa}
use Rattle.x86.specs.Code.{size}
use Rattle.jit.specs.Limits.{longest_program}
use Rattle.jit.specs.Room.{longest_prologue, epilogue_size}
use Rattle.jit.specs.JumpTables.{blocks_in}
use Rattle.jit.specs.Passes.{walk_from}
use Rattle.jit.specs.Translation.{Filter, Block, done, slots_of, slots_wide, slots_in, flat}
use Rattle.jit.proofs.Bounds.{Sounds, rest-good, sounds-inside, wide-some}
use Rattle.jit_mapping.specs.Room.{longest_line, map_room}
use Rattle.jit_mapping.specs.Walked.{walk_lines}
use Rattle.jit_mapping.proofs.RowsLaws.{text-append}

-- a line of a piece that is short, and has a short name
pub line-most : (start bytes : ℕ) (piece : Piece) → bytes < 16 ^ 2 → length (name_of piece) ≤ 9 → length (text_of (line start bytes piece)) ≤ longest_line
line-most start zero piece h g = omega arith
line-most start (suc more) piece h g =
    omega (arith, line-long start (suc more) piece (λ e. omega (arith, e)), hex-most start, few-hex 1 (suc more) h, g)

slot-name : (k : ℕ) → k < 10 ^ 4 → length (name_of (slot k)) ≤ 9
slot-name k h = omega (arith, few-decimal 3 k h)

slots-most : (program : List ℕ) (start number : ℕ) (bs : List Block) → Sounds program number bs → number + slots_in bs ≤ 10 ^ 4
    → length (text_of (slot_lines isa start number bs)) ≤ longest_line * slots_in bs
slots-most program start number [] s h = omega arith
slots-most program start number (b ∷ bs) s h =
    let here = line start (size b.code) (slot number) in
    let rest = slot_lines isa (start + size b.code) (number + slots_wide b.wide) bs in
    let some = wide-some b.wide in
    omega (
      arith,
      ap length (text-append here rest),
      length-append (text_of here) (text_of rest),
      line-most start (size b.code) (slot number) (omega (arith, s.0.short)) (slot-name number (omega (arith, h, some))),
      slots-most program (start + size b.code) (number + slots_wide b.wide) bs s.1 (omega (arith, h)),
      some,
    )

lines-most : (program : List ℕ) (base start : ℕ) (bs : List Block) → Sounds program 0 bs → length program ≤ longest_program → start ≤ longest_prologue
    → length (text_of (walk_lines base start bs)) ≤ map_room (slots_of program)
lines-most program base start bs s h g =
    let first = line base start Prologue in
    let slots = slot_lines isa (base + start) 0 bs in
    let last = line (base + (start + size (flat bs))) epilogue_size Epilogue in
    let inside = sounds-inside program 0 bs s (omega arith) in
    omega (
      arith,
      ap length (text-append first (slots ++ last)),
      length-append (text_of first) (text_of (slots ++ last)),
      ap length (text-append slots last),
      length-append (text_of slots) (text_of last),
      line-most base start Prologue (omega (arith, g)) (omega arith),
      line-most (base + (start + size (flat bs))) epilogue_size Epilogue (omega arith) (omega arith),
      slots-most program (base + start) 0 bs s (omega (arith, inside, h)),
      inside,
    )

-- and so of every walk that is done
pub walk-most : (filter : Filter) (page start base : ℕ) {bs : List Block} → walk_from filter page start ≡ done bs
    → length filter.program ≤ longest_program → start ≤ longest_prologue
    → length (text_of (walk_lines base start (blocks_in (walk_from filter page start)))) ≤ map_room (slots_of filter.program)
walk-most filter page start base {bs} e h g =
    rw e (lines-most filter.program base start bs (rw e at (rest-good filter page (suc (slots_of filter.program)) 0 start)) h g)
