-- The report of a replay, as text: a line for each of the totals, an empty line, and a table with a row for each slot that begins an
-- instruction: its number, how often it ran, and its assembler text. Both numbers end where all of their column do.
use Rattle.std.specs.Prelude.{Bool, true, false, List, [], ◌∷◌, ◌++◌, ℕ, zero, suc, ◌-◌, ◌≤◌, max, length, get_or, replicate}
use Rattle.base.specs.Pick.{pick}
use Rattle.ebpf_text.specs.Assembler.{slot_text}
use Rattle.jit.specs.Translation.{slots_of}
use Rattle.replay.specs.declared.Totals.{Totals}
use Rattle.replay.specs.Run.{is_second}
use Rattle.text.specs.Text.{ascii}
use Rattle.text.specs.Forms.{formed}
use Rattle.text.specs.Numerals.{decimal, most_digits}
use Rattle.replay_text.specs.declared.report.Columns.{Columns}

abbrev newline : List ℕ
newline = 0x0a ∷ []

unfoldable pub totals_text : Totals → List ℕ
totals_text t =
    formed
    ((ascii "packets #" ++ newline)
    ++ ((ascii "kept #" ++ newline)
    ++ ((ascii "dropped #" ++ newline)
    ++ ((ascii "stopped by the step limit #" ++ newline)
    ++ ((ascii "stopped by an access #" ++ newline) ++ ((ascii "stopped at no slot #" ++ newline) ++ newline))))))
    (t.packets ∷ t.kept ∷ t.dropped ∷ t.step_limit ∷ t.access ∷ t.no_slot ∷ [])

-- a number with spaces in front of it, up to a width
unfoldable pub right_text : (width n : ℕ) → List ℕ
right_text width n = replicate (width - length (decimal n)) 0x20 ++ decimal n

unfoldable pub row_text : (prog : List ℕ) → Columns → (slot count : ℕ) → List ℕ
row_text prog c slot count =
    right_text c.slot slot ++ (ascii "  " ++ (right_text c.count count ++ (ascii "  " ++ (slot_text prog slot ++ newline))))

-- a column is as wide as the widest of its numbers, and no wider than a number can be
abbrev pub largest_of : List ℕ → ℕ
largest_of [] = 0
largest_of (c ∷ cs) = max c (largest_of cs)

abbrev pub columns_of : (prog counts : List ℕ) → Columns
columns_of prog counts = record { slot = length (decimal (slots_of prog - 1)); count = length (decimal (largest_of counts)) }

abbrev pub Narrow : Columns → Type 0
Narrow c = (c.slot ≤ most_digits) × (c.count ≤ most_digits)

-- the second half of a wide load has no row
unfoldable pub row_unless : (prog : List ℕ) → Columns → (counts : List ℕ) → (slot : ℕ) → (second : Bool) → List ℕ
row_unless prog c counts slot second = pick second [] (row_text prog c slot (get_or counts slot 0))

-- the rows of n slots from one on
abbrev pub rows_from : (n : ℕ) → (prog : List ℕ) → Columns → (counts : List ℕ) → (slot : ℕ) → List ℕ
rows_from zero prog c counts slot = []
rows_from (suc n) prog c counts slot = row_unless prog c counts slot (is_second prog slot) ++ rows_from n prog c counts (suc slot)

unfoldable pub table_text : (prog counts : List ℕ) → List ℕ
table_text prog counts = rows_from (slots_of prog) prog (columns_of prog counts) counts 0

abbrev pub report_text : (prog : List ℕ) → Totals → (counts : List ℕ) → List ℕ
report_text prog totals counts = totals_text totals ++ table_text prog counts
