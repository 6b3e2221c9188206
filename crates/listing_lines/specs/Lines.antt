-- The line of a slot in the listing of a refused program.
use Rattle.std.specs.Prelude.{List, [], ◌∷◌, ◌++◌, ℕ, ◌-◌, length, replicate}
use Rattle.text.specs.Text.{ascii}
use Rattle.text.specs.Forms.{formed}
use Rattle.ebpf_text.specs.Assembler.{slot_text}

-- its number, and from this column on its bytecode
abbrev pub bytecode_column : ℕ
bytecode_column = 22

unfoldable pub number_text : ℕ → List ℕ
number_text slot = formed (ascii "slot #") (slot ∷ [])

-- the spaces in front of the bytecode, the bytecode, a newline
unfoldable pub bytecode_line : List ℕ → ℕ → List ℕ
bytecode_line prog slot =
    number_text slot ++ (replicate (bytecode_column - length (number_text slot)) 0x20 ++ (slot_text prog slot ++ (0x0a ∷ [])))
