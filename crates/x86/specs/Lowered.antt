-- x86-64 code with its distances, its bytes and its fields: crate code's, of this processor.
use Rattle.std.specs.Prelude.{List, ℕ}
use Rattle.code.specs.Code as code
use Rattle.code.specs.Instr.{Dest}
use Rattle.x86.specs.Instr.{Instr}
use Rattle.x86.specs.Encode.{isa}

abbrev pub lower : (ℕ → ℕ) → ℕ → Instr Dest → Instr ℕ
lower = code.lower isa

abbrev pub lowered : (ℕ → ℕ) → ℕ → List (Instr Dest) → List (Instr ℕ)
lowered = code.lowered isa

abbrev pub bytes : List (Instr ℕ) → List ℕ
bytes = code.bytes isa

abbrev pub code_of : (ℕ → ℕ) → List (Instr Dest) → List ℕ
code_of = code.code_of isa

abbrev pub fields_of : ℕ → List (Instr Dest) → List ℕ
fields_of = code.fields_of isa
