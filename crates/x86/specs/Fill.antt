-- x86-64 code with blank fields, and the filling of them: crate code's, of this processor.
use Rattle.std.specs.Prelude.{List, ℕ}
use Rattle.code.specs.Fill as code
pub use Rattle.code.specs.Fill.{blank, value_at}
use Rattle.code.specs.Instr.{Dest}
use Rattle.x86.specs.Instr.{Instr}
use Rattle.x86.specs.Encode.{isa}

abbrev pub blanks : List (Instr Dest) → List ℕ
blanks = code.blanks isa

abbrev pub filled : (ℕ → ℕ) → List ℕ → List ℕ → List ℕ → List ℕ
filled = code.filled isa
