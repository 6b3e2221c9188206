-- Code of x86-64 instructions whose jumps carry destinations: crate code's, of this processor.
use Rattle.std.specs.Prelude.{List, ℕ}
use Rattle.code.specs.Code as code
use Rattle.code.specs.Jumps as jumps
pub use Rattle.code.specs.Instr.{Dest, near, to}
pub use Rattle.code.specs.Jumps.{each, conditional, plain_jump, local_call}
pub use Rattle.code.specs.Code.{map_i, field, dest_target, dest_field, target, place, targets_of}
use Rattle.x86.specs.Instr.{Instr}
use Rattle.x86.specs.Encode.{isa}

abbrev pub size : List (Instr Dest) → ℕ
size = code.size isa

abbrev pub kinds_of : List (Instr Dest) → List ℕ
kinds_of = jumps.kinds_of isa
