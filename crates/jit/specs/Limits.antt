-- The limits, each a number here and, for the code, in src/lib.rt, and by its name everywhere else. The contracts speak of these names, so
-- another limit there is refused.
use Rattle.std.specs.Prelude.{ℕ, ◌*◌}
-- the target of a jump to the exit
pub use Rattle.code.specs.Page.{anchor}

-- the code buffer, in bytes
abbrev pub shortest_page : ℕ
shortest_page = 4096

abbrev pub longest_page : ℕ
longest_page = 131072

-- the program, in slots of eight bytes
abbrev pub most_slots : ℕ
most_slots = 2048

abbrev pub longest_program : ℕ
longest_program = 8 * most_slots

abbrev pub most_helpers : ℕ
most_helpers = 256
