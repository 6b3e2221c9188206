-- How much is lent for a case, how much an answer has at most and how long a case's program may be, as src/limits.rt has them.
use Rattle.std.specs.Prelude.{ℕ, ◌+◌, ◌*◌}
use Rattle.jit.specs.Limits.{longest_page}

abbrev pub lent_page : ℕ
lent_page = longest_page + 1

abbrev pub lent_table : ℕ
lent_table = 4096

abbrev pub longest_answer : ℕ
longest_answer = 17 + lent_page + 20 * lent_table

abbrev pub longest_of_case : ℕ
longest_of_case = 32768
