-- What the two further jump tables hold, kinds and makers: where a translation is accepted, those of its page; where it is refused, nothing.
-- The code, the locations, the fields and the targets are `translation_of`'s, which knows nothing of these.
use Rattle.std.specs.Prelude.{List, [], ℕ}
use Rattle.code.specs.Page.{Page}
pub use Rattle.code.specs.Jumps.{made_from, kind_table, maker_table}
use Rattle.x86.specs.Instr.{Plain, Jump}
use Rattle.x86.specs.Encode.{isa}
use Rattle.jit.specs.Translation.{Inputs, Block, Walk, refused, done, walk_of, page_of, Outcome, no, yes}

-- the page that is asked for: the prologue, the code of each slot, the epilogue
abbrev pub blocks_in : Walk → List Block
blocks_in (refused r) = []
blocks_in (done bs) = bs

abbrev pub blocks_of : Inputs → List Block
blocks_of x = blocks_in (walk_of x)

abbrev pub page_for : Inputs → Page Plain Jump
page_for x = page_of x.flags (blocks_of x)

abbrev pub kinds_in : Inputs → Outcome → List ℕ
kinds_in x (no r) = []
kinds_in x (yes c l f t) = kind_table isa (page_for x)

abbrev pub makers_in : Inputs → Outcome → List ℕ
makers_in x (no r) = []
makers_in x (yes c l f t) = maker_table (page_for x)
