use lib.ListN.{length-take}
use native.Mathlib.Omega.{arith}
use borrow.Author.Rules.{rules}
use Rattle.program_maps.proofs.show_map.Goals as goal

pub slice_bounds-translate_mapped-end : goal.slice_bounds-translate_mapped-end
slice_bounds-translate_mapped-end c = simp length-take (omega arith)
