use Prim.Native.Nat.{ℕ}
use mathlib.Core.Path.{sym}
use lib.ListN.{length-replicate}
use Rattle.program_replay.proofs.space.for_window.Goals as goal

-- The array is not written out: the law of a repeat gives its length.

pub returns : goal.returns
returns c = sym (length-replicate {0} {A = ℕ} 1048576 0)
