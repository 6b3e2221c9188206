use Rattle.jit_lengths.proofs.LengthsLaws.{swap_64}
use Rattle.std.proofs.Common.{arith}
use Rattle.jit_lengths.proofs.slot.swap_length.Goals as goal

pub returns-else-bits-eq32 : goal.returns-else-bits-eq32
returns-else-bits-eq32 c = (swap_64 _ _ c.if-bits-eq16.false c.if-bits-eq32.false, omega arith)
