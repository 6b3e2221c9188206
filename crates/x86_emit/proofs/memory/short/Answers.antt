use Rattle.x86.specs.Encode.{short}
use Rattle.x86_emit.proofs.memory.short.Goals as goal

pub returns : goal.returns
unfolding short
returns c = rw c.wrapping_add_u32.ensures.value
