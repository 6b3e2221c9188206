use Rattle.jit.specs.Slots.{target_of}
use Rattle.jit_recording.proofs.emission.target_of.Goals as goal

pub returns : goal.returns
unfolding target_of
returns c = c.wrapping_add_u32.ensures.value
