use mathlib.Core.Path.{refl}
use Rattle.x86.specs.Decode.{opcode}
use Rattle.x86_reader.proofs.decode.middle_opcode_at.Goals as goal

pub returns-in-133 : goal.returns-in-133
unfolding opcode
returns-in-133 c = rw c.in-133.is (c.alu_at.ensures _ (λ n d l. refl) (λ n b v l. refl))
