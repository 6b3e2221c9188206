use Rattle.x86_forms.proofs.ByRex.{constant}
use Rattle.x86_reader.proofs.decode.constant_at.Goals as goal

pub returns : goal.returns
returns c = constant _ _ _ _ _ _ _ _ c.requires c.low_number.ensures c.mov_imm_at.ensures
