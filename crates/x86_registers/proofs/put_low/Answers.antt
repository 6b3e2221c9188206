use Rattle.text.proofs.SaysLaws.{same, then}
use Rattle.x86_registers.proofs.put_low.Goals as goal

pub returns-in-S32 : goal.returns-in-S32
returns-in-S32 c = same (then c.put_byte-next.ensures c.put_text-in-S32.ensures) (rw (c.in-S32.is, c.stem-in-S32.ensures))

pub returns-in-S64 : goal.returns-in-S64
returns-in-S64 c = same (then c.put_byte-next-in-S64.ensures c.put_text-in-S64.ensures) (rw (c.in-S64.is, c.stem-in-S64.ensures))
