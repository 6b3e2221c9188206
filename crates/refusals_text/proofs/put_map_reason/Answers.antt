use Rattle.text.proofs.SaysLaws.{same}
use Rattle.refusals_text.specs.Sentences.{map_reason, map_reasons, no_reason}
use Rattle.base.proofs.CasesLaws.{rest}
use Rattle.refusals_text.proofs.put_map_reason.Goals as goal

pub returns-in-16 : goal.returns-in-16
unfolding map_reason
returns-in-16 c = same c.put_text-in-16.ensures (rw c.in-16.is)

pub returns-in_default : goal.returns-in_default
unfolding map_reason
returns-in_default c = same c.put_text-in_default.ensures (rest map_reasons no_reason _ c.in_default.in_default-own.rest)
