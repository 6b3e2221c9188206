use Rattle.cases_bytes.proofs.StoredLaws.{copied}
use Rattle.cases_bytes.proofs.answer.put_code.Goals as goal

pub returns : goal.returns
returns c = copied _ _ _ _ c.requires c.copy_from_slice.ensures.after
