use Rattle.jit_translate.proofs.DecidedLaws.{good}
use Rattle.jit_translate.proofs.translate.translate.Goals as goal

pub write_page-requires : goal.write_page-requires
write_page-requires c = record { decided = good c.decide_in.ensures c.in_ok-decide_in.was }
