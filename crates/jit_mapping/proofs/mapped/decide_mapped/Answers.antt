use mathlib.Core.Path.{◌∙◌}
use Rattle.jit_translate.proofs.DecidedLaws.{good}
use Rattle.jit_mapping.proofs.MappedLaws.{judging, judged}
use Rattle.jit_mapping.proofs.mapped.decide_mapped.Goals as goal

pub judge_map-requires : goal.judge_map-requires
judge_map-requires c = judging (good c.decide_in.ensures c.in_ok-decide_in.was)

pub returns : goal.returns
returns c =
    let decided = good c.decide_in.ensures c.in_ok-decide_in.was in
    c.judge_map.ensures ∙ judged decided _ _
