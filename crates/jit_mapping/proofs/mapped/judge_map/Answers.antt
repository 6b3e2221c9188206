use mathlib.Core.Path.{◌∙◌, sym}
use Rattle.jit_mapping.proofs.JudgedLaws.{limits, accepted-at}
use Rattle.jit_mapping.proofs.mapped.judge_map.Goals as goal

pub has_room-requires : goal.has_room-requires
has_room-requires c =
    let size = c.prologue_size.ensures in
    let low = sym c.is_low.ensures ∙ c.if-not-is_low.false in
    record { limits = limits c.requires size.0; accepted = (accepted-at c.requires size.0 c.args.base low, size.1) }
