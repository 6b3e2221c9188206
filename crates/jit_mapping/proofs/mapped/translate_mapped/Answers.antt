use mathlib.Core.Path.{◌∙◌, sym}
use Rattle.jit_mapping.proofs.MappedLaws.{a-map}
use Rattle.jit_mapping.proofs.mapped.translate_mapped.Goals as goal

pub write_mapped-requires : goal.write_mapped-requires
write_mapped-requires c =
    let map = a-map _ _ _ (sym c.decide_mapped.ensures ∙ c.in_ok-decide_mapped.was) in
    record { decided = map.0; fitting = map.1 }
