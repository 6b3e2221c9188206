use mathlib.Core.Path.{refl}
use native.Mathlib.Omega.{arith}
use Rattle.jit_mapping.proofs.MappedLaws.{long-enough, with-room, answered, maps}
use Rattle.jit_mapping.proofs.mapped.write_mapped.Goals as goal

pub overflow_sub-exit : goal.overflow_sub-exit
overflow_sub-exit c = omega (arith, long-enough c.requires.decided c.write_page-page.ensures.translated)

pub write_map-end-requires : goal.write_map-end-requires
write_map-end-requires c =
    let written = c.write_page-page.ensures.translated in
    let kept = c.write_page-page.auto.locations in
    with-room c.requires.decided c.args.base _ c.requires.fitting _ written.locations refl (answered written).0 kept

pub returns : goal.returns
returns c =
    let written = c.write_page-page.ensures in
    let said = c.write_map-end.ensures in
    maps c.requires.decided c.args.base _ c.requires.fitting _ written.translated.locations refl refl written.translated written.named said
