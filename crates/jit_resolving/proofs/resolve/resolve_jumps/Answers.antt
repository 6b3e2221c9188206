use Rattle.jit_resolving.proofs.Filling.{wraps, fills}
use Rattle.std.proofs.Common.{◌∙◌, rules}
use Rattle.jit_resolving.proofs.resolve.resolve_jumps.Goals as goal

pub loop-k-preserved : goal.loop-k-preserved
loop-k-preserved c =
    let to = c.wrapping_sub_u32.ensures.value in
    let end = c.wrapping_add_u32-end.ensures.value in (
      fills _ c.loop-k.invariant.0 c.loop-k-test.true (search rules) (search rules)
          (wraps _ _ _ to (search rules) (search rules) ∙ rw (c.location-place.ensures.0, end)) c.store4.ensures,
      search rules,
    )
