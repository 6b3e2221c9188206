use Prim.Native.Nat.{◌+◌}
use Rattle.jit_mapping.proofs.RowsLaws.{rowing-begins, counted-first, closing, rowing, rowed, closed-inside, closed-past}
use Rattle.jit_mapping.proofs.write.write_map.Goals as goal

pub loop-k-init : goal.loop-k-init
loop-k-init c =
    let asked = c.requires.0 in
    (counted-first (c.args.base + 0) c.one_digit.ensures, rowing-begins _ _ _ _ _ asked.1.0 asked.1.1.1)

pub close-begun-requires : goal.close-begun-requires
close-begun-requires c =
    let a = c.args in
    let asked = c.requires.0 in
    let inside = closed-inside a.n a.exit a.locations.now asked.0 c.loop-k-test.true in
    (c.loop-k.invariant.0, rw c.place_at-place.ensures (closing c.loop-k.invariant.1 inside asked.1.1.0))

pub loop-k-preserved : goal.loop-k-preserved
loop-k-preserved c =
    let a = c.args in
    let inside = closed-inside a.n a.exit a.locations.now c.requires.0.0 c.loop-k-test.true in
    let left = c.close-begun.ensures in
    let turned = rw (c.place_at-place.ensures, c.piece_at-opened.ensures) at left.1 in
    (left.0, rowing c.loop-k.invariant.1 inside turned)

pub returns : goal.returns
returns c =
    let a = c.args in
    rowed c.loop-k.invariant.1 (closed-past a.n a.exit a.locations.now c.requires.0.0 c.loop-k-test.false)
