use Prim.Native.Nat.{◌<◌}
use lib.ListN.{length}
use native.Mathlib.Omega.{arith}
use Rattle.text.proofs.SaysLaws.{byte, turn, left-text}
use Rattle.map.proofs.line.put_whole.Goals as goal

pub loop-x-preserved : goal.loop-x-preserved
loop-x-preserved c =
    let inside : c.loop-x.next < length c.loop-x.out = omega (arith, c.loop-x.invariant.0, c.loop-x-test.true, c.loop-x.auto.out, c.requires) in
    (omega arith, turn c.loop-x.invariant.1 (byte _ _ _ inside) (left-text _ _ c.loop-x-test.true))
