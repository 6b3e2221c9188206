use Rattle.std.proofs.Common.{◌≡◌, drop}
use Rattle.jit.specs.Translation.{twice}
use Rattle.jit_judging.proofs.sizes.is_twice.Given as goal

abbrev pub invariant-loop-k : goal.invariant-loop-k
invariant-loop-k l = twice l.ids ≡ twice (drop l.k l.ids)
