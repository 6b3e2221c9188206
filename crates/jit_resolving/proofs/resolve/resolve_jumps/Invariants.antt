use Rattle.jit_resolving.proofs.Filling.{Filling}
use Rattle.jit.specs.Translation.{place_of}
use Rattle.x86.specs.Fill.{filled}
use Rattle.std.proofs.Common.{◌≡◌, ◌+◌, length, take}
use Rattle.jit_resolving.proofs.resolve.resolve_jumps.Given as goal

abbrev pub invariant-loop-k : goal.invariant-loop-k
invariant-loop-k l =
    Filling (place_of (take (l.n.number + 1) l.locations) l.exit.offset) l.count l.fields l.targets
    (filled (place_of (take (l.n.number + 1) l.locations) l.exit.offset) (take l.count l.fields) (take l.count l.targets) l.initial.code) l.k l.code
    × (length l.code ≡ length l.initial.code)
