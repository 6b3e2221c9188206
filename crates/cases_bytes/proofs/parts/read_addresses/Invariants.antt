use Rattle.cases_bytes.specs.Cases.{filled, address_at}
use lib.ListN.{length}
use mathlib.Core.Path.{◌≡◌}
use Prim.Native.Nat.{◌-◌, ◌≤◌}
use Rattle.cases_bytes.proofs.parts.read_addresses.Given as goal

abbrev pub invariant-loop-k : goal.invariant-loop-k
invariant-loop-k l =
    (length l.addresses ≡ length l.initial.addresses) × (l.k ≤ length l.addresses) × (l.addresses ≡ filled (address_at l.body l.at) l.k l.initial.addresses)
