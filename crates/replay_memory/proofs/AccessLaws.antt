-- The laws of an access at an address: that it is one, and that it stays in the area where it lies.
use Rattle.std.proofs.Common.{◌≡◌, ℕ, ◌+◌, ◌≤◌, Option, Some, sym, ◌∙◌, arith}
use Rattle.base.specs.declared.Size.{Size}
use Rattle.base.specs.declared.Size.TheVariants.{S8, S16, S32, S64}
use Rattle.replay.specs.declared.Place.{Place}
use Rattle.replay.specs.declared.Place.TheVariants.{Packet, Stack}
use Rattle.replay.specs.Memory.{size_bytes, place_of}
use Rattle.replay_memory.specs.Access.{Access, Areas, widest}
use Rattle.replay_memory.proofs.PlaceLaws.{lies-in-packet, lies-in-stack}

size-some : (z : Size) → 1 ≤ size_bytes z
size-some S8 = omega arith
size-some S16 = omega arith
size-some S32 = omega arith
size-some S64 = omega arith

size_few : (z : Size) → size_bytes z ≤ widest
size_few S8 = omega arith
size_few S16 = omega arith
size_few S32 = omega arith
size_few S64 = omega arith

pub access : {packet stack n : ℕ} (z : Size) → Areas packet stack → n ≡ size_bytes z → Access packet n
access z areas e = record { short = areas.short; some = rw e (size-some z); few = rw e (size_few z) }

-- what is known of an access once its place is
pub record Placed (z : Size) (packet stack address : ℕ) (r : Option Place) : Type 0 where
  pub areas : Areas packet stack
  pub place : r ≡ place_of packet address (size_bytes z)

module _ {z : Size} {packet stack address : ℕ} {r : Option Place} (p : Placed z packet stack address r) where
  pub found : {place : Option Place} → r ≡ place → place_of packet address (size_bytes z) ≡ place
  found e = sym p.place ∙ e

  pub packet-holds : {at : ℕ} → r ≡ Some (Packet at) → at + size_bytes z ≤ packet
  packet-holds e = (lies-in-packet packet address (size_bytes z) (found e)).ends

  pub stack-holds : {at : ℕ} → r ≡ Some (Stack at) → at + size_bytes z ≤ stack
  stack-holds e = rw p.areas.whole (lies-in-stack packet address (size_bytes z) (found e)).ends
