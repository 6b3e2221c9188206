-- A load and a store by where they lie: in the packet, in the stack, or in neither.
use Rattle.std.specs.Prelude.{◌≡◌, ℕ, Bool, true, false, Option, Some, None, List}
use Rattle.base.specs.Lent.{Lent, MutLent}
use Rattle.base.specs.declared.Size.{Size}
use Rattle.replay.specs.declared.Place.{Place}
use Rattle.replay.specs.declared.Place.TheVariants.{Packet, Stack}
use Rattle.replay.specs.Memory.{loaded, stored}

abbrev pub loaded_at : Size → (packet stack : List ℕ) → Option Place → Option ℕ
loaded_at z packet stack (Some (Packet at)) = Some (loaded z packet at)
loaded_at z packet stack (Some (Stack at)) = Some (loaded z stack at)
loaded_at z packet stack None = None

abbrev pub is_inside : Option Place → Bool
is_inside (Some (Packet at)) = true
is_inside (Some (Stack at)) = true
is_inside None = false

-- the packet and the stack behind a store
abbrev pub packet_after : Size → (value : ℕ) → (packet : List ℕ) → Option Place → List ℕ
packet_after z value packet (Some (Packet at)) = stored z packet at value
packet_after z value packet (Some (Stack at)) = packet
packet_after z value packet None = packet

abbrev pub stack_after : Size → (value : ℕ) → (stack : List ℕ) → Option Place → List ℕ
stack_after z value stack (Some (Packet at)) = stack
stack_after z value stack (Some (Stack at)) = stored z stack at value
stack_after z value stack None = stack

-- what a store at a place leaves of the two areas, and what it says of itself
pub record StoredIn (z : Size) (value : ℕ) (packet packet' stack stack' : List ℕ) (place : Option Place) (r : Bool) : Type 0 where
  pub inside : r ≡ is_inside place
  pub packet_after : packet' ≡ packet_after z value packet place
  pub stack_after : stack' ≡ stack_after z value stack place

-- .. said of the parameters by their names (base/specs/Lent.antt)
abbrev pub StoredAt : Size → (value : ℕ) → (packet stack : MutLent) → Option Place → Bool → Type 0
StoredAt z value packet stack place r =
    StoredIn z value packet.entry.now packet.exit.now stack.entry.now stack.exit.now place r
