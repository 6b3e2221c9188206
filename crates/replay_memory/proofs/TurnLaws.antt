-- What an access at an address makes of a slot's turn: how whoever runs a slot goes on from what `load_at` and `store_at` answer.
use Rattle.std.proofs.Common.{◌≡◌, ℕ, ◌+◌, true, false, Option, Some, None, List, length, set, refl, arith}
use Rattle.base.specs.declared.Size.{Size}
use Rattle.replay.specs.declared.Place.{Place}
use Rattle.replay.specs.declared.Place.TheVariants.{Packet, Stack}
use Rattle.replay.specs.declared.Ended.TheVariants.{Access}
use Rattle.replay.specs.Memory.{State}
use Rattle.replay.specs.Run.{goes, ends, with_regs, loads, stores}
use Rattle.replay_memory.specs.AtPlace.{loaded_at, packet_after, stack_after, StoredIn}
use Rattle.replay_memory.proofs.StoreLaws.{stored-length}

-- the lengths stay
pub packet_after-length : (z : Size) (value : ℕ) (packet : List ℕ) (place : Option Place) → length (packet_after z value packet place) ≡ length packet
packet_after-length z value packet (Some (Packet at)) = stored-length z packet at value
packet_after-length z value packet (Some (Stack at)) = refl
packet_after-length z value packet None = refl

pub stack_after-length : (z : Size) (value : ℕ) (stack : List ℕ) (place : Option Place) → length (stack_after z value stack place) ≡ length stack
stack_after-length z value stack (Some (Packet at)) = refl
stack_after-length z value stack (Some (Stack at)) = stored-length z stack at value
stack_after-length z value stack None = refl

module _ (z : Size) (dst slot : ℕ) (s : State) where
  pub loads-on : (place : Option Place) {v : ℕ} → Some v ≡ loaded_at z s.packet s.stack place
      → loads z dst slot place s ≡ goes (slot + 1) (with_regs s (set s.regs dst v))
  loads-on (Some (Packet at)) e = cc
  loads-on (Some (Stack at)) e = cc
  loads-on None e = let n : ◌≡◌ {A = ℕ} 0 1 = cc in absurd (omega arith)

  pub loads-out : (place : Option Place) → None ≡ loaded_at z s.packet s.stack place → loads z dst slot place s ≡ ends Access s
  loads-out (Some (Packet at)) e = let n : ◌≡◌ {A = ℕ} 0 1 = cc in absurd (omega arith)
  loads-out (Some (Stack at)) e = let n : ◌≡◌ {A = ℕ} 0 1 = cc in absurd (omega arith)
  loads-out None e = refl

module _ (z : Size) (value slot : ℕ) (s : State) {packet stack : List ℕ} where
  pub stores-on : (place : Option Place) → StoredIn z value s.packet packet s.stack stack place true
      → stores z value slot place s ≡ goes (slot + 1) (record { regs = s.regs; stack = stack; packet = packet })
  stores-on (Some (Packet at)) h = rw (h.packet_after, h.stack_after)
  stores-on (Some (Stack at)) h = rw (h.packet_after, h.stack_after)
  stores-on None h = let e = h.inside in let n : ◌≡◌ {A = ℕ} 0 1 = cc in absurd (omega arith)

  pub stores-out : (place : Option Place) → StoredIn z value s.packet packet s.stack stack place false
      → stores z value slot place s ≡ ends Access (record { regs = s.regs; stack = stack; packet = packet })
  stores-out (Some (Packet at)) h = let e = h.inside in let n : ◌≡◌ {A = ℕ} 0 1 = cc in absurd (omega arith)
  stores-out (Some (Stack at)) h = let e = h.inside in let n : ◌≡◌ {A = ℕ} 0 1 = cc in absurd (omega arith)
  stores-out None h = rw (h.packet_after, h.stack_after)
