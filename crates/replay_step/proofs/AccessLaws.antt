-- Loads and stores as a step has them: what is answered and what is left, by where the access lies.
use Rattle.std.proofs.Common.{◌≡◌, ℕ, ◌+◌, Bool, true, false, Option, Some, None, List, length, set, sym, refl, ap, ◌∙◌, arith}
use Rattle.base.specs.declared.Size.{Size}
use Rattle.replay.specs.declared.Place.{Place}
use Rattle.replay.specs.declared.Place.TheVariants.{Packet, Stack}
use Rattle.replay.specs.Memory.{State, loaded, stored}
use Rattle.replay.specs.Run.{loads, stores}
use Rattle.replay_memory.specs.AtPlace.{loaded_at, is_inside, StoredIn}
use Rattle.replay_step.specs.declared.step.Work.{Work}
use Rattle.replay_step.specs.Steps.{regs_after, state, turn_of, finished, went_to}
use Rattle.ebpf.specs.declared.insn.Insn.{Insn}

-- a load that answers a value, and one that lies outside
pub value-inside : (z : Size) (packet stack : List ℕ) (place : Option Place) {v : ℕ} → Some v ≡ loaded_at z packet stack place → true ≡ is_inside place
value-inside z packet stack (Some (Packet at)) e = refl
value-inside z packet stack (Some (Stack at)) e = refl
value-inside z packet stack None e = let n : ◌≡◌ {A = ℕ} 0 1 = cc in absurd (omega arith)

pub value_set : (z : Size) (dst : ℕ) (regs packet stack : List ℕ) (place : Option Place) {v : ℕ} → Some v ≡ loaded_at z packet stack place
    → set regs dst v ≡ regs_after z dst regs stack packet place
value_set z dst regs packet stack (Some (Packet at)) e = cc
value_set z dst regs packet stack (Some (Stack at)) e = cc
value_set z dst regs packet stack None e = let n : ◌≡◌ {A = ℕ} 0 1 = cc in absurd (omega arith)

pub outside : (z : Size) (packet stack : List ℕ) (place : Option Place) → None ≡ loaded_at z packet stack place → false ≡ is_inside place
outside z packet stack (Some (Packet at)) e = let n : ◌≡◌ {A = ℕ} 0 1 = cc in absurd (omega arith)
outside z packet stack (Some (Stack at)) e = let n : ◌≡◌ {A = ℕ} 0 1 = cc in absurd (omega arith)
outside z packet stack None e = refl

pub outside-same : (z : Size) (dst : ℕ) (regs packet stack : List ℕ) (place : Option Place) → None ≡ loaded_at z packet stack place
    → regs ≡ regs_after z dst regs stack packet place
outside-same z dst regs packet stack (Some (Packet at)) e = let n : ◌≡◌ {A = ℕ} 0 1 = cc in absurd (omega arith)
outside-same z dst regs packet stack (Some (Stack at)) e = let n : ◌≡◌ {A = ℕ} 0 1 = cc in absurd (omega arith)
outside-same z dst regs packet stack None e = refl

-- the turn of a load, and of a store
module _ (z : Size) (code : ℕ) (i : Insn) (slot : ℕ) (regs stack packet : List ℕ) where
  pub load-turn : (dst : ℕ) (place : Option Place)
      → loads z dst slot place (state regs stack packet)
      ≡ turn_of (finished code i slot (went_to (is_inside place) slot)) (state (regs_after z dst regs stack packet place) stack packet)
  load-turn dst (Some (Packet at)) = refl
  load-turn dst (Some (Stack at)) = refl
  load-turn dst None = refl

  pub store-turn : (value : ℕ) (place : Option Place) {packet' stack' : List ℕ} {r : Bool} → StoredIn z value packet packet' stack stack' place r
      → stores z value slot place (state regs stack packet) ≡ turn_of (finished code i slot (went_to r slot)) (state regs stack' packet')
  store-turn value (Some (Packet at)) h = rw (h.inside, h.packet_after, h.stack_after)
  store-turn value (Some (Stack at)) h = rw (h.inside, h.packet_after, h.stack_after)
  store-turn value None h = rw (h.inside, h.packet_after, h.stack_after)
