-- Wrong memories: each is the definition with one part of it changed, and is refuted at an input where a filter would notice. The packet has 60
-- bytes. `right` says that unchanged they are the definition.
use Rattle.std.proofs.Common.{◌≡◌, ℕ, ◌+◌, ◌-◌, ◌*◌, ◌%◌, ◌^◌, Bool, ◌&&◌, Option, Some, None, leb, List, [], ◌∷◌, get_or, refl, ap, arith}
use lib.Seq.{sets}
use Rattle.base.specs.Pick.{pick}
use Rattle.base.specs.declared.Size.TheVariants.{S8, S16}
use Rattle.replay.specs.declared.Place.{Place}
use Rattle.replay.specs.declared.Place.TheVariants.{Packet, Stack}
use Rattle.replay.specs.Memory.{packet_at, stack_at, stack_size, address_of, within, place_of, loaded, stored}

-- WHERE AN ACCESS LIES, by a test of an area and by where the stack starts.
abbrev place_by : ((from bytes address size : ℕ) → Bool) → (stack : ℕ) → (packet address size : ℕ) → Option Place
place_by inside stack packet address size =
    pick (inside packet_at packet address size) (Some (Packet (address - packet_at)))
    (pick (inside stack stack_size address size) (Some (Stack (address - stack))) None)

pub right : (packet address size : ℕ) → place_by within stack_at packet address size ≡ place_of packet address size
unfolding place_of
right packet address size = refl

-- only the first byte is looked at: eight bytes, of which the last four are behind the packet's end
abbrev starts_within : (from bytes address size : ℕ) → Bool
starts_within from bytes address size = leb from address && leb address (from + bytes)

pub across-the-end : place_by starts_within stack_at 60 (packet_at + 56) 8 ≡ place_of 60 (packet_at + 56) 8 → ⊥
unfolding place_of
across-the-end e = let z : ◌≡◌ {A = ℕ} 0 1 = cc in omega arith

-- the end is told modulo 2 ^ 64: eight bytes from the last four addresses on
abbrev wraps_within : (from bytes address size : ℕ) → Bool
wraps_within from bytes address size = leb from address && leb ((address + size) % 2 ^ 64) (from + bytes)

pub round-the-end-of-memory : place_by wraps_within stack_at 60 (2 ^ 64 - 4) 8 ≡ place_of 60 (2 ^ 64 - 4) 8 → ⊥
unfolding place_of
round-the-end-of-memory e = let z : ◌≡◌ {A = ℕ} 0 1 = cc in omega arith

-- an end that is no part of the area: one byte too few
abbrev short_within : (from bytes address size : ℕ) → Bool
short_within from bytes address size = leb from address && leb (address + size + 1) (from + bytes)

pub last-byte-shut-out : place_by short_within stack_at 60 (packet_at + 59) 1 ≡ place_of 60 (packet_at + 59) 1 → ⊥
unfolding place_of
last-byte-shut-out e = let z : ◌≡◌ {A = ℕ} 0 1 = cc in omega arith

-- the stack below where it starts: what is stored at r10 - 8 lies outside, and what is stored below all of the stack does not
pub stack-too-low : place_by within (stack_at - stack_size) 60 (stack_at + stack_size - 8) 8 ≡ place_of 60 (stack_at + stack_size - 8) 8 → ⊥
unfolding place_of
stack-too-low e = let z : ◌≡◌ {A = ℕ} 0 1 = cc in omega arith

pub below-the-stack : place_by within (stack_at - stack_size) 60 (stack_at - 8) 8 ≡ place_of 60 (stack_at - 8) 8 → ⊥
unfolding place_of
below-the-stack e = let z : ◌≡◌ {A = ℕ} 0 1 = cc in omega arith

-- .. and the stack above r10
pub above-r10 : place_by within (stack_at + stack_size) 60 (stack_at + stack_size) 8 ≡ place_of 60 (stack_at + stack_size) 8 → ⊥
unfolding place_of
above-r10 e = let z : ◌≡◌ {A = ℕ} 0 1 = cc in omega arith

-- AN ADDRESS whose offset is not extended: r10 - 8; and one that is not cut to 64 bits: 8 bytes behind the highest address.
pub offset-unsigned : (stack_at + stack_size + (2 ^ 32 - 8)) % 2 ^ 64 ≡ address_of (stack_at + stack_size) (2 ^ 32 - 8) → ⊥
offset-unsigned e = omega (arith, e)

pub address-not-cut : 2 ^ 64 - 1 + 8 ≡ address_of (2 ^ 64 - 1) 8 → ⊥
address-not-cut e = omega (arith, e)

-- A LOAD of two bytes, highest first; A STORE of one byte that puts two, or that is not cut.
abbrev bytes : List ℕ
bytes = 1 ∷ 2 ∷ 3 ∷ []

pub highest-first : 256 * get_or bytes 0 0 + get_or bytes 1 0 ≡ loaded S16 bytes 0 → ⊥
highest-first e = omega (arith, e)

pub one-byte-too-many : stored S16 bytes 0 7 ≡ stored S8 bytes 0 7 → ⊥
one-byte-too-many e = omega (arith, ap (λ (l : List ℕ). get_or l 1 0) e)

pub byte-not-cut : sets bytes 0 (256 ∷ []) ≡ stored S8 bytes 0 256 → ⊥
byte-not-cut e = omega (arith, ap (λ (l : List ℕ). get_or l 0 0) e)
