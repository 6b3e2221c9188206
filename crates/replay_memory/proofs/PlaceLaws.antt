-- The laws of an address and of the place where an access lies.
use Rattle.std.proofs.Common.{◌≡◌, ℕ, ◌+◌, ◌-◌, ◌%◌, ◌^◌, ◌<◌, ◌≤◌, Bool, true, false, ◌&&◌, Option, Some, None, ltb, leb}
use Rattle.std.proofs.Common.{refl, arith, ltb-false, ltb-true, le-leb, leb-false, leb-true}
use Rattle.base.specs.Pick.{pick}
use Rattle.base.specs.declared.Width.TheVariants.{W64}
use Rattle.ebpf_meaning.specs.Values.{immediate}
use Rattle.replay.specs.declared.Place.{Place}
use Rattle.replay.specs.declared.Place.TheVariants.{Packet, Stack}
use Rattle.replay.specs.Memory.{packet_at, stack_at, stack_size, within, place_of}
use Rattle.replay_memory.specs.Access.{Access}

-- extending without a test: the number moved up by half of its range, cut, and moved down again
pub extended : (x r : ℕ) → x < 2 ^ 32 → r < 2 ^ 64 → (r + 2 ^ 31) % 2 ^ 64 ≡ (x + 2 ^ 31) % 2 ^ 32 → r ≡ immediate W64 x
extended x r h g e = by (ltb x (2 ^ 31)) refl
  where
    by : (t : Bool) → ltb x (2 ^ 31) ≡ t → r ≡ pick t x (x + (2 ^ 64 - 2 ^ 32))
    by true q = omega (arith, e, ltb-true x (2 ^ 31) q)
    by false q = omega (arith, e, ltb-false x (2 ^ 31) q)

-- An access lies so many bytes behind the start of an area, and ends in it.
pub record Lies (from bytes address size at : ℕ) : Type 0 where
  pub starts : from + at ≡ address
  pub ends : at + size ≤ bytes

module _ (from bytes address size : ℕ) where
  pub within-yes : {at : ℕ} → Lies from bytes address size at → within from bytes address size ≡ true
  within-yes l =
      let s : from ≤ address = omega (arith, l.starts) in
      let e : address + size ≤ from + bytes = omega (arith, l.starts, l.ends) in
      rw (le-leb _ _ s, le-leb _ _ e)

  pub within-no : (from ≤ address → address + size ≤ from + bytes → ⊥) → within from bytes address size ≡ false
  within-no f = by (leb from address) refl (leb (address + size) (from + bytes)) refl
    where
      by : (s : Bool) → leb from address ≡ s → (e : Bool) → leb (address + size) (from + bytes) ≡ e → (s && e) ≡ false
      by false p e q = refl
      by true p false q = refl
      by true p true q = absurd (f (leb-true _ _ p) (leb-true _ _ q))

  pub within-lies : within from bytes address size ≡ true → Lies from bytes address size (address - from)
  within-lies w = by (leb from address) refl (leb (address + size) (from + bytes)) refl w
    where
      by : (s : Bool) → leb from address ≡ s → (e : Bool) → leb (address + size) (from + bytes) ≡ e → (s && e) ≡ true
          → Lies from bytes address size (address - from)
      by false p e q v = let z : ◌≡◌ {A = ℕ} 0 1 = cc in absurd (omega arith)
      by true p false q v = let z : ◌≡◌ {A = ℕ} 0 1 = cc in absurd (omega arith)
      by true p true q v =
          let s : from ≤ address = leb-true from address p in
          let e : address + size ≤ from + bytes = leb-true (address + size) (from + bytes) q in
          record { starts = omega arith; ends = omega arith }

-- WHERE AN ACCESS LIES, from where its address is.
module _ (packet address size at : ℕ) where
  pub in-packet : Lies packet_at packet address size at → place_of packet address size ≡ Some (Packet at)
  unfolding place_of
  in-packet l = let d : address - packet_at ≡ at = omega (arith, l.starts) in rw (within-yes packet_at packet address size l, d)

  pub in_stack : Access packet size → Lies stack_at stack_size address size at → place_of packet address size ≡ Some (Stack at)
  unfolding place_of
  in_stack a l =
      let d : address - stack_at ≡ at = omega (arith, l.starts) in
      let n = within-no packet_at packet address size (λ s e. omega (arith, l.starts, a.short, e)) in
      rw (n, within-yes stack_at stack_size address size l, d)

module _ (packet address size : ℕ) where
  pub in-none : (packet_at ≤ address → address + size ≤ packet_at + packet → ⊥) → (stack_at ≤ address → address + size ≤ stack_at + stack_size → ⊥)
      → place_of packet address size ≡ None
  unfolding place_of
  in-none p s = rw (within-no packet_at packet address size p, within-no stack_at stack_size address size s)

  -- .. and where it is from where it lies: the area holds all of it.
  pub lies-in-packet : {at : ℕ} → place_of packet address size ≡ Some (Packet at) → Lies packet_at packet address size at
  unfolding place_of
  lies-in-packet {at} e = by (within packet_at packet address size) refl (within stack_at stack_size address size) e
    where
      by : (p : Bool) → within packet_at packet address size ≡ p → (s : Bool)
          → pick p (Some (Packet (address - packet_at))) (pick s (Some (Stack (address - stack_at))) None) ≡ Some (Packet at)
          → Lies packet_at packet address size at
      by true w s q = let d : address - packet_at ≡ at = cc in rw d at (within-lies packet_at packet address size w)
      by false w true q = let z : ◌≡◌ {A = ℕ} 0 1 = cc in absurd (omega arith)
      by false w false q = let z : ◌≡◌ {A = ℕ} 0 1 = cc in absurd (omega arith)

  pub lies-in-stack : {at : ℕ} → place_of packet address size ≡ Some (Stack at) → Lies stack_at stack_size address size at
  unfolding place_of
  lies-in-stack {at} e = by (within packet_at packet address size) (within stack_at stack_size address size) refl e
    where
      by : (p s : Bool) → within stack_at stack_size address size ≡ s
          → pick p (Some (Packet (address - packet_at))) (pick s (Some (Stack (address - stack_at))) None) ≡ Some (Stack at)
          → Lies stack_at stack_size address size at
      by false true w q = let d : address - stack_at ≡ at = cc in rw d at (within-lies stack_at stack_size address size w)
      by true s w q = let z : ◌≡◌ {A = ℕ} 0 1 = cc in absurd (omega arith)
      by false false w q = let z : ◌≡◌ {A = ℕ} 0 1 = cc in absurd (omega arith)
