-- What a run sees of memory: the packet at one address, a stack of 512 bytes at another, and nothing else. An access of RFC 9669 (section 5.1)
-- lies wholly inside one of them. Numbers stand lowest byte first, as on the processor of the page.
use Rattle.std.specs.Prelude.{Bool, ◌&&◌, Option, Some, None, List, ℕ, ◌+◌, ◌-◌, ◌%◌, ◌^◌, leb, take, drop}
use Rattle.std.proofs.lemmas.List.Edits.{sets}
use Rattle.base.specs.Bytes.{bytes_of, join}
use Rattle.base.specs.Pick.{pick}
use Rattle.base.specs.declared.Size.{Size}
use Rattle.base.specs.declared.Size.TheVariants.{S8, S16, S32, S64}
use Rattle.base.specs.declared.Width.TheVariants.{W64}
use Rattle.ebpf_meaning.specs.Values.{immediate}
use Rattle.replay.specs.declared.Place.{Place}
use Rattle.replay.specs.declared.Place.TheVariants.{Packet, Stack}

abbrev pub packet_at : ℕ
packet_at = 268435456

abbrev pub stack_at : ℕ
stack_at = 536870912

abbrev pub stack_size : ℕ
stack_size = 512

-- what a run works on: r0 to r10, the stack, and the packet as the run has left it so far
pub record State : Type 0 where
  pub regs : List ℕ
  pub stack : List ℕ
  pub packet : List ℕ

abbrev pub size_bytes : Size → ℕ
size_bytes S8 = 1
size_bytes S16 = 2
size_bytes S32 = 4
size_bytes S64 = 8

-- register and offset, which is extended by its sign, modulo 2 ^ 64
abbrev pub address_of : (register off : ℕ) → ℕ
address_of register off = (register + immediate W64 off) % 2 ^ 64

-- an access of so many bytes at an address lies within the bytes of an area
abbrev pub within : (from bytes address size : ℕ) → Bool
within from bytes address size = leb from address && leb (address + size) (from + bytes)

unfoldable pub place_of : (packet address size : ℕ) → Option Place
place_of packet address size =
    pick (within packet_at packet address size) (Some (Packet (address - packet_at)))
    (pick (within stack_at stack_size address size) (Some (Stack (address - stack_at))) None)

-- the number that stands at a place of an area; the area with a number put there, cut to the size
abbrev pub loaded : Size → List ℕ → (at : ℕ) → ℕ
loaded z area at = join (take (size_bytes z) (drop at area))

abbrev pub stored : Size → List ℕ → (at value : ℕ) → List ℕ
stored z area at value = sets area at (bytes_of (size_bytes z) value)
