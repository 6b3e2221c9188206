-- What a slot needs to be run, and what it comes to, over lists.
use Rattle.std.specs.Prelude.{◌≡◌, ℕ, ◌+◌, ◌*◌, ◌/◌, ◌%◌, ◌^◌, ◌<◌, ◌≤◌, Bool, true, false, Option, Some, None, List, length, ◌==◌, slice_index, slice_set}
use Rattle.base.specs.Pick.{pick}
use Rattle.base.specs.declared.Size.{Size}
use Rattle.base.specs.declared.Width.TheVariants.{W32, W64}
use Rattle.ebpf.specs.Insn.{insn_at}
use Rattle.ebpf.specs.Opcode.{source_of}
use Rattle.ebpf.specs.declared.insn.Insn.{Insn}
use Rattle.ebpf_meaning.specs.Step.{dst_of, src_of}
use Rattle.replay.specs.Memory.{State, size_bytes, address_of, place_of, loaded}
use Rattle.replay.specs.declared.Place.{Place}
use Rattle.replay.specs.declared.Place.TheVariants.{Packet, Stack}
use Rattle.replay.specs.declared.Ended as ended
use Rattle.replay.specs.Run.{Turn, goes, ends, absent, turn_at}
use Rattle.replay_memory.specs.Access.{Areas}
use Rattle.replay_slots.specs.Codes.{code_at}
use Rattle.replay_step.specs.declared.step.Next.{Next}
use Rattle.replay_step.specs.declared.step.Next.TheVariants as next
use Rattle.replay_step.specs.declared.step.Work.{Work}
use Rattle.replay_step.specs.declared.step.Work.TheVariants as work
use Rattle.replay_step.specs.Classes.{taken_by, value_by, swap_by, raised}

-- a slot's bytes are there, and its registers are among those that are lent
pub record Fetches (program : List ℕ) (slot : ℕ) (regs : List ℕ) : Type 0 where
  pub there : 8 * slot + 8 ≤ length program
  pub dst : (insn_at program slot).dst < length regs
  pub src : (insn_at program slot).src < length regs

-- where an access of a size lies, by a register and the slot's offset
abbrev pub place_by : Size → Insn → (register : ℕ) → (regs packet : List ℕ) → Option Place
place_by z i register regs packet = place_of (length packet) (address_of (slice_index regs register) i.off) (size_bytes z)

-- the registers behind a load
abbrev pub regs_after : Size → (dst : ℕ) → (regs stack packet : List ℕ) → Option Place → List ℕ
regs_after z dst regs stack packet (Some (Packet at)) = slice_set regs dst (loaded z packet at)
regs_after z dst regs stack packet (Some (Stack at)) = slice_set regs dst (loaded z stack at)
regs_after z dst regs stack packet None = regs

-- PC += offset, from the slot behind, as `next_slot` of ebpf_meaning has it
abbrev pub target : Insn → (slot : ℕ) → ℕ
target i slot = (slot + 1 + i.off) % 2 ^ 32

abbrev pub next_by : (code : ℕ) → Insn → (slot a b : ℕ) → ℕ
next_by code i slot a b = pick (taken_by (code / 16) a b) (target i slot) (slot + 1)

-- What is ready to be run at a slot: the code is the slot's, there are eleven registers and the two areas.
pub record Ready (program : List ℕ) (slot code : ℕ) (regs stack packet : List ℕ) : Type 0 where
  pub code_is : code ≡ code_at program slot
  pub eleven : length regs ≡ 11
  pub areas : Areas (length packet) (length stack)

abbrev pub state : (regs stack packet : List ℕ) → State
state regs stack packet = record { regs = regs; stack = stack; packet = packet }

-- the turn that an answer tells of, with the state that is left
abbrev pub turn_of : Next → State → Turn
turn_of (next.Go n) s = goes n s
turn_of (next.Exit r0) s = ends (ended.Ended.Exit r0) s
turn_of next.Access s = ends ended.Ended.Access s
turn_of next.Absent s = absent

pub record Stepped (program : List ℕ) (slot : ℕ) (s s' : State) (r : Next) : Type 0 where
  pub turn : turn_at program slot s ≡ turn_of r s'
  pub same : turn_at program slot s ≡ absent → s' ≡ s

-- the answer that work comes to, where a jump's operands are compared
abbrev pub finished : (code : ℕ) → Insn → (slot : ℕ) → Work → Next
finished code i slot (work.Branch a b) = next.Go (next_by code i slot a b)
finished code i slot (work.Done n) = n

abbrev pub went_to : Bool → (slot : ℕ) → Work
went_to true slot = work.Done (next.Go (slot + 1))
went_to false slot = work.Done next.Access

-- what class ALU computes: a swap, or arithmetic at 32 bits
abbrev pub low_by : (code : ℕ) → Insn → (regs : List ℕ) → ℕ
low_by code i r =
    pick (code / 16 == 13)
    (swap_by (source_of code) i.imm (dst_of W64 i r))
    (value_by W32 (code / 16) (dst_of W32 i r) (src_of W32 (source_of code) i r))

-- the operands of a jump, at 64 bits, and those of one at 32 bits, moved up
abbrev pub branch_by : (code : ℕ) → Insn → (regs : List ℕ) → Work
branch_by code i r = work.Branch (dst_of W64 i r) (src_of W64 (source_of code) i r)

abbrev pub branch_low_by : (code : ℕ) → Insn → (regs : List ℕ) → Work
branch_low_by code i r = work.Branch (raised (slice_index r i.dst)) (raised (src_of W64 (source_of code) i r))
