-- What a slot needs and what it comes to (Steps.antt), of the parameters by their names (base/specs/Lent.antt).
use Rattle.std.specs.Prelude.{◌≡◌, ℕ, ◌/◌, Bool, true, length, slice_index, slice_set}
use Rattle.base.specs.Lent.{Slice, MutSlice, Lent, MutLent}
use Rattle.base.specs.declared.Width.{Width}
use Rattle.base.specs.declared.Width.TheVariants.{W64}
use Rattle.ebpf.specs.Insn.{insn_at}
use Rattle.ebpf.specs.Opcode.{source_of, size_of}
use Rattle.ebpf.specs.declared.insn.Insn.{Insn}
use Rattle.ebpf_meaning.specs.Step.{dst_of, src_of}
use Rattle.ebpf_meaning.specs.Values.{immediate}
use Rattle.jit.specs.Translation.{swap_bits}
use Rattle.replay_memory.specs.Access.{Areas}
use Rattle.replay_memory.specs.AtPlace.{StoredAt, is_inside}
use Rattle.replay_step.specs.declared.step.Next.{Next}
use Rattle.replay_step.specs.declared.step.Work.{Work}
use Rattle.replay_step.specs.Classes.{value_by, swap_by}
use Rattle.replay_step.specs.Steps as S

-- in a `requires`
abbrev pub Fetches : (prog : Slice) → (slot : ℕ) → (regs : Slice) → Type 0
Fetches prog slot regs = S.Fetches prog.now slot regs.now

abbrev pub Reaches : (packet stack : Slice) → Type 0
Reaches packet stack = Areas (length packet.now) (length stack.now)

abbrev pub Swaps : (prog : Slice) → (slot : ℕ) → Type 0
Swaps prog slot = swap_bits (insn_at prog.now slot).imm ≡ true

abbrev pub Ready : (prog : Slice) → (slot code : ℕ) → (regs : MutSlice) (stack packet : Slice) → Type 0
Ready prog slot code regs stack packet = S.Ready prog.now slot code regs.now stack.now packet.now

-- in an `ensures`: the slot's fields, its operands, and what it computes
abbrev pub insn_in : (prog : Lent) → (slot : ℕ) → Insn
insn_in prog slot = insn_at prog.entry.now slot

abbrev pub source_in : Width → (code : ℕ) → (prog : Lent) → (slot : ℕ) → (regs : Lent) → ℕ
source_in w code prog slot regs = src_of w (source_of code) (insn_in prog slot) regs.entry.now

abbrev pub Computed : Width → (code : ℕ) → (prog : Lent) → (slot : ℕ) → (regs : MutLent) → Type 0
Computed w code prog slot regs =
    let i = insn_in prog slot in
    let r = regs.entry.now in
    regs.exit.now ≡ slice_set r i.dst (value_by w (code / 16) (dst_of w i r) (src_of w (source_of code) i r))

abbrev pub Swapped : (code : ℕ) → (prog : Lent) → (slot : ℕ) → (regs : MutLent) → Type 0
Swapped code prog slot regs =
    let i = insn_in prog slot in
    let r = regs.entry.now in
    regs.exit.now ≡ slice_set r i.dst (swap_by (source_of code) i.imm (dst_of W64 i r))

-- class ALU, whose swaps work on 64 bits
abbrev pub ComputedLow : (code : ℕ) → (prog : Lent) → (slot : ℕ) → (regs : MutLent) → Type 0
ComputedLow code prog slot regs =
    let i = insn_in prog slot in
    let r = regs.entry.now in
    regs.exit.now ≡ slice_set r i.dst (S.low_by code i r)

-- jumps
abbrev pub branch_in : (code : ℕ) → (prog : Lent) → (slot : ℕ) → (regs : Lent) → Work
branch_in code prog slot regs = S.branch_by code (insn_in prog slot) regs.entry.now

abbrev pub branch_low_in : (code : ℕ) → (prog : Lent) → (slot : ℕ) → (regs : Lent) → Work
branch_low_in code prog slot regs = S.branch_low_by code (insn_in prog slot) regs.entry.now

abbrev pub target_in : (prog : Lent) → (slot : ℕ) → ℕ
target_in prog slot = S.target (insn_in prog slot) slot

abbrev pub next_in : (code : ℕ) → (prog : Lent) → (slot a b : ℕ) → ℕ
next_in code prog slot a b = S.next_by code (insn_in prog slot) slot a b

-- loads and stores
abbrev pub imm_in : (prog : Lent) → (slot : ℕ) → ℕ
imm_in prog slot = immediate W64 (insn_in prog slot).imm

abbrev pub src_in : (prog : Lent) → (slot : ℕ) → (regs : Lent) → ℕ
src_in prog slot regs = slice_index regs.entry.now (insn_in prog slot).src

pub record LoadsIn (code : ℕ) (prog : Lent) (slot : ℕ) (regs : MutLent) (stack packet : Lent) (r : Bool) : Type 0 where
  pub inside : r ≡ is_inside (S.place_by (size_of code) (insn_in prog slot) (insn_in prog slot).src regs.entry.now packet.entry.now)
  pub regs_after :
      regs.exit.now
      ≡ S.regs_after (size_of code) (insn_in prog slot).dst regs.entry.now stack.entry.now packet.entry.now
      (S.place_by (size_of code) (insn_in prog slot) (insn_in prog slot).src regs.entry.now packet.entry.now)

abbrev pub Loads : (code : ℕ) → (prog : Lent) → (slot : ℕ) → (regs : MutLent) (stack packet : Lent) → Bool → Type 0
Loads code prog slot regs stack packet r = LoadsIn code prog slot regs stack packet r

abbrev pub Stores : (code : ℕ) → (prog : Lent) → (slot : ℕ) → (regs : Lent) (stack packet : MutLent) → (value : ℕ) → Bool → Type 0
Stores code prog slot regs stack packet value r =
    StoredAt (size_of code) value packet stack
    (S.place_by (size_of code) (insn_in prog slot) (insn_in prog slot).dst regs.entry.now packet.entry.now) r

-- the whole slot
abbrev pub Stepped : (prog : Lent) → (slot : ℕ) → (regs : MutLent) (stack packet : Lent) → Next → Type 0
Stepped prog slot regs stack packet r =
    S.Stepped prog.entry.now slot
    (S.state regs.entry.now stack.entry.now packet.entry.now)
    (S.state regs.exit.now stack.exit.now packet.exit.now) r

abbrev pub Worked : (code : ℕ) → (prog : Lent) → (slot : ℕ) → (regs : MutLent) (stack packet : Lent) → Work → Type 0
Worked code prog slot regs stack packet r = Stepped prog slot regs stack packet (S.finished code (insn_in prog slot) slot r)
