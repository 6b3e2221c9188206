-- THE CODE DOES WHAT THE SLOT SAYS. On the one side is RFC 9669's step of a slot of arithmetic, a move, a byte swap, JA or a conditional jump
-- (`act`, ebpf_meaning/specs/Step.antt); on the other the page's bytes and the processor (x86_machine/specs/Machine.antt). From a state at
-- the slot's start that has an RFC machine's registers, each in the register that REGISTER_MAP gives it, every run in which what the slot
-- pushes comes back unchanged (Runs.antt) arrives at the start of the slot to which the step goes, with the registers that the step leaves,
-- and with RSP, every other register but RCX, and the open calls as they were. No access to memory is taken to be allowed but the push of
-- two words and their pops, so the slot's code makes no other.
-- It is proved of every page that is accepted in standard mode, compact or not (`agrees`, proofs/Proved.antt); without that mode, of each slot
-- that the mode does not change (`unnamed-does`). What it leaves out (docs/DIFFERENCES.md, D):
--   off of arithmetic, moves and swaps, which `act` does not look at, and neither does the page: where it is not 0 the RFC means a signed
--     division or modulo, a move that extends by the sign, or nothing;
--   a target at location 0, that is slot n or a wide load's second half: there is no slot's start to arrive at, and the run goes to the
--     page's first byte;
--   the fall from the last slot, behind which slot n has the location 0: it goes on into the epilogue, but DIV and MOD by a register that is
--     zero to the page's first byte.
use Rattle.std.specs.Prelude.{◌≡◌, ◌≢◌, Bool, true, false, List, [], ℕ, ◌+◌, ◌<◌, ◌^◌, length, get_or, Some}
use Rattle.ebpf.specs.Insn.{read_at}
use Rattle.ebpf.specs.Opcode.{kind_of}
use Rattle.ebpf.specs.declared.insn.Insn.{Insn}
use Rattle.ebpf.specs.declared.kind.Kind.{Kind}
use Rattle.ebpf.specs.declared.kind.Lookup.TheVariants.{Known}
use Rattle.ebpf_meaning.specs.Step.{Act, writes, branches, other, act, regs_behind, next_slot}
use Rattle.x86.specs.Registers.{RCX, RSP}
use Rattle.x86.specs.Code.{size}
use Rattle.jit.specs.Frame.{epilogue}
use Rattle.jit.specs.Slots.{reg_of}
use Rattle.x86_machine.specs.Machine.{Regs, State}
use Rattle.jit_agrees.specs.Runs.{Leads}

-- r0 to r10 are in the mapped registers; every register of the processor is a number of 64 bits.
pub record Mapped (r : List ℕ) (g : Regs) : Type 0 where
  pub eleven : length r ≡ 11
  pub each : (k : ℕ) → k < 11 → g (reg_of k) ≡ get_or r k 0
  pub words : (m : ℕ) → g m < 2 ^ 64

-- What a slot leaves as it was: RSP, the registers that have none of r0 to r10, RCX aside, which is the code's own, and the open calls.
pub record Unchanged (s t : State) : Type 0 where
  pub stack : t.regs RSP ≡ s.regs RSP
  pub others : (m : ℕ) → m ≢ RCX → m ≢ RSP → ((k : ℕ) → k < 11 → m ≢ reg_of k) → t.regs m ≡ s.regs m
  pub calls : t.calls ≡ s.calls

-- Where a run goes on that is to go to a slot: where the slot begins. A slot that begins nowhere has the location 0, the page's first byte;
-- there the run goes, or it falls into the epilogue.
pub data GoesTo (code : List ℕ) (location : ℕ) (place : ℕ) : Type 0 where
  at_location : place ≡ location → GoesTo code location place
  at_epilogue : location ≡ 0 → place + size epilogue ≡ length code → GoesTo code location place

-- t is behind the slot's step `a`, which began at s.
pub record Behind (code locs : List ℕ) (slot : ℕ) (i : Insn) (r : List ℕ) (a : Act) (s t : State) : Type 0 where
  pub registers : Mapped (regs_behind i r a) t.regs
  pub unchanged : Unchanged s t
  pub place : GoesTo code (get_or locs (next_slot slot a) 0) t.pos

-- A slot may have no code, as LE of 64 bits. A jump has some, so that one that goes to its own slot comes back to it and does not stand still.
abbrev pub may_be_empty : Act → Bool
may_be_empty (writes v) = true
may_be_empty (branches t x) = false
may_be_empty other = true

-- the code at the slot's location does what the slot says
abbrev pub Does : (code locs : List ℕ) → (slot : ℕ) → Kind → Insn → Type 0
Does code locs slot k i =
    (r : List ℕ) (s : State) → act k i r ≢ other → Mapped r s.regs → s.pos ≡ get_or locs slot 0
    → Leads code (Behind code locs slot i r (act k i r) s) (s.regs RSP) (may_be_empty (act k i r)) [] s

-- .. and so does that of every slot of the program, a wide load's second half aside, whose location is 0
abbrev pub Agrees : (program code locs : List ℕ) → Type 0
Agrees program code locs =
    (slot : ℕ) (i : Insn) (k : Kind) → read_at program slot ≡ Some i → kind_of i.opc ≡ Known k → get_or locs slot 0 ≢ 0 → Does code locs slot k i
