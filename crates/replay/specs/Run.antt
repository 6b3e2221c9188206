-- A packet's run: RFC 9669's step (ebpf_meaning) with memory (Memory), from slot 0 to EXIT or to where the run is stopped. Where off of
-- arithmetic, moves and swaps or src of a wide load means more in the RFC, the run does as the page does (docs/DIFFERENCES.md, part D): off
-- counts as 0, and the constant is loaded.
use Rattle.std.specs.Prelude.{Bool, false, ◌&&◌, not, Option, Some, None, List, [], ◌∷◌, ℕ, zero, suc, ◌+◌, ◌*◌, ◌^◌, ltb, eqb, length, get_or, set, replicate}
use Rattle.base.specs.Pick.{pick}
use Rattle.base.specs.declared.Size.{Size}
use Rattle.base.specs.declared.Width.TheVariants.{W64}
use Rattle.ebpf.specs.Insn.{insn_at, le4}
use Rattle.ebpf.specs.Opcode.{kind_of}
use Rattle.ebpf.specs.declared.insn.Insn.{Insn}
use Rattle.ebpf.specs.declared.kind.Kind.{Kind}
use Rattle.ebpf.specs.declared.kind.Kind.TheVariants.{LdAbs, LdInd, LdDwImm, LdReg, StImm, StReg, Alu, Shift, Neg, MulDivMod, Mov, Le, Be, Ja, Jump, Call, Exit}
use Rattle.ebpf.specs.declared.kind.Lookup.{Lookup}
use Rattle.ebpf.specs.declared.kind.Lookup.TheVariants.{Known, Unimplemented, Unknown}
use Rattle.ebpf_meaning.specs.Values.{immediate}
use Rattle.ebpf_meaning.specs.Step.{act, regs_behind, next_slot}
use Rattle.jit.specs.Translation.{slots_of, good_registers, swap_bits}
use Rattle.replay.specs.declared.Place.{Place}
use Rattle.replay.specs.declared.Place.TheVariants.{Packet, Stack}
use Rattle.replay.specs.declared.Ended as ended
use Rattle.replay.specs.declared.Ended.{Ended}
use Rattle.replay.specs.declared.Ended.TheVariants.{StepLimit, Access, NoSlot}
use Rattle.replay.specs.Memory.{State, packet_at, stack_at, stack_size, size_bytes, address_of, place_of, loaded, stored}

-- The most slots that the run of a packet takes.
abbrev pub step_limit : ℕ
step_limit = 65536

-- WHICH SLOT IS THERE. A slot is the second half of a wide load where the one before it is a wide load and no second half itself.
abbrev pub opcode_at : (program : List ℕ) → (slot : ℕ) → ℕ
opcode_at program slot = get_or program (8 * slot) 0

abbrev pub is_wide : (opcode : ℕ) → Bool
is_wide opcode = eqb opcode 0x18

unfoldable pub is_second : (program : List ℕ) → (slot : ℕ) → Bool
is_second program zero = false
is_second program (suc slot) = pick (is_second program slot) false (is_wide (opcode_at program slot))

abbrev pub is_slot : (program : List ℕ) → (slot : ℕ) → Bool
is_slot program slot = ltb slot (slots_of program) && not (is_second program slot)

-- What is to be run at a slot: nothing at slot n and behind it, nor at a second half; nor what no program has that is translated: a wide load
-- without its second half, a register that is none of the eleven, a swap whose width is none of the three (refusals 6, 7 and 10).
abbrev pub runnable : (more : Bool) → Insn → Lookup → Lookup
runnable more i Unknown = Unknown
runnable more i Unimplemented = Unimplemented
runnable more i (Known (LdAbs z)) = Known (LdAbs z)
runnable more i (Known (LdInd z)) = Known (LdInd z)
runnable more i (Known LdDwImm) = pick more (Known LdDwImm) Unknown
runnable more i (Known (LdReg z)) = Known (LdReg z)
runnable more i (Known (StImm z)) = Known (StImm z)
runnable more i (Known (StReg z)) = Known (StReg z)
runnable more i (Known (Alu o w x)) = Known (Alu o w x)
runnable more i (Known (Shift o w x)) = Known (Shift o w x)
runnable more i (Known (Neg w)) = Known (Neg w)
runnable more i (Known (MulDivMod o w x)) = Known (MulDivMod o w x)
runnable more i (Known (Mov w x)) = Known (Mov w x)
runnable more i (Known Le) = pick (swap_bits i.imm) (Known Le) Unknown
runnable more i (Known Be) = pick (swap_bits i.imm) (Known Be) Unknown
runnable more i (Known Ja) = Known Ja
runnable more i (Known (Jump c w x)) = Known (Jump c w x)
runnable more i (Known Call) = Known Call
runnable more i (Known Exit) = Known Exit

abbrev pub kind_in : (more : Bool) → Insn → Lookup
kind_in more i = pick (good_registers i) (runnable more i (kind_of i.opc)) Unknown

unfoldable pub kind_at : (program : List ℕ) → (slot : ℕ) → Lookup
kind_at program slot = pick (is_slot program slot) (kind_in (ltb (slot + 1) (slots_of program)) (insn_at program slot)) Unknown

-- ONE SLOT. It goes on to another with the state that it leaves, or ends the run, or there is nothing to run.
pub data Turn : Type 0 where
  goes : (next : ℕ) → State → Turn
  ends : Ended → State → Turn
  absent : Turn

abbrev pub with_regs : State → List ℕ → State
with_regs s r = record { regs = r; stack = s.stack; packet = s.packet }

abbrev pub loads : Size → (dst slot : ℕ) → Option Place → State → Turn
loads z dst slot (Some (Packet at)) s = goes (slot + 1) (with_regs s (set s.regs dst (loaded z s.packet at)))
loads z dst slot (Some (Stack at)) s = goes (slot + 1) (with_regs s (set s.regs dst (loaded z s.stack at)))
loads z dst slot None s = ends Access s

abbrev pub stores : Size → (value slot : ℕ) → Option Place → State → Turn
stores z value slot (Some (Packet at)) s = goes (slot + 1) (record { regs = s.regs; stack = s.stack; packet = stored z s.packet at value })
stores z value slot (Some (Stack at)) s = goes (slot + 1) (record { regs = s.regs; stack = stored z s.stack at value; packet = s.packet })
stores z value slot None s = ends Access s

abbrev pub place_in : State → Size → (register off : ℕ) → Option Place
place_in s z register off = place_of (length s.packet) (address_of (get_or s.regs register 0) off) (size_bytes z)

-- arithmetic, moves, swaps and jumps do as `act` says
abbrev pub acts : Kind → Insn → (slot : ℕ) → State → Turn
acts k i slot s = goes (next_slot slot (act k i s.regs)) (with_regs s (regs_behind i s.regs (act k i s.regs)))

-- LD_ABS, LD_IND and CALL are not run: a program that has one is refused (19), and what is said of them here is nobody's. `upper` is imm of
-- the slot behind, the upper half of a wide load's constant.
abbrev pub does : Kind → Insn → (upper slot : ℕ) → State → Turn
does (LdAbs z) i upper slot s = absent
does (LdInd z) i upper slot s = absent
does LdDwImm i upper slot s = goes (slot + 2) (with_regs s (set s.regs i.dst (i.imm + 2 ^ 32 * upper)))
does (LdReg z) i upper slot s = loads z i.dst slot (place_in s z i.src i.off) s
does (StImm z) i upper slot s = stores z (immediate W64 i.imm) slot (place_in s z i.dst i.off) s
does (StReg z) i upper slot s = stores z (get_or s.regs i.src 0) slot (place_in s z i.dst i.off) s
does (Alu o w x) i upper slot s = acts (Alu o w x) i slot s
does (Shift o w x) i upper slot s = acts (Shift o w x) i slot s
does (Neg w) i upper slot s = acts (Neg w) i slot s
does (MulDivMod o w x) i upper slot s = acts (MulDivMod o w x) i slot s
does (Mov w x) i upper slot s = acts (Mov w x) i slot s
does Le i upper slot s = acts Le i slot s
does Be i upper slot s = acts Be i slot s
does Ja i upper slot s = acts Ja i slot s
does (Jump c w x) i upper slot s = acts (Jump c w x) i slot s
does Call i upper slot s = absent
does Exit i upper slot s = ends (ended.Ended.Exit (get_or s.regs 0 0)) s

abbrev pub turned : Lookup → Insn → (upper slot : ℕ) → State → Turn
turned Unknown i upper slot s = absent
turned Unimplemented i upper slot s = absent
turned (Known k) i upper slot s = does k i upper slot s

unfoldable pub turn_at : (program : List ℕ) → (slot : ℕ) → State → Turn
turn_at program slot s = turned (kind_at program slot) (insn_at program slot) (le4 program (8 * slot + 12)) slot s

-- A RUN: how it ended, the slots that it ran, in order, an access that stops it included, and the packet as it left it.
pub record Run : Type 0 where
  pub how : Ended
  pub ran : List ℕ
  pub packet : List ℕ

abbrev pub ended_as : Ended → State → Run
ended_as e s = record { how = e; ran = []; packet = s.packet }

abbrev pub ran_too : (slot : ℕ) → Run → Run
ran_too slot r = record { how = r.how; ran = slot ∷ r.ran; packet = r.packet }

abbrev pub onward : (slot : ℕ) → State → Turn → (ℕ → State → Run) → Run
onward slot s (goes next t) k = ran_too slot (k next t)
onward slot s (ends e t) k = ran_too slot (ended_as e t)
onward slot s absent k = ended_as NoSlot s

-- `left` slots may still be run: the limit is tested before anything else of a slot
unfoldable pub run_from : (left : ℕ) → (program : List ℕ) → (slot : ℕ) → State → Run
run_from zero program slot s = ended_as StepLimit s
run_from (suc left) program slot s = onward slot s (turn_at program slot s) (λ next t. run_from left program next t)

-- Each packet starts afresh: r1 is its address, r2 its captured length, r10 the end of the stack, which is zero, and all else is 0.
abbrev pub start_of : (packet : List ℕ) → State
start_of packet =
    record {
      regs = 0 ∷ packet_at ∷ length packet ∷ 0 ∷ 0 ∷ 0 ∷ 0 ∷ 0 ∷ 0 ∷ 0 ∷ (stack_at + stack_size) ∷ [];
      stack = replicate stack_size 0;
      packet = packet;
    }

unfoldable pub run_of : (program packet : List ℕ) → Run
run_of program packet = run_from step_limit program 0 (start_of packet)
