-- One step of RFC 9669, of the slots to which section 4 gives a meaning by registers alone: arithmetic and moves (4.1), byte swaps (4.2), JA and
-- the conditional jumps (4.3). Of a slot's kind, its fields and the registers it says what the slot does (`act`); from that come the
-- registers behind it and the slot that is next. Loads, stores, CALL and EXIT are for whoever has memory and open calls.
-- off of arithmetic, moves and swaps is taken as 0. Another, by which the RFC means signed division and modulo and sign-extending moves, is not
-- looked at (docs/DIFFERENCES.md A4 to A6).
use Rattle.std.specs.Prelude.{◌≡◌, Bool, true, List, ℕ, ◌+◌, ◌%◌, ◌^◌, ◌<◌, length, get_or, set}
use Rattle.base.specs.Pick.{pick}
use Rattle.base.specs.declared.Width.{Width}
use Rattle.base.specs.declared.Width.TheVariants.{W64}
use Rattle.ebpf.specs.declared.insn.Insn.{Insn}
use Rattle.ebpf.specs.declared.kind.Source.{Source}
use Rattle.ebpf.specs.declared.kind.Source.TheVariants.{Imm, Reg}
use Rattle.ebpf.specs.declared.kind.Kind.{Kind}
use Rattle.ebpf.specs.declared.kind.Kind.TheVariants.{LdAbs, LdInd, LdDwImm, LdReg, StImm, StReg, Alu, Shift, Neg, MulDivMod, Mov, Le, Be, Ja, Jump, Call, Exit}
use Rattle.ebpf_meaning.specs.Values.{cut, immediate, alu_value, shift_value, mul_value, neg_value, le_value, be_value, met}

-- r0 to r10 (3.1), each a number of 64 bits
pub record Registers (r : List ℕ) : Type 0 where
  pub eleven : length r ≡ 11
  pub words : (k : ℕ) → get_or r k 0 < 2 ^ 64

-- what dst holds, at the operation's width
abbrev pub dst_of : Width → Insn → List ℕ → ℕ
dst_of w i r = cut w (get_or r i.dst 0)

-- the source operand (4, table): K is imm, X is the register src, whatever imm is
abbrev pub src_of : Width → Source → Insn → List ℕ → ℕ
src_of w Imm i r = immediate w i.imm
src_of w Reg i r = cut w (get_or r i.src 0)

-- A slot writes dst, or goes so many slots on from the one behind it where `taken`, or does what is not said here.
pub data Act : Type 0 where
  writes : (value : ℕ) → Act
  branches : (taken : Bool) → (distance : ℕ) → Act
  other : Act

abbrev pub act : Kind → Insn → List ℕ → Act
act (LdAbs z) i r = other
act (LdInd z) i r = other
act LdDwImm i r = other
act (LdReg z) i r = other
act (StImm z) i r = other
act (StReg z) i r = other
act (Alu o w s) i r = writes (alu_value o w (dst_of w i r) (src_of w s i r))
act (Shift o w s) i r = writes (shift_value o w (dst_of w i r) (src_of w s i r))
act (Neg w) i r = writes (neg_value w (dst_of w i r))
act (MulDivMod o w s) i r = writes (mul_value o w (dst_of w i r) (src_of w s i r))
act (Mov w s) i r = writes (src_of w s i r)
act Le i r = writes (le_value i.imm (dst_of W64 i r))
act Be i r = writes (be_value i.imm (dst_of W64 i r))
act Ja i r = branches true i.off
act (Jump c w s) i r = branches (met c w (dst_of w i r) (src_of w s i r)) i.off
act Call i r = other
act Exit i r = other

-- Behind the slot. Of `other` both say nothing of what it does: no register is written, and the next slot is the one behind.
abbrev pub regs_behind : Insn → List ℕ → Act → List ℕ
regs_behind i r (writes v) = set r i.dst v
regs_behind i r (branches t x) = r
regs_behind i r other = r

-- PC += offset, from the slot behind the jump (4.3). The distance is a two's complement of 32 bits, so that one back is added modulo 2 ^ 32; to
-- go ahead of slot 0 gives a slot that no program has.
abbrev pub next_slot : (slot : ℕ) → Act → ℕ
next_slot slot (writes v) = slot + 1
next_slot slot (branches t x) = pick t ((slot + 1 + x) % 2 ^ 32) (slot + 1)
next_slot slot other = slot + 1
