-- Which of the instructions of specs/Instr.antt the reader is asked to give back.
use mathlib.Core.Logic.{◌≢◌}
use Prim.Native.Nat.{ℕ, ◌%◌, ◌<◌, ◌^◌}
use Rattle.base.specs.Widths.{bits}
use Rattle.x86.specs.Instr.{imm_bits, Plain, push, pop, alu, alu_imm, shift_imm, shift_cl, unary, mov_imm, rol16, bswap, load, store, store_imm, Instr, op, jump, call_reg, ret}

-- Which of them have an encoding: registers below 16, constants within their field, and no RSP or R12 as a base, which would take a SIB
-- byte (table 2-2).
abbrev pub Base : ℕ → Type 0
Base b = (b < 16) × (b % 8 ≢ 4)

abbrev pub WfPlain : Plain → Type 0
WfPlain (push r) = r < 16
WfPlain (pop r) = r < 16
WfPlain (alu o w s d) = (s < 16) × (d < 16)
WfPlain (alu_imm o w d i) = (d < 16) × (i < 2 ^ 32)
WfPlain (shift_imm o w d i) = (d < 16) × (i < 256)
WfPlain (shift_cl o w d) = d < 16
WfPlain (unary o w r) = r < 16
WfPlain (mov_imm w d i) = (d < 16) × (i < 2 ^ bits w)
WfPlain (rol16 d i) = (d < 16) × (i < 256)
WfPlain (bswap w d) = d < 16
WfPlain (load z b d x) = Base b × ((d < 16) × (x < 2 ^ 32))
WfPlain (store z s b x) = (s < 16) × (Base b × (x < 2 ^ 32))
WfPlain (store_imm z b x i) = Base b × ((x < 2 ^ 32) × (i < 2 ^ imm_bits z))

abbrev pub Wf : Instr ℕ → Type 0
Wf (op p) = WfPlain p
Wf (jump j x) = x < 2 ^ 32
Wf (call_reg r) = r < 16
Wf ret = Unit {0}
