-- The x86-64 instructions that the translator writes, one constructor a form of Intel's manual (volume 2). A register is its machine
-- number, 0 to 15; an immediate or a displacement is its two's complement in the width that it is written in.
use Rattle.std.specs.Prelude.{ℕ}
use Rattle.code.specs.Instr as shape
pub use Rattle.code.specs.Instr.{op, jump, call_reg, ret}
use Rattle.base.specs.declared.Width.{Width}
use Rattle.base.specs.declared.Size.{Size}
use Rattle.base.specs.declared.Size.TheVariants.{S8, S16, S32, S64}

-- ADD, OR, AND, SUB, XOR, CMP, MOV and TEST: two operands, of which the first is read, written or both
pub data Alu : Type 0 where
  ADD OR AND SUB XOR CMP MOV TEST : Alu

-- ROL is only written at 16 bits
pub data Shift : Type 0 where
  SHL SHR SAR : Shift

-- of group 3: one operand, and RDX:RAX
pub data Unary : Type 0 where
  NEG MUL DIV : Unary

-- the conditions of Jcc, as the manual abbreviates them
pub data Cond : Type 0 where
  JB JAE JE JNE JBE JA JL JGE JLE JG : Cond

-- what goes on to the next instruction
pub data Plain : Type 0 where
  push pop : (r : ℕ) → Plain
  -- dst, src or imm32, which is extended to 64 bits by its sign
  alu : Alu → Width → (src dst : ℕ) → Plain
  alu_imm : Alu → Width → (dst imm : ℕ) → Plain
  -- by the count imm8, or in CL
  shift_imm : Shift → Width → (dst imm : ℕ) → Plain
  shift_cl : Shift → Width → (dst : ℕ) → Plain
  unary : Unary → Width → (r : ℕ) → Plain
  -- a constant of the operand's width: four bytes, which clear the upper half, or eight
  mov_imm : Width → (dst imm : ℕ) → Plain
  rol16 : (dst imm : ℕ) → Plain
  bswap : Width → (dst : ℕ) → Plain
  -- register and [base + disp]; loads of one and two bytes extend with zeros
  load : Size → (base dst disp : ℕ) → Plain
  store : Size → (src base disp : ℕ) → Plain
  store_imm : Size → (base disp imm : ℕ) → Plain

-- what ends in a field of four bytes, relative to the instruction's end
pub data Jump : Type 0 where
  jmp call : Jump
  jcc : Cond → Jump

-- the instructions: these, a call through a register, a return; D is what a jump carries
abbrev pub Instr : Type 0 → Type 0
Instr D = shape.Instr Plain Jump D

-- how many bits of its immediate a store writes; eight bytes get four, extended by their sign
abbrev pub imm_bits : Size → ℕ
imm_bits S8 = 8
imm_bits S16 = 16
imm_bits S32 = 32
imm_bits S64 = 32
