-- How a constant gets into a register: `emit_load_imm` of the Rust, and with `compact` a shorter form.
use Rattle.std.specs.Prelude.{◌&&◌, Bool, true, false, ℕ, ◌+◌, ◌%◌, ◌^◌, ltb}
use Rattle.base.specs.Pick.{pick}
use Rattle.base.specs.declared.Width.{Width}
use Rattle.base.specs.declared.Width.TheVariants.{W32, W64}
use Rattle.x86.specs.Instr.{Alu, ADD, OR, AND, SUB, XOR, CMP, MOV, TEST}
use Rattle.x86.specs.Instr.{Plain, push, pop, alu, alu_imm, shift_imm, shift_cl, unary, mov_imm, rol16, bswap, load, store, store_imm}
use Rattle.jit.specs.declared.Mode.{Mode}

-- a constant of 64 bits that is in the signed 32-bit range takes four bytes, any other eight
unfoldable pub load_imm : (dst value : ℕ) → Plain
load_imm dst value = pick (ltb ((value + 2 ^ 31) % 2 ^ 64) (2 ^ 32)) (alu_imm MOV W64 dst (value % 2 ^ 32)) (mov_imm W64 dst value)

-- MOV r64, imm32 (C7 /0), which extends by the sign
abbrev pub extends : Alu → Width → Bool
extends ADD w = false
extends OR w = false
extends AND w = false
extends SUB w = false
extends XOR w = false
extends CMP w = false
extends MOV W32 = false
extends MOV W64 = true
extends TEST w = false

-- One that loads 0 to 2 ^ 32 - 1 into 64 bits, as C7 /0 or as B8+r with eight bytes, in its shorter form: MOV r32, imm32 (B8+r), which clears
-- the upper half. Every other instruction is left as it is.
abbrev pub shorter : Plain → Plain
shorter (push r) = push r
shorter (pop r) = pop r
shorter (alu o w s d) = alu o w s d
shorter (alu_imm o w d x) = pick (extends o w && ltb x (2 ^ 31)) (mov_imm W32 d x) (alu_imm o w d x)
shorter (shift_imm o w d x) = shift_imm o w d x
shorter (shift_cl o w d) = shift_cl o w d
shorter (unary o w r) = unary o w r
shorter (mov_imm W32 d x) = mov_imm W32 d x
shorter (mov_imm W64 d x) = pick (ltb x (2 ^ 32)) (mov_imm W32 d x) (mov_imm W64 d x)
shorter (rol16 d x) = rol16 d x
shorter (bswap w d) = bswap w d
shorter (load z b d x) = load z b d x
shorter (store z s b x) = store z s b x
shorter (store_imm z b x i) = store_imm z b x i

-- a constant that is loaded
abbrev pub loaded : Mode → Plain → Plain
loaded m p = pick m.compact (shorter p) p
