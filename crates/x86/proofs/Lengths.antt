-- How long each instruction can get: the bounds behind the largest code size.
use mathlib.Core.Bool.{Bool, true, false}
use mathlib.Core.List.{List, [], ◌∷◌, ◌++◌}
use Prim.Native.Nat.{ℕ, ◌+◌, ◌%◌, ◌≤◌}
use native.Mathlib.Omega.{arith}
use lib.ListN.{length, length-append}
use Rattle.base.specs.Pick.{pick}
use Rattle.base.specs.Bytes.{le32}
use Rattle.base.specs.declared.Size.{Size}
use Rattle.base.specs.declared.Size.TheVariants.{S8, S16, S32, S64}
use lib.Dec.{eqb}
use Rattle.base.specs.declared.Width.TheVariants.{W32, W64}
use Rattle.x86.specs.Instr.{Plain, push, pop, alu, alu_imm, shift_imm, shift_cl, unary, mov_imm, rol16, bswap, load, store, store_imm, Jump, jmp, call, jcc}
use Rattle.x86.specs.Encode.{rex, rex_bits, memory, modrm, bare, short, encode_plain, load_opcode, prefix66, store_opcode, store_imm_opcode, imm_bytes, wide, wide_size, jump_opcode}

-- the longest of each form
abbrev pub most : Plain → ℕ
most (push r) = 2
most (pop r) = 2
most (alu o w s d) = 3
most (alu_imm o w d i) = 7
most (shift_imm o w d i) = 4
most (shift_cl o w d) = 3
most (unary o w r) = 3
most (mov_imm W32 d i) = 6
most (mov_imm W64 d i) = 10
most (rol16 d i) = 5
most (bswap w d) = 3
most (load z b d x) = 8
most (store z s b x) = 8
most (store_imm z b x i) = 11

pub rex-most : (w r b : ℕ) → length (rex w r b) ≤ 1
unfolding rex
rex-most w r b = by (eqb (rex_bits w r b) 0)
  where
    by : (t : Bool) → length (pick t [] ((0x40 + rex_bits w r b) ∷ [])) ≤ 1
    by true = omega arith
    by false = omega arith

pub memory-most : (r b x : ℕ) → length (memory r b x) ≤ 5
unfolding memory
memory-most r b x = by (bare b x) (short x)
  where
    by : (s t : Bool) → length (pick s (modrm 0 r b ∷ []) (pick t (modrm 1 r b ∷ x % 256 ∷ []) (modrm 2 r b ∷ le32 x))) ≤ 5
    by true t = omega arith
    by false true = omega arith
    by false false = omega arith

-- a REX and what follows it
pub behind : (w r b : ℕ) (xs : List ℕ) → length (rex w r b ++ xs) ≤ 1 + length xs
behind w r b xs = rw (length-append (rex w r b) xs) (omega (arith, rex-most w r b))

load-most : (z : Size) (b d x : ℕ) → length (load_opcode z ++ memory d b x) ≤ 7
load-most S8 b d x = omega (arith, memory-most d b x)
load-most S16 b d x = omega (arith, memory-most d b x)
load-most S32 b d x = omega (arith, memory-most d b x)
load-most S64 b d x = omega (arith, memory-most d b x)

store-most : (z : Size) (s b x : ℕ) → length (encode_plain (store z s b x)) ≤ 8
store-most S8 s b x = omega (arith, memory-most s b x)
store-most S16 s b x = omega (arith, memory-most s b x, behind 0 s b (store_opcode S16 ∷ memory s b x))
store-most S32 s b x = omega (arith, memory-most s b x, behind 0 s b (store_opcode S32 ∷ memory s b x))
store-most S64 s b x = omega (arith, memory-most s b x, behind 1 s b (store_opcode S64 ∷ memory s b x))

imm-most : (z : Size) (i : ℕ) → length (prefix66 z) + length (imm_bytes z i) ≤ 4
imm-most S8 i = omega arith
imm-most S16 i = omega arith
imm-most S32 i = omega arith
imm-most S64 i = omega arith

pub plain-most : (p : Plain) → length (encode_plain p) ≤ most p
plain-most (push r) = behind 0 0 r _
plain-most (pop r) = behind 0 0 r _
plain-most (alu o w s d) = behind (wide w) s d _
plain-most (alu_imm o w d i) = behind (wide w) 0 d _
plain-most (shift_imm o w d i) = behind (wide w) 0 d _
plain-most (shift_cl o w d) = behind (wide w) 0 d _
plain-most (unary o w r) = behind (wide w) 0 r _
plain-most (mov_imm W32 d i) = behind 0 0 d _
plain-most (mov_imm W64 d i) = behind 1 0 d _
plain-most (rol16 d i) = omega (arith, behind 0 0 d (0xc1 ∷ modrm 3 0 d ∷ i ∷ []))
plain-most (bswap w d) = behind (wide w) 0 d _
plain-most (load z b d x) = omega (arith, behind (wide_size z) d b (load_opcode z ++ memory d b x), load-most z b d x)
plain-most (store z s b x) = store-most z s b x
plain-most (store_imm z b x i) =
    let tail = memory 0 b x ++ imm_bytes z i in
    let body = rex (wide_size z) 0 b ++ (store_imm_opcode z ∷ tail) in
    omega (arith, length-append (prefix66 z) body, behind (wide_size z) 0 b (store_imm_opcode z ∷ tail), length-append (memory 0 b x) (imm_bytes z i), memory-most 0 b x, imm-most z i)

pub jump-most : (j : Jump) → length (jump_opcode j) + 4 ≤ 6
jump-most jmp = omega arith
jump-most call = omega arith
jump-most (jcc c) = omega arith
