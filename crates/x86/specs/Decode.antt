-- The instruction reader, as Intel's manual tells how to read (volume 2): the prefix 66, then REX, the opcode, ModRM, the displacement,
-- the immediate (section 2.1). It reads the forms of Instr.antt, and what it does not know is `bad`. It takes nothing from Encode.antt,
-- so that the two check one another in RoundTrip.antt. What it is given are bytes, numbers below 256.
use Rattle.std.specs.Prelude.{Bool, true, false, List, [], ◌∷◌, ℕ, zero, suc, ◌+◌, ◌*◌, ◌/◌, ◌%◌, leb, ltb, eqb}
use Rattle.base.specs.Pick.{pick}
use Rattle.code.specs.Reads as code
pub use Rattle.code.specs.Reads.{bad, got, torn, all}
use Rattle.base.specs.Cases.{Arm, cases, ◌⇒◌}
use Rattle.base.specs.declared.Width.{Width}
use Rattle.base.specs.declared.Width.TheVariants.{W32, W64}
use Rattle.base.specs.declared.Size.{Size}
use Rattle.base.specs.declared.Size.TheVariants.{S8, S16, S32, S64}
use Rattle.x86.specs.Instr.{Alu, ADD, OR, AND, SUB, XOR, CMP, MOV, TEST, Shift, SHL, SHR, SAR, Unary, NEG, MUL, DIV, JB, JAE, JE, JNE, JBE, JA, JL, JGE}
use Rattle.x86.specs.Instr.{JLE, JG, Plain, push, pop, alu, alu_imm, shift_imm, shift_cl, unary, mov_imm, rol16, bswap, load, store, store_imm, Jump, jmp}
use Rattle.x86.specs.Instr.{call, jcc, op, jump, call_reg, ret}

-- the instruction, and the bytes behind it
abbrev pub Read : Type 0
Read = code.Read Plain Jump

-- what reads on, from where the bytes read so far end
abbrev pub Next : Type 0
Next = List ℕ → Read

abbrev refuse : Next
refuse r = bad

abbrev done : Plain → Next
done p = got (op p)

abbrev with_byte : (ℕ → Next) → Next
with_byte k [] = bad
with_byte k (b ∷ r) = k b r

-- a number of n bytes, the lowest first (section 1.3.1)
unfoldable pub number : ℕ → (ℕ → Next) → Next
number zero k r = k 0 r
number (suc n) k [] = bad
number (suc n) k (b ∷ r) = number n (λ v. k (b + 256 * v)) r

-- REX (section 2.2.1): whether there is one, W as the width of the operands, and R and B, which go on top of the register numbers. X
-- is of use only with a SIB byte.
pub record Rex : Type 0 where
  pub there : Bool
  pub width : Width
  pub R : ℕ
  pub B : ℕ

abbrev pub no_rex : Rex
no_rex = record { there = false; width = W32; R = 0; B = 0 }

-- of its low four bits, WRXB (table 2-4)
unfoldable pub rex_of : ℕ → Rex
rex_of x = record { there = true; width = pick (leb 8 x) W64 W32; R = x / 4 % 2; B = x % 2 }

-- the opcode, with a REX, 40 to 4F, right ahead of it or none
unfoldable pub with_rex : (Rex → ℕ → Next) → Next
with_rex k [] = bad
with_rex k (b ∷ r) = pick (eqb (b / 16) 4) (with_byte (k (rex_of (b % 16))) r) (k no_rex b r)

abbrev by_width : {A : Type 0} → Width → A → A → A
by_width W32 a b = a
by_width W64 a b = b

abbrev size_of : Rex → Size
size_of x = by_width x.width S32 S64

-- What is written without REX.W only, with any REX only, and without any only. It may mean something otherwise too, and is refused.
abbrev only32 : Rex → Next → Next
only32 x k = by_width x.width k refuse

abbrev only_rex : Rex → Next → Next
only_rex x k = pick x.there k refuse

abbrev only_bare : Rex → Next → Next
only_bare x k = pick x.there refuse k

-- The register in ModRM's reg, and the one in the low three bits of ModRM, r/m, or of the opcode (section 2.2.1.2).
unfoldable pub reg_number : Rex → ℕ → ℕ
reg_number x m = 8 * x.R + m / 8 % 8

unfoldable pub low_number : Rex → ℕ → ℕ
low_number x b = 8 * x.B + b % 8

-- what mod and r/m name: a register, or the memory at a register and a displacement
pub data Operand : Type 0 where
  in_register : (r : ℕ) → Operand
  in_memory : (base disp : ℕ) → Operand

-- a displacement of one byte, extended to 32 bits by its sign
abbrev pub signed8 : ℕ → ℕ
signed8 b = pick (ltb b 128) b (0xffffff00 + b)

-- The mods 0, 1 and 2: no displacement, one byte, four bytes (table 2-2). In r/m the low bits 4 mean that a SIB byte follows, and 5 with
-- mod 0 means RIP-relative (section 2.2.1.6), both whatever B is (table 2-5). Neither is read.
abbrev with_memory : Rex → ℕ → (Operand → Next) → Next
with_memory x m k = pick (eqb (m % 8) 4) refuse (cases forms refuse (m / 64))
  where
    displaced : ℕ → Next
    displaced v = k (in_memory (low_number x m) v)

    forms : List (Arm Next)
    forms =
        0 ⇒ pick (eqb (m % 8) 5) refuse (displaced 0)
        ∷ 1 ⇒ number 1 (λ v. displaced (signed8 v))
        ∷ 2 ⇒ number 4 displaced
        ∷ []

-- ModRM: its reg, and the operand that mod and r/m name
unfoldable pub with_modrm : Rex → (ℕ → Operand → Next) → Next
with_modrm x k [] = bad
with_modrm x k (m ∷ r) =
    pick (eqb (m / 64) 3) (k (reg_number x m) (in_register (low_number x m))) (with_memory x m (k (reg_number x m))) r

abbrev by_operand : (ℕ → Next) → (ℕ → ℕ → Next) → Operand → Next
by_operand f g (in_register d) = f d
by_operand f g (in_memory b v) = g b v

abbrev on_register : (ℕ → Next) → Operand → Next
on_register f = by_operand f (λ b v. refuse)

abbrev on_memory : (ℕ → ℕ → Next) → Operand → Next
on_memory g = by_operand (λ d. refuse) g

-- reg, register
abbrev registers : Rex → (ℕ → ℕ → Next) → Next
registers x f = with_modrm x (λ n. on_register (f n))

-- An opcode's extension, the manual's /0 to /7, stands in reg. REX.R is no part of it (section 2.2.1.2).
abbrev by_extension : List (Arm Next) → ℕ → Next
by_extension arms reg = cases arms refuse (reg % 8)

abbrev only/0 : Next → ℕ → Next
only/0 k = by_extension (0 ⇒ k ∷ [])

-- 01, 09, 21, 29, 31, 39, 85
abbrev alu_form : Rex → Alu → Next
alu_form x o = registers x (λ s d. done (alu o x.width s d))

-- 89, to a register or to memory
abbrev mov_form : Rex → Next
mov_form x = with_modrm x (λ s. by_operand (λ d. done (alu MOV x.width s d)) (λ b v. done (store (size_of x) s b v)))

-- MOVZX 0F B6 and 0F B7, MOV 8B; MOV 88 and 66 89
abbrev load_form : Rex → Size → Next
load_form x z = with_modrm x (λ d. on_memory (λ b v. done (load z b d v)))

abbrev store_form : Rex → Size → Next
store_form x z = with_modrm x (λ s. on_memory (λ b v. done (store z s b v)))

-- the immediate of four bytes, and one of n to memory
abbrev alu_imm_form : Rex → ℕ → Alu → Next
alu_imm_form x d o = number 4 (λ i. done (alu_imm o x.width d i))

abbrev store_imm_form : ℕ → Size → ℕ → ℕ → Next
store_imm_form n z b v = number n (λ i. done (store_imm z b v i))

-- 81 id, group 1 of table A-6
abbrev group1 : (Alu → Next) → ℕ → Next
group1 k = by_extension (0 ⇒ k ADD ∷ 1 ⇒ k OR ∷ 4 ⇒ k AND ∷ 5 ⇒ k SUB ∷ 6 ⇒ k XOR ∷ 7 ⇒ k CMP ∷ [])

-- C1 ib and D3, group 2
abbrev group2 : (Shift → Next) → ℕ → Next
group2 k = by_extension (4 ⇒ k SHL ∷ 5 ⇒ k SHR ∷ 7 ⇒ k SAR ∷ [])

-- F7, group 3: TEST has an immediate
abbrev group3 : (Alu → Next) → (Unary → Next) → ℕ → Next
group3 t k = by_extension (0 ⇒ t TEST ∷ 3 ⇒ k NEG ∷ 4 ⇒ k MUL ∷ 6 ⇒ k DIV ∷ [])

-- FF, group 5: only CALL through a register
abbrev group5 : Next → ℕ → Next
group5 k = by_extension (2 ⇒ k ∷ [])

-- a field of four bytes
abbrev relative : Jump → Next
relative j = number 4 (λ v. got (jump j v))

-- 0F 80+cc cd: the conditions by their numbers (appendix B.1.4.7)
abbrev conditions : List (Arm Next)
conditions =
    2 ⇒ relative (jcc JB)
    ∷ 3 ⇒ relative (jcc JAE)
    ∷ 4 ⇒ relative (jcc JE)
    ∷ 5 ⇒ relative (jcc JNE)
    ∷ 6 ⇒ relative (jcc JBE)
    ∷ 7 ⇒ relative (jcc JA)
    ∷ 12 ⇒ relative (jcc JL)
    ∷ 13 ⇒ relative (jcc JGE)
    ∷ 14 ⇒ relative (jcc JLE)
    ∷ 15 ⇒ relative (jcc JG)
    ∷ []

-- The second byte of 0F (table A-3): 80+cc, BSWAP C8+r, and the loads that extend.
abbrev two_bytes : Rex → ℕ → Next
two_bytes x o =
    pick (eqb (o / 16) 8) (only_bare x (cases conditions refuse (o % 16)))
    (pick (eqb (o / 8) 25) (done (bswap x.width (low_number x o))) (only32 x (cases loads refuse o)))
  where
    loads : List (Arm Next)
    loads = 0xb6 ⇒ load_form x S8 ∷ 0xb7 ⇒ load_form x S16 ∷ []

-- One byte (table A-2). 88 without a REX would store AH, CH, DH or BH for 4 to 7 (section 3.7.2.1 of volume 1). REX.W does nothing to 88
-- and C6, whose operands are bytes (section 2.2.1.2), nor to FF /2.
abbrev one_byte : Rex → List (Arm Next)
one_byte x =
    0x01 ⇒ alu_form x ADD
    ∷ 0x09 ⇒ alu_form x OR
    ∷ 0x0f ⇒ with_byte (two_bytes x)
    ∷ 0x21 ⇒ alu_form x AND
    ∷ 0x29 ⇒ alu_form x SUB
    ∷ 0x31 ⇒ alu_form x XOR
    ∷ 0x39 ⇒ alu_form x CMP
    ∷ 0x81 ⇒ registers x (λ e d. group1 (alu_imm_form x d) e)
    ∷ 0x85 ⇒ alu_form x TEST
    ∷ 0x88 ⇒ only_rex x (store_form x S8)
    ∷ 0x89 ⇒ mov_form x
    ∷ 0x8b ⇒ load_form x (size_of x)
    ∷ 0xc1 ⇒ registers x (λ e d. group2 (λ o. number 1 (λ i. done (shift_imm o x.width d i))) e)
    ∷ 0xc3 ⇒ only_bare x (got ret)
    ∷ 0xc6 ⇒ with_modrm x (λ e a. only/0 (on_memory (store_imm_form 1 S8) a) e)
    ∷ 0xc7 ⇒ with_modrm x (λ e a. only/0 (by_operand (λ d. alu_imm_form x d MOV) (store_imm_form 4 (size_of x)) a) e)
    ∷ 0xd3 ⇒ registers x (λ e d. group2 (λ o. done (shift_cl o x.width d)) e)
    ∷ 0xe8 ⇒ only_bare x (relative call)
    ∷ 0xe9 ⇒ only_bare x (relative jmp)
    ∷ 0xf7 ⇒ registers x (λ e d. group3 (alu_imm_form x d) (λ o. done (unary o x.width d)) e)
    ∷ 0xff ⇒ registers x (λ e d. group5 (got (call_reg d)) e)
    ∷ []

-- 50+r, 58+r and B8+r: a register in the opcode. The operands of PUSH and POP are 64 bits wide whatever REX.W is (section 2.2.1.7); the
-- constant of MOV has as many bytes as its register (B8+rd id, REX.W B8+rd io). REX.R has nothing to say here.
abbrev in_opcode : Rex → ℕ → List (Arm Next)
in_opcode x d = 10 ⇒ done (push d) ∷ 11 ⇒ done (pop d) ∷ 23 ⇒ number (by_width x.width 4 8) (λ i. done (mov_imm x.width d i)) ∷ []

unfoldable pub opcode : Rex → ℕ → Next
opcode x o = cases (in_opcode x (low_number x o)) (cases (one_byte x) refuse o) (o / 8)

-- Behind 66 the operands are 16 bits wide, if REX.W does not say otherwise (section 2.2.1.2): 89 /r, C1 /0 ib, C7 /0 iw.
unfoldable pub opcode16 : Rex → ℕ → Next
opcode16 x o = only32 x (cases forms refuse o)
  where
    forms : List (Arm Next)
    forms =
        0x89 ⇒ store_form x S16
        ∷ 0xc1 ⇒ registers x (λ e d. only/0 (number 1 (λ i. done (rol16 d i))) e)
        ∷ 0xc7 ⇒ with_modrm x (λ e a. only/0 (on_memory (store_imm_form 2 S16) a) e)
        ∷ []

unfoldable pub decode : List ℕ → Read
decode [] = bad
decode (b ∷ r) = pick (eqb b 0x66) (with_rex opcode16 r) (with_rex opcode (b ∷ r))

-- code read end to end
abbrev pub read_all : List ℕ → code.Reads Plain Jump
read_all = code.read_all decode
