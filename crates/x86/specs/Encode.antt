-- The bytes of each instruction: Intel 64 manual, volume 2. The prefix 66, then REX, then the opcode, ModRM, displacement, immediate
-- (section 2.1); REX 0100WRXB (section 2.2.1), written where one of its bits is set, and always by a store of a register's byte; ModRM's
-- mod, reg and r/m (section 2.1.5, table 2-2).
use Rattle.std.specs.Prelude.{Bool, true, not, ◌&&◌, List, [], ◌∷◌, ◌++◌, ℕ, ◌+◌, ◌*◌, ◌/◌, ◌%◌, ◌^◌, ltb, eqb, length}
use Rattle.base.specs.Pick.{pick}
use Rattle.code.specs.Instr.{Isa}
use Rattle.code.specs.Code as code
use Rattle.code.specs.Jumps.{conditional, plain_jump, local_call}
use Rattle.base.specs.Bytes.{le16, le32, le64}
use Rattle.base.specs.declared.Width.{Width}
use Rattle.base.specs.declared.Width.TheVariants.{W32, W64}
use Rattle.base.specs.declared.Size.{Size}
use Rattle.base.specs.declared.Size.TheVariants.{S8, S16, S32, S64}
use Rattle.x86.specs.Instr.{Alu, ADD, OR, AND, SUB, XOR, CMP, MOV, TEST, Shift, SHL, SHR, SAR, Unary, NEG, MUL, DIV, Cond, JB, JAE, JE, JNE, JBE, JA, JL}
use Rattle.x86.specs.Instr.{JGE, JLE, JG, Plain, push, pop, alu, alu_imm, shift_imm, shift_cl, unary, mov_imm, rol16, bswap, load, store, store_imm, Jump, jmp}
use Rattle.x86.specs.Instr.{call, jcc, Instr}

-- The opcode bytes, each under its page of the manual.

-- r/m, reg: 01 /r, 09 /r, 21 /r, 29 /r, 31 /r, 39 /r, 89 /r, 85 /r
abbrev pub alu_opcode : Alu → ℕ
alu_opcode ADD = 0x01
alu_opcode OR = 0x09
alu_opcode AND = 0x21
alu_opcode SUB = 0x29
alu_opcode XOR = 0x31
alu_opcode CMP = 0x39
alu_opcode MOV = 0x89
alu_opcode TEST = 0x85

-- r/m, imm32: 81 /0, /1, /4, /5, /6, /7; C7 /0; F7 /0
abbrev pub alu_imm_opcode : Alu → ℕ
alu_imm_opcode ADD = 0x81
alu_imm_opcode OR = 0x81
alu_imm_opcode AND = 0x81
alu_imm_opcode SUB = 0x81
alu_imm_opcode XOR = 0x81
alu_imm_opcode CMP = 0x81
alu_imm_opcode MOV = 0xc7
alu_imm_opcode TEST = 0xf7

abbrev pub alu_extension : Alu → ℕ
alu_extension ADD = 0
alu_extension OR = 1
alu_extension AND = 4
alu_extension SUB = 5
alu_extension XOR = 6
alu_extension CMP = 7
alu_extension MOV = 0
alu_extension TEST = 0

-- C1 ib and D3: /4, /5, /7
abbrev pub shift_extension : Shift → ℕ
shift_extension SHL = 4
shift_extension SHR = 5
shift_extension SAR = 7

-- F7: /3, /4, /6
abbrev pub unary_extension : Unary → ℕ
unary_extension NEG = 3
unary_extension MUL = 4
unary_extension DIV = 6

-- 0F 80 + cc cd: the condition's number (appendix B.1.4.7)
abbrev pub cond_number : Cond → ℕ
cond_number JB = 2
cond_number JAE = 3
cond_number JE = 4
cond_number JNE = 5
cond_number JBE = 6
cond_number JA = 7
cond_number JL = 12
cond_number JGE = 13
cond_number JLE = 14
cond_number JG = 15

-- REX.W
abbrev pub wide : Width → ℕ
wide W32 = 0
wide W64 = 1

abbrev pub wide_size : Size → ℕ
wide_size S8 = 0
wide_size S16 = 0
wide_size S32 = 0
wide_size S64 = 1

-- W, R and B; the tops of the register numbers in reg and r/m are R and B
abbrev pub rex_bits : ℕ → ℕ → ℕ → ℕ
rex_bits w r b = 8 * w + 4 * (r / 8) + b / 8

-- The one rule for the prefix: it is left out where none of its bits is set, unless it is forced.
abbrev pub rex_rule : Bool → ℕ → ℕ → ℕ → List ℕ
rex_rule force w r b = pick (not force && eqb (rex_bits w r b) 0) [] ((0x40 + rex_bits w r b) ∷ [])

abbrev pub forced : Bool
forced = true

-- .. where nothing forces it
unfoldable pub rex : ℕ → ℕ → ℕ → List ℕ
rex w r b = rex_rule (not forced) w r b

unfoldable pub modrm : ℕ → ℕ → ℕ → ℕ
modrm m r b = 64 * m + 8 * (r % 8) + b % 8

-- The displacement's form is ModRM's mod. 0 has no displacement, and may not be used on RBP and R13, whose low bits are 5: there it
-- means RIP-relative. 1 has one byte, -128 to 127, and 2 four.
unfoldable pub bare : ℕ → ℕ → Bool
bare base disp = eqb disp 0 && not (eqb (base % 8) 5)

unfoldable pub short : ℕ → Bool
short disp = ltb ((disp + 128) % 2 ^ 32) 256

unfoldable pub memory : ℕ → ℕ → ℕ → List ℕ
memory reg base disp =
    pick (bare base disp) (modrm 0 reg base ∷ [])
    (pick (short disp) (modrm 1 reg base ∷ disp % 256 ∷ []) (modrm 2 reg base ∷ le32 disp))

-- MOVZX 0F B6 and 0F B7, MOV 8B
abbrev pub load_opcode : Size → List ℕ
load_opcode S8 = 0x0f ∷ 0xb6 ∷ []
load_opcode S16 = 0x0f ∷ 0xb7 ∷ []
load_opcode S32 = 0x8b ∷ []
load_opcode S64 = 0x8b ∷ []

-- the operand size prefix
abbrev pub prefix66 : Size → List ℕ
prefix66 S8 = []
prefix66 S16 = 0x66 ∷ []
prefix66 S32 = []
prefix66 S64 = []

-- A store of a register's byte forces the REX: without one the numbers 4 to 7 mean AH, CH, DH and BH (section 3.7.2.1 of volume 1).
abbrev pub store_rex : Size → ℕ → ℕ → List ℕ
store_rex S8 src base = rex_rule forced 0 src base
store_rex S16 src base = rex 0 src base
store_rex S32 src base = rex 0 src base
store_rex S64 src base = rex 1 src base

abbrev pub store_opcode : Size → ℕ
store_opcode S8 = 0x88
store_opcode S16 = 0x89
store_opcode S32 = 0x89
store_opcode S64 = 0x89

abbrev pub store_imm_opcode : Size → ℕ
store_imm_opcode S8 = 0xc6
store_imm_opcode S16 = 0xc7
store_imm_opcode S32 = 0xc7
store_imm_opcode S64 = 0xc7

-- as much of the immediate as is stored, at most four bytes
abbrev pub imm_bytes : Size → ℕ → List ℕ
imm_bytes S8 i = i % 256 ∷ []
imm_bytes S16 i = le16 i
imm_bytes S32 i = le32 i
imm_bytes S64 i = le32 i

-- B8+rd id, REX.W B8+rd io: all of the constant
abbrev pub constant_bytes : Width → ℕ → List ℕ
constant_bytes W32 i = le32 i
constant_bytes W64 i = le64 i

abbrev pub encode_plain : Plain → List ℕ
encode_plain (push r) = rex 0 0 r ++ ((0x50 + r % 8) ∷ [])
encode_plain (pop r) = rex 0 0 r ++ ((0x58 + r % 8) ∷ [])
encode_plain (alu o w s d) = rex (wide w) s d ++ (alu_opcode o ∷ modrm 3 s d ∷ [])
encode_plain (alu_imm o w d i) = rex (wide w) 0 d ++ (alu_imm_opcode o ∷ modrm 3 (alu_extension o) d ∷ le32 i)
encode_plain (shift_imm o w d i) = rex (wide w) 0 d ++ (0xc1 ∷ modrm 3 (shift_extension o) d ∷ i ∷ [])
encode_plain (shift_cl o w d) = rex (wide w) 0 d ++ (0xd3 ∷ modrm 3 (shift_extension o) d ∷ [])
encode_plain (unary o w r) = rex (wide w) 0 r ++ (0xf7 ∷ modrm 3 (unary_extension o) r ∷ [])
encode_plain (mov_imm w d i) = rex (wide w) 0 d ++ ((0xb8 + d % 8) ∷ constant_bytes w i)
encode_plain (rol16 d i) = 0x66 ∷ (rex 0 0 d ++ (0xc1 ∷ modrm 3 0 d ∷ i ∷ []))
encode_plain (bswap w d) = rex (wide w) 0 d ++ (0x0f ∷ (0xc8 + d % 8) ∷ [])
encode_plain (load z b d x) = rex (wide_size z) d b ++ (load_opcode z ++ memory d b x)
encode_plain (store z s b x) = prefix66 z ++ (store_rex z s b ++ (store_opcode z ∷ memory s b x))
encode_plain (store_imm z b x i) = prefix66 z ++ (rex (wide_size z) 0 b ++ (store_imm_opcode z ∷ (memory 0 b x ++ imm_bytes z i)))

-- JMP E9 cd, CALL E8 cd, Jcc 0F 80+cc cd
abbrev pub jump_opcode : Jump → List ℕ
jump_opcode jmp = 0xe9 ∷ []
jump_opcode call = 0xe8 ∷ []
jump_opcode (jcc c) = 0x0f ∷ (0x80 + cond_number c) ∷ []

-- what a jump's record says of it
abbrev pub jump_kind : Jump → ℕ
jump_kind jmp = plain_jump
jump_kind call = local_call
jump_kind (jcc c) = conditional

-- CALL FF /2, RET C3. The word behind a jump's opcode is its distance.
abbrev pub isa : Isa Plain Jump
isa =
    record {
      plain = encode_plain;
      head = jump_opcode;
      kind = jump_kind;
      word = λ j distance. distance;
      patch = λ old distance. distance;
      through = λ r. rex 0 0 r ++ (0xff ∷ modrm 3 2 r ∷ []);
      through_len = λ r. length (rex 0 0 r) + 2;
      back = 0xc3 ∷ [];
    }

abbrev pub encode : Instr ℕ → List ℕ
encode = code.encode isa

abbrev pub len : {D : Type 0} → Instr D → ℕ
len {D} i = code.len isa {D = D} i
