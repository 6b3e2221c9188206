-- What the reader's contracts rule out: for each, two wrong answers to the same bytes. A contract is given here as it stands in the source, of
-- an answer r at the start of the bytes s.
use mathlib.Core.Path.{◌≡◌, refl, ap}
use mathlib.Core.Bool.{true, false}
use mathlib.Core.List.{List, [], ◌∷◌, ◌++◌}
use Prim.Native.Nat.{ℕ, ◌+◌}
use native.Mathlib.Omega.{arith}
use lib.ListN.{drop}
use Rattle.base.specs.Bytes.{join}
use Rattle.base.specs.declared.Width.TheVariants.{W32, W64}
use Rattle.base.specs.declared.Size.TheVariants.{S8, S16, S32, S64}
use Rattle.x86.specs.Encode as E
use Rattle.x86.specs.Encode.{encode}
use Rattle.x86.specs.Decode as X
use Rattle.x86.specs.Decode.{bad, got, number, rex_of, with_rex, reg_number, low_number, with_modrm, opcode, opcode16}
use Rattle.x86_encoding.specs.Operand.{rex_is}
use Rattle.x86_encoding.specs.declared.operand.Rex.{Rex}
use Rattle.x86_instructions.specs.Instructions.{read_is}
use Rattle.x86_instructions.specs.declared.Alu.{Alu}
use Rattle.x86_instructions.specs.declared.Shift.{Shift}
use Rattle.x86_instructions.specs.declared.Unary.{Unary}
use Rattle.x86_instructions.specs.declared.Instruction.{Instruction}
use Rattle.std.specs.Prelude.{Option, Some, None}
use Rattle.x86_forms.specs.Forms.{Stores, Rotates}
use Rattle.x86_forms.proofs.ByRex.{store_byte, store_two, rotate16}
use Rattle.x86_reader.specs.Onward.{Onward}

abbrev Answer : Type 0
Answer = Option (Instruction × ℕ)

-- The contract of `decode`; of the group behind an opcode byte, with and without a REX ahead of it.
abbrev Decodes : List ℕ → Answer → Type 0
Decodes s r = (X.decode (drop 0 s) ≡ read_is s r) × Onward s 0 r

abbrev Groups : Rex → ℕ → List ℕ → Answer → Type 0
Groups x o s r = opcode (rex_is x) o (drop 0 s) ≡ read_is s r

abbrev bare : Rex
bare = record { there = false; width = W32; r = false; b = false }

abbrev wide : Rex
wide = record { there = true; width = W64; r = false; b = false }

abbrev high : Rex
high = record { there = true; width = W32; r = false; b = true }

-- What was read, in one number: its bytes, and those behind it. Two that differ in it are not the same.
abbrev told : X.Read → ℕ
told bad = 0
told (got i l) = 1 + join (encode i ++ l)

-- mov rax, [rdi - 128]; ret: the displacement taken as unsigned; base and destination swapped; 32 bits; the next place one byte late; none
abbrev loads : List ℕ
loads = 0x48 ∷ 0x8b ∷ 0x47 ∷ 0x80 ∷ 0xc3 ∷ []

pub decodes :
    (Decodes loads (Some (Instruction.Load S64 7 0 128, 4)) → ⊥)
    × ((Decodes loads (Some (Instruction.Load S64 0 7 0xffffff80, 4)) → ⊥)
    × ((Decodes loads (Some (Instruction.Load S32 7 0 0xffffff80, 4)) → ⊥)
    × ((Decodes loads (Some (Instruction.Load S64 7 0 0xffffff80, 5)) → ⊥) × (Decodes loads None → ⊥))))
unfolding X.decode with_rex rex_of opcode with_modrm reg_number low_number number E.rex E.modrm E.memory E.bare E.short
decodes = (
  λ h. omega (arith, ap told h.0),
  (
    λ h. omega (arith, ap told h.0),
    (λ h. omega (arith, ap told h.0), (λ h. omega (arith, ap told h.0), λ h. omega (arith, ap told h.0))),
  ),
)

-- A byte that begins no instruction, read as one; a next place behind the end.
pub ends : (Decodes (0x00 ∷ []) (Some (Instruction.Ret, 1)) → ⊥) × (Decodes (0xc3 ∷ []) (Some (Instruction.Ret, 2)) → ⊥)
unfolding X.decode with_rex opcode
ends = (λ h. omega (arith, ap told h.0), λ h. omega (arith, h.1.1))

-- group1_at, sub edi, 0x08070605: /5 read as CMP; a constant of one byte
abbrev subtracts : List ℕ
subtracts = 0xef ∷ 5 ∷ 6 ∷ 7 ∷ 8 ∷ []

pub group1 :
    (Groups bare 0x81 subtracts (Some (Instruction.AluImm Alu.Cmp W32 7 0x08070605, 5)) → ⊥)
    × (Groups bare 0x81 subtracts (Some (Instruction.AluImm Alu.Sub W32 7 5, 2)) → ⊥)
unfolding opcode with_modrm reg_number low_number number E.rex E.modrm E.memory E.bare E.short
group1 = (λ e. omega (arith, ap told e), λ e. omega (arith, ap told e))

-- group2_imm_at, shr edi, 3: /5 read as SAR; the count left behind
pub group2-imm :
    (Groups bare 0xc1 (0xef ∷ 3 ∷ []) (Some (Instruction.ShiftImm Shift.Sar W32 7 3, 2)) → ⊥)
    × (Groups bare 0xc1 (0xef ∷ 3 ∷ []) (Some (Instruction.ShiftImm Shift.Shr W32 7 3, 1)) → ⊥)
unfolding opcode with_modrm reg_number low_number number E.rex E.modrm E.memory E.bare E.short
group2-imm = (λ e. omega (arith, ap told e), λ e. omega (arith, ap told e))

-- group2_cl_at, shl edi, cl: /4 read as SHR; a count taken where there is none
pub group2-cl :
    (Groups bare 0xd3 (0xe7 ∷ 3 ∷ []) (Some (Instruction.ShiftCl Shift.Shr W32 7, 1)) → ⊥)
    × (Groups bare 0xd3 (0xe7 ∷ 3 ∷ []) (Some (Instruction.ShiftCl Shift.Shl W32 7, 2)) → ⊥)
unfolding opcode with_modrm reg_number low_number number E.rex E.modrm E.memory E.bare E.short
group2-cl = (λ e. omega (arith, ap told e), λ e. omega (arith, ap told e))

-- group3_at, div rcx: /6 read as MUL; REX.W forgotten
pub group3 :
    (Groups wide 0xf7 (0xf1 ∷ []) (Some (Instruction.Unary Unary.Mul W64 1, 1)) → ⊥)
    × (Groups wide 0xf7 (0xf1 ∷ []) (Some (Instruction.Unary Unary.Div W32 1, 1)) → ⊥)
unfolding opcode with_modrm reg_number low_number number E.rex E.modrm E.memory E.bare E.short
group3 = (λ e. omega (arith, ap told e), λ e. omega (arith, ap told e))

-- group5_at: call r8 without REX.B; /4, which is a jump, read as a call
pub group5 :
    (Groups high 0xff (0xd0 ∷ []) (Some (Instruction.CallReg 0, 1)) → ⊥) × (Groups bare 0xff (0xe0 ∷ []) (Some (Instruction.CallReg 0, 1)) → ⊥)
unfolding opcode with_modrm reg_number low_number number E.rex E.modrm E.memory E.bare E.short
group5 = (λ e. omega (arith, ap told e), λ e. omega (arith, ap told e))

-- move_constant_at, mov edi, 0x08070605: at 64 bits; to memory
abbrev moves : List ℕ
moves = 0xc7 ∷ 5 ∷ 6 ∷ 7 ∷ 8 ∷ []

pub move-constant :
    (Groups bare 0xc7 moves (Some (Instruction.AluImm Alu.Mov W64 7 0x08070605, 5)) → ⊥)
    × (Groups bare 0xc7 moves (Some (Instruction.StoreImm S32 7 0 0x08070605, 5)) → ⊥)
unfolding opcode with_modrm reg_number low_number number E.rex E.modrm E.memory E.bare E.short
move-constant = (λ e. omega (arith, ap told e), λ e. omega (arith, ap told e))

-- constant_at: movabs rax, 0x0807060504030201 and mov r8d, 0x04030201
abbrev constants : List ℕ
constants = 1 ∷ 2 ∷ 3 ∷ 4 ∷ 5 ∷ 6 ∷ 7 ∷ 8 ∷ []

-- their right readings, with REX.W, with REX.B and without a REX
pub right-constants :
    Groups wide 0xb8 constants (Some (Instruction.MovImm W64 0 0x0807060504030201, 8))
    × (Groups high 0xb8 constants (Some (Instruction.MovImm W32 8 0x04030201, 4))
    × Groups bare 0xb8 constants (Some (Instruction.MovImm W32 0 0x04030201, 4)))
unfolding opcode low_number number
right-constants = (refl, (refl, refl))

-- where REX.W is set, four bytes at 64 bits, and at 32
pub wide-constant :
    (Groups wide 0xb8 constants (Some (Instruction.MovImm W64 0 0x04030201, 4)) → ⊥)
    × (Groups wide 0xb8 constants (Some (Instruction.MovImm W32 0 0x04030201, 4)) → ⊥)
unfolding opcode low_number number E.rex
wide-constant = (λ e. omega (arith, ap told e), λ e. omega (arith, ap told e))

-- where it is not, eight bytes, and four at 64 bits; REX.B forgotten; none without a REX
pub narrow-constant :
    (Groups high 0xb8 constants (Some (Instruction.MovImm W64 8 0x0807060504030201, 8)) → ⊥)
    × ((Groups high 0xb8 constants (Some (Instruction.MovImm W64 8 0x04030201, 4)) → ⊥)
    × ((Groups high 0xb8 constants (Some (Instruction.MovImm W32 0 0x04030201, 4)) → ⊥) × (Groups bare 0xb8 constants None → ⊥)))
unfolding opcode low_number number E.rex
narrow-constant = (
  λ e. omega (arith, ap told e),
  (λ e. omega (arith, ap told e), (λ e. omega (arith, ap told e), λ e. omega (arith, ap told e))),
)

-- Those whose contract is `Stores` or `Rotates` are groups too.
byte-group : (s : List ℕ) (r : Answer) → (Groups bare 0xc6 s r → ⊥) → Stores 1 S8 (rex_is bare) s 0 (read_is s r) → ⊥
byte-group s r n h = n (store_byte (rex_is bare) s 0 (read_is s r) h)

two-group : (s : List ℕ) (r : Answer) → (opcode16 (rex_is bare) 0xc7 s ≡ read_is s r → ⊥) → Stores 2 S16 (rex_is bare) s 0 (read_is s r) → ⊥
two-group s r n h = n (store_two false 0 0 W32 s 0 (read_is s r) refl h)

turn-group : (s : List ℕ) (r : Answer) → (opcode16 (rex_is bare) 0xc1 s ≡ read_is s r → ⊥) → Rotates (rex_is bare) s 0 (read_is s r) → ⊥
turn-group s r n h = n (rotate16 false 0 0 W32 s 0 (read_is s r) refl h)

-- store_byte_at, mov byte [rdi - 128], 9: the displacement taken as unsigned; displacement and constant swapped
abbrev stores_byte : List ℕ
stores_byte = 0x47 ∷ 0x80 ∷ 9 ∷ []

abbrev unsigned : Answer
unsigned = Some (Instruction.StoreImm S8 7 128 9, 3)

abbrev swapped : Answer
swapped = Some (Instruction.StoreImm S8 7 9 0x80, 3)

pub store_bytes :
    (Stores 1 S8 (rex_is bare) stores_byte 0 (read_is stores_byte unsigned) → ⊥)
    × (Stores 1 S8 (rex_is bare) stores_byte 0 (read_is stores_byte swapped) → ⊥)
unfolding opcode with_modrm reg_number low_number number E.rex E.modrm E.memory E.bare E.short
store_bytes = (byte-group stores_byte unsigned (λ e. omega (arith, ap told e)), byte-group stores_byte swapped (λ e. omega (arith, ap told e)))

-- store_two_at, mov word [rdi], 0x1234: the higher byte first; a constant of one byte
abbrev stores_two : List ℕ
stores_two = 0x07 ∷ 0x34 ∷ 0x12 ∷ []

abbrev higher_first : Answer
higher_first = Some (Instruction.StoreImm S16 7 0 0x3412, 3)

abbrev one_byte : Answer
one_byte = Some (Instruction.StoreImm S16 7 0 0x34, 2)

pub store-twos :
    (Stores 2 S16 (rex_is bare) stores_two 0 (read_is stores_two higher_first) → ⊥)
    × (Stores 2 S16 (rex_is bare) stores_two 0 (read_is stores_two one_byte) → ⊥)
unfolding opcode with_modrm reg_number low_number number E.rex E.modrm E.memory E.bare E.short opcode16
store-twos = (two-group stores_two higher_first (λ e. omega (arith, ap told e)), two-group stores_two one_byte (λ e. omega (arith, ap told e)))

-- rotate_at, rol di, 8: register and count swapped; the count left behind
abbrev turns : List ℕ
turns = 0xc7 ∷ 8 ∷ []

abbrev crossed : Answer
crossed = Some (Instruction.Rol16 8 7, 2)

abbrev uncounted : Answer
uncounted = Some (Instruction.Rol16 7 8, 1)

pub rotates : (Rotates (rex_is bare) turns 0 (read_is turns crossed) → ⊥) × (Rotates (rex_is bare) turns 0 (read_is turns uncounted) → ⊥)
unfolding opcode with_modrm reg_number low_number number E.rex E.modrm E.memory E.bare E.short opcode16
rotates = (turn-group turns crossed (λ e. omega (arith, ap told e)), turn-group turns uncounted (λ e. omega (arith, ap told e)))
