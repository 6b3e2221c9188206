-- The text of an instruction in Intel syntax: the mnemonic, the destination, the source. The operands' own texts are
-- x86_operands/specs/Operands.antt.
use Rattle.std.specs.Prelude.{List, [], ◌∷◌, ◌++◌, ℕ}
use Rattle.base.specs.declared.Width.{Width}
use Rattle.base.specs.declared.Width.TheVariants.{W32, W64}
use Rattle.base.specs.declared.Size.{Size}
use Rattle.base.specs.declared.Size.TheVariants.{S8, S16, S32, S64}
use Rattle.x86_instructions.specs.Instructions.{word_of}
use Rattle.x86_instructions.specs.declared.Alu.{Alu}
use Rattle.x86_instructions.specs.declared.Shift.{Shift}
use Rattle.x86_instructions.specs.declared.Unary.{Unary}
use Rattle.x86_instructions.specs.declared.Cond.{Cond}
use Rattle.x86_instructions.specs.declared.Jump.{Jump}
use Rattle.x86_instructions.specs.declared.Instruction.{Instruction}
use Rattle.text.specs.Text.{ascii}
use Rattle.text.specs.Forms.{formed}
use Rattle.x86_registers.specs.Registers.{register_text}
use Rattle.x86_operands.specs.Operands.{constant_of, destination_of, pair_text, with_constant_text, load_text, store_text, store_constant_text}

-- the operands by the instruction's width, and a shift by CL
unfoldable pub arithmetic_text : Width → ℕ → ℕ → List ℕ
arithmetic_text w d i = with_constant_text (word_of w) d (constant_of (word_of w) i)

unfoldable pub by_count_text : Size → ℕ → List ℕ
by_count_text z d = register_text z d ++ ascii ",cl"

abbrev pub operands_text : Instruction → ℕ → List ℕ
operands_text (Instruction.Push r) end = register_text S64 r
operands_text (Instruction.Pop r) end = register_text S64 r
operands_text (Instruction.Alu o w s d) end = pair_text (word_of w) d s
operands_text (Instruction.AluImm o w d i) end = arithmetic_text w d i
operands_text (Instruction.ShiftImm o w d i) end = with_constant_text (word_of w) d i
operands_text (Instruction.ShiftCl o w d) end = by_count_text (word_of w) d
operands_text (Instruction.Unary o w r) end = register_text (word_of w) r
operands_text (Instruction.MovImm w d i) end = with_constant_text (word_of w) d i
operands_text (Instruction.Rol16 d i) end = with_constant_text S16 d i
operands_text (Instruction.Bswap w d) end = register_text (word_of w) d
operands_text (Instruction.Load z b d v) end = load_text z b d v
operands_text (Instruction.Store z s b v) end = store_text z s b v
operands_text (Instruction.StoreImm z b v i) end = store_constant_text z b v i
operands_text (Instruction.Jump j x) end = formed (ascii "0x$") (destination_of end x ∷ [])
operands_text (Instruction.CallReg r) end = register_text S64 r
operands_text Instruction.Ret end = []

-- the mnemonics
abbrev pub alu_name : Alu → List ℕ
alu_name Alu.Add = ascii "add "
alu_name Alu.Or = ascii "or "
alu_name Alu.And = ascii "and "
alu_name Alu.Sub = ascii "sub "
alu_name Alu.Xor = ascii "xor "
alu_name Alu.Cmp = ascii "cmp "
alu_name Alu.Mov = ascii "mov "
alu_name Alu.Test = ascii "test "

abbrev pub shift_name : Shift → List ℕ
shift_name Shift.Shl = ascii "shl "
shift_name Shift.Shr = ascii "shr "
shift_name Shift.Sar = ascii "sar "

abbrev pub unary_name : Unary → List ℕ
unary_name Unary.Neg = ascii "neg "
unary_name Unary.Mul = ascii "mul "
unary_name Unary.Div = ascii "div "

abbrev pub cond_name : Cond → List ℕ
cond_name Cond.Jb = ascii "jb "
cond_name Cond.Jae = ascii "jae "
cond_name Cond.Je = ascii "je "
cond_name Cond.Jne = ascii "jne "
cond_name Cond.Jbe = ascii "jbe "
cond_name Cond.Ja = ascii "ja "
cond_name Cond.Jl = ascii "jl "
cond_name Cond.Jge = ascii "jge "
cond_name Cond.Jle = ascii "jle "
cond_name Cond.Jg = ascii "jg "

abbrev pub jump_name : Jump → List ℕ
jump_name Jump.Jmp = ascii "jmp "
jump_name Jump.Call = ascii "call "
jump_name (Jump.Jcc c) = cond_name c

-- B8+r: with eight bytes of constant it has a name of its own
abbrev pub mov_imm_name : Width → List ℕ
mov_imm_name W32 = ascii "mov "
mov_imm_name W64 = ascii "movabs "

abbrev pub load_name : Size → List ℕ
load_name S8 = ascii "movzx "
load_name S16 = ascii "movzx "
load_name S32 = ascii "mov "
load_name S64 = ascii "mov "

abbrev pub mnemonic_text : Instruction → List ℕ
mnemonic_text (Instruction.Push r) = ascii "push "
mnemonic_text (Instruction.Pop r) = ascii "pop "
mnemonic_text (Instruction.Alu o w s d) = alu_name o
mnemonic_text (Instruction.AluImm o w d i) = alu_name o
mnemonic_text (Instruction.ShiftImm o w d i) = shift_name o
mnemonic_text (Instruction.ShiftCl o w d) = shift_name o
mnemonic_text (Instruction.Unary o w r) = unary_name o
mnemonic_text (Instruction.MovImm w d i) = mov_imm_name w
mnemonic_text (Instruction.Rol16 d i) = ascii "rol "
mnemonic_text (Instruction.Bswap w d) = ascii "bswap "
mnemonic_text (Instruction.Load z b d v) = load_name z
mnemonic_text (Instruction.Store z s b v) = ascii "mov "
mnemonic_text (Instruction.StoreImm z b v i) = ascii "mov "
mnemonic_text (Instruction.Jump j x) = jump_name j
mnemonic_text (Instruction.CallReg r) = ascii "call "
mnemonic_text Instruction.Ret = ascii "ret"

-- `end` is the place behind the instruction
unfoldable pub instruction_text : Instruction → ℕ → List ℕ
instruction_text i end = mnemonic_text i ++ operands_text i end
