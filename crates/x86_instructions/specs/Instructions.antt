-- The instructions as those of the definition, and what reading answers.
use Rattle.std.specs.Prelude.{List, ℕ, drop, Option, Some, None}
use Rattle.base.specs.declared.Width.{Width}
use Rattle.base.specs.declared.Width.TheVariants.{W32, W64}
use Rattle.base.specs.declared.Size.{Size}
use Rattle.base.specs.declared.Size.TheVariants.{S32, S64}
use Rattle.x86.specs.Instr as I
use Rattle.x86.specs.Instr.{Instr, op, call_reg, ret}
use Rattle.x86.specs.Decode as X
use Rattle.x86.specs.Decode.{bad, got}
use Rattle.x86_instructions.specs.declared.Alu.{Alu}
use Rattle.x86_instructions.specs.declared.Shift.{Shift}
use Rattle.x86_instructions.specs.declared.Unary.{Unary}
use Rattle.x86_instructions.specs.declared.Cond.{Cond}
use Rattle.x86_instructions.specs.declared.Jump.{Jump}
use Rattle.x86_instructions.specs.declared.Instruction.{Instruction}

abbrev pub alu_of : Alu → I.Alu
alu_of Alu.Add = I.ADD
alu_of Alu.Or = I.OR
alu_of Alu.And = I.AND
alu_of Alu.Sub = I.SUB
alu_of Alu.Xor = I.XOR
alu_of Alu.Cmp = I.CMP
alu_of Alu.Mov = I.MOV
alu_of Alu.Test = I.TEST

abbrev pub shift_of : Shift → I.Shift
shift_of Shift.Shl = I.SHL
shift_of Shift.Shr = I.SHR
shift_of Shift.Sar = I.SAR

abbrev pub unary_of : Unary → I.Unary
unary_of Unary.Neg = I.NEG
unary_of Unary.Mul = I.MUL
unary_of Unary.Div = I.DIV

abbrev pub cond_of : Cond → I.Cond
cond_of Cond.Jb = I.JB
cond_of Cond.Jae = I.JAE
cond_of Cond.Je = I.JE
cond_of Cond.Jne = I.JNE
cond_of Cond.Jbe = I.JBE
cond_of Cond.Ja = I.JA
cond_of Cond.Jl = I.JL
cond_of Cond.Jge = I.JGE
cond_of Cond.Jle = I.JLE
cond_of Cond.Jg = I.JG

abbrev pub jump_of : Jump → I.Jump
jump_of Jump.Jmp = I.jmp
jump_of Jump.Call = I.call
jump_of (Jump.Jcc c) = I.jcc (cond_of c)

abbrev pub instr_of : Instruction → Instr ℕ
instr_of (Instruction.Push r) = op (I.push r)
instr_of (Instruction.Pop r) = op (I.pop r)
instr_of (Instruction.Alu o w s d) = op (I.alu (alu_of o) w s d)
instr_of (Instruction.AluImm o w d i) = op (I.alu_imm (alu_of o) w d i)
instr_of (Instruction.ShiftImm o w d i) = op (I.shift_imm (shift_of o) w d i)
instr_of (Instruction.ShiftCl o w d) = op (I.shift_cl (shift_of o) w d)
instr_of (Instruction.Unary o w r) = op (I.unary (unary_of o) w r)
instr_of (Instruction.MovImm w d i) = op (I.mov_imm w d i)
instr_of (Instruction.Rol16 d i) = op (I.rol16 d i)
instr_of (Instruction.Bswap w d) = op (I.bswap w d)
instr_of (Instruction.Load z b d x) = op (I.load z b d x)
instr_of (Instruction.Store z s b x) = op (I.store z s b x)
instr_of (Instruction.StoreImm z b x i) = op (I.store_imm z b x i)
instr_of (Instruction.Jump j x) = I.jump (jump_of j) x
instr_of (Instruction.CallReg r) = call_reg r
instr_of Instruction.Ret = ret

-- What reading the bytes s answers: no instruction that the reader knows, or one that is not all there; or the instruction, and where
-- the bytes behind it begin.
abbrev pub read_is : List ℕ → Option (Instruction × ℕ) → X.Read
read_is s None = bad
read_is s (Some (i, next)) = got (instr_of i) (drop next s)

-- a word of an operation's width
abbrev pub word_of : Width → Size
word_of W32 = S32
word_of W64 = S64
