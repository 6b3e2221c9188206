-- What a multiplication, a division or a modulo becomes: `emit_muldivmod` of the Rust. The registers are machine numbers.
use Rattle.std.specs.Prelude.{Bool, true, false, not, List, [], ◌∷◌, ◌++◌, ℕ, ◌+◌, eqb}
use Rattle.base.specs.Pick.{pick}
use Rattle.base.specs.declared.Width.{Width}
use Rattle.base.specs.declared.Width.TheVariants.{W32, W64}
use Rattle.ebpf.specs.declared.kind.MulOp.{MulOp}
use Rattle.ebpf.specs.declared.kind.MulOp.TheVariants.{Mul, Div, Mod}
use Rattle.x86.specs.Registers.{RAX, RCX, RDX}
use Rattle.x86.specs.Instr.{Instr, op, push, pop, alu, alu_imm, unary, jump, jmp, jcc, MOV, XOR, TEST, MUL, DIV, JE, JNE}
use Rattle.x86.specs.Code.{Dest, near, to, size}
use Rattle.jit.specs.declared.Mode.{Mode}
use Rattle.jit.specs.Constants.{loaded}

abbrev pub Code : Type 0
Code = List (Instr Dest)

abbrev pub when : Bool → Code → Code
when b c = pick b c []

abbrev pub unless_is : ℕ → ℕ → Code → Code
unless_is r s c = pick (eqb r s) [] c

-- MUL and DIV by the immediate 0 clear dst; MOD by it does nothing
abbrev pub by_zero : MulOp → (dst : ℕ) → Code
by_zero Mul dst = op (alu XOR W32 dst dst) ∷ []
by_zero Div dst = op (alu XOR W32 dst dst) ∷ []
by_zero Mod dst = []

-- Where the divisor is a register, it is tested: DIV by zero clears dst and goes to the next slot, MOD by zero goes there at once.
-- The Rust leaves the slot's number in RCX first.
abbrev pub div_by_zero : (slot dst : ℕ) → Code
div_by_zero slot dst = op (alu XOR W32 dst dst) ∷ jump jmp (to (slot + 1)) ∷ []

abbrev pub tested : Mode → (slot : ℕ) → Width → (src : ℕ) → Code
tested m slot w src = op (loaded m (alu_imm MOV W64 RCX slot)) ∷ op (alu TEST w src src) ∷ []

abbrev pub guard : Mode → MulOp → (slot : ℕ) → Width → (src dst : ℕ) → Code
guard m Mul slot w src dst = []
guard m Div slot w src dst = tested m slot w src ++ (jump (jcc JNE) (near (size (div_by_zero slot dst))) ∷ div_by_zero slot dst)
guard m Mod slot w src dst = tested m slot w src ++ (jump (jcc JE) (to (slot + 1)) ∷ [])

-- RDX:RAX times or over RCX; a division's upper half is cleared
abbrev pub operate : MulOp → Width → Code
operate Mul w = op (unary MUL w RCX) ∷ []
operate Div w = op (alu XOR W32 RDX RDX) ∷ op (unary DIV w RCX) ∷ []
operate Mod w = op (alu XOR W32 RDX RDX) ∷ op (unary DIV w RCX) ∷ []

-- the result is in RAX, for MOD in RDX
abbrev pub from_rax : MulOp → Bool
from_rax Mul = true
from_rax Div = true
from_rax Mod = false

-- a register that is in use, r, is saved and comes back, unless it is dst itself; where it holds the result, dst gets that first
abbrev pub saved : (dst r : ℕ) → Code
saved dst r = unless_is dst r (op (push r) ∷ [])

abbrev pub restored : (dst r : ℕ) → (result : Bool) → Code
restored dst r result = unless_is dst r (when result (op (alu MOV W64 r dst) ∷ []) ++ (op (pop r) ∷ []))

abbrev pub saves : (dst : ℕ) → Code
saves dst = saved dst RAX ++ saved dst RDX

abbrev pub restores : MulOp → (dst : ℕ) → Code
restores o dst = restored dst RDX (not (from_rax o)) ++ restored dst RAX (from_rax o)

-- the operation on dst, once the second operand is in RCX
abbrev pub operated : MulOp → Width → (dst : ℕ) → Code
operated o w dst = op (alu MOV W64 dst RAX) ∷ (operate o w ++ restores o dst)

-- `operand` brings the second operand to RCX
abbrev pub computed : MulOp → Width → (operand : Code) → (dst : ℕ) → Code
computed o w operand dst = saves dst ++ (operand ++ operated o w dst)

abbrev pub mul_div_mod_imm : Mode → MulOp → Width → (dst imm : ℕ) → Code
mul_div_mod_imm m o w dst imm = pick (eqb imm 0) (by_zero o dst) (computed o w (op (loaded m (alu_imm MOV W64 RCX imm)) ∷ []) dst)

abbrev pub mul_div_mod_reg : Mode → MulOp → (slot : ℕ) → Width → (src dst : ℕ) → Code
mul_div_mod_reg m o slot w src dst = guard m o slot w src dst ++ computed o w (op (alu MOV W64 src RCX) ∷ []) dst
