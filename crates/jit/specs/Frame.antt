-- The frame round the slots: the three prologues, 34, 31 and 49 bytes, and the epilogue, 16, of `jit_compile` in the Rust.
use Rattle.std.specs.Prelude.{[], ◌∷◌, ◌++◌}
use Rattle.base.specs.Pick.{pick}
use Rattle.base.specs.declared.Width.TheVariants.{W64}
use Rattle.base.specs.declared.Size.TheVariants.{S64}
use Rattle.jit.specs.declared.Flags.{Flags}
use Rattle.x86.specs.Registers.{RCX, RDX, RBX, RSP, RBP, RDI, R8, R9, R10, R13, R14, R15}
use Rattle.x86.specs.Instr.{op, push, pop, alu, alu_imm, load, store, jump, jmp, call, ret, ADD, SUB, MOV}
use Rattle.x86.specs.Code.{near, to}
use Rattle.jit.specs.Limits.{anchor}
use Rattle.jit.specs.MulDivMod.{Code}

-- what the caller keeps
unfoldable pub saves : Code
saves = op (push RBP) ∷ op (push RBX) ∷ op (push R13) ∷ op (push R14) ∷ op (push R15) ∷ []

-- the packet's address, for LD_ABS and LD_IND
abbrev pub keep_packet : Code
keep_packet = op (alu MOV W64 RDX R10) ∷ []

-- The packet's bounds, stored in the buffer: its address, and its end. What is loaded for the end is the packet's first eight bytes
-- (docs/DIFFERENCES.md).
unfoldable pub packet_start : Code
packet_start = op (alu ADD W64 RDI R8) ∷ op (store S64 RDX R8 0) ∷ []

unfoldable pub packet_end : Code
packet_end = op (load S64 RDX R8 0) ∷ op (alu ADD W64 RCX R8) ∷ op (alu ADD W64 RDI R9) ∷ op (store S64 R8 R9 0) ∷ []

-- r1: the packet; or the buffer, as it is; or the buffer, with the packet's bounds stored in it
unfoldable pub argument : Flags → Code
argument f = pick f.use_mbuff (pick f.update_data_ptr (packet_start ++ packet_end) []) (op (alu MOV W64 RDX RDI) ∷ [])

-- r10, the stack of 512 bytes, and a call over the jump to the exit: the program's last return comes back to that jump
unfoldable pub enter : Code
enter = op (alu MOV W64 RSP RBP) ∷ op (alu_imm SUB W64 RSP 512) ∷ jump call (near 5) ∷ jump jmp (to anchor) ∷ []

unfoldable pub prologue : Flags → Code
prologue f = saves ++ (keep_packet ++ (argument f ++ enter))

unfoldable pub epilogue : Code
epilogue =
    op (alu_imm ADD W64 RSP 512)
    ∷ op (pop R15)
    ∷ op (pop R14)
    ∷ op (pop R13)
    ∷ op (pop RBX)
    ∷ op (pop RBP)
    ∷ ret
    ∷ []
