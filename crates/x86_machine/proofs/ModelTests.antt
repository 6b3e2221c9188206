-- Tests of the model: 219 instructions, each stepped by antt from given registers, flags and inputs, and what comes of it. The table is
-- written by model-test/run, from a transliteration of Machine.antt that the same command holds to a real processor; do not edit it.
use mathlib.Core.Path.{◌≡◌, refl}
use mathlib.Core.Bool.{Bool, true, false}
use mathlib.Core.List.{List, [], ◌∷◌, ◌++◌, map}
use Prim.Native.Nat.{ℕ, ◌+◌}
use Rattle.base.specs.Table.{values}
use Rattle.base.specs.declared.Width.TheVariants.{W32, W64}
use Rattle.base.specs.declared.Size.TheVariants.{S8, S16, S32, S64}
use Rattle.x86.specs.Instr.{Instr, op, push, pop, alu, alu_imm, shift_imm, shift_cl, unary, mov_imm, rol16, bswap, load, store, store_imm, jump, jmp, call, jcc}
use Rattle.x86.specs.Instr.{call_reg, ret, ADD, OR, AND, SUB, XOR, CMP, MOV, TEST, SHL, SHR, SAR, NEG, MUL, DIV, JB, JAE, JE, JNE, JBE, JA, JL, JGE, JLE, JG}
use Rattle.x86.specs.Encode.{encode, rex, modrm, memory, bare, short}
use Rattle.x86.specs.Decode.{decode, with_rex, rex_of, opcode, opcode16, with_modrm, reg_number, low_number, number}
use Rattle.x86_machine.specs.Machine.{Write, write, puts, Status, Input, Frame, State, Outcome, running, finished, faulted, unbalanced, divided, astray}
use Rattle.x86_machine.specs.Machine.{rd, result, shifted, shift_status, rolled, rol_status, swapped, divides, follow, step}

abbrev I : Bool
I = true

abbrev O : Bool
O = false

abbrev st : Bool → Bool → Bool → Bool → Status
st c z s o = record { CF = c; ZF = z; SF = s; OF = o }

abbrev frame : ℕ → ℕ → Frame
frame b s = record { back = b; sp = s }

-- an instruction at place 3; the registers that are not 0; the flags; what undefined flags are; whether memory is allowed; what is loaded or
-- popped, to which a helper adds the register's number; the return address that is popped; the open calls; and what comes of it
pub record Line : Type 0 where
  pub instr : Instr ℕ
  pub start : State
  pub input : Input
  pub expected : List ℕ

abbrev line : Instr ℕ → List Write → Status → Status → Bool → (value back : ℕ) → List Frame → List ℕ → Line
line i l f u a v b k e =
    record {
      instr = i;
      start = record { pos = 3; regs = puts l (λ r. 0); flags = f; calls = k };
      input = record { allowed = a; value = v; back = b; regs = λ r. v + r; flags = u };
      expected = e;
    }

-- an outcome as numbers: which one, and of its state the position, the sixteen registers, CF ZF SF OF, and the open calls
abbrev bit : Bool → ℕ
bit true = 1
bit false = 0

abbrev frames : List Frame → List ℕ
frames [] = []
frames (f ∷ k) = f.back ∷ f.sp ∷ frames k

abbrev shown : State → List ℕ
shown s = s.pos ∷ (values s.regs 0 16 ++ (bit s.flags.CF ∷ bit s.flags.ZF ∷ bit s.flags.SF ∷ bit s.flags.OF ∷ frames s.calls))

abbrev numbered : Outcome → List ℕ
numbered (running s) = 0 ∷ shown s
numbered (finished s) = 1 ∷ shown s
numbered faulted = 2 ∷ []
numbered unbalanced = 3 ∷ []
numbered divided = 4 ∷ []
numbered astray = 5 ∷ []

abbrev comes : Line → List ℕ
comes l = numbered (step (0xcc ∷ 0xcc ∷ 0xcc ∷ encode l.instr) l.start l.input)

pub table : List Line
table =
    line (op (alu ADD W32 6 13)) (write 6 443094727 ∷ write 13 285680177 ∷ []) (st I I O I) (st I I O O) true 0 0 ([])
    (0 ∷ 6 ∷ 0 ∷ 0 ∷ 0 ∷ 0 ∷ 0 ∷ 0 ∷ 443094727 ∷ 0 ∷ 0 ∷ 0 ∷ 0 ∷ 0 ∷ 0 ∷ 728774904 ∷ 0 ∷ 0 ∷ 0 ∷ 0 ∷ 0 ∷ 0 ∷ []) ∷
    line (op (alu_imm ADD W32 9 2147483648)) (write 9 6645345695289302126 ∷ []) (st O O I I) (st O I I I) true 0 0 ([])
    (0 ∷ 10 ∷ 0 ∷ 0 ∷ 0 ∷ 0 ∷ 0 ∷ 0 ∷ 0 ∷ 0 ∷ 0 ∷ 157539438 ∷ 0 ∷ 0 ∷ 0 ∷ 0 ∷ 0 ∷ 0 ∷ 1 ∷ 0 ∷ 0 ∷ 1 ∷ []) ∷
    line (op (alu ADD W64 6 13)) (write 6 14765656407199974403 ∷ write 13 5342927661013554080 ∷ []) (st I I O I) (st O I O O) true 0 0 ([])
    (0 ∷ 6 ∷ 0 ∷ 0 ∷ 0 ∷ 0 ∷ 0 ∷ 0 ∷ 14765656407199974403 ∷ 0 ∷ 0 ∷ 0 ∷ 0 ∷ 0 ∷ 0 ∷ 1661839994503976867 ∷ 0 ∷ 0 ∷ 1 ∷ 0 ∷ 0 ∷ 0 ∷ []) ∷
    line (op (alu_imm ADD W64 9 127)) (write 9 383739014 ∷ []) (st O I O I) (st I I O I) true 0 0 ([])
    (0 ∷ 10 ∷ 0 ∷ 0 ∷ 0 ∷ 0 ∷ 0 ∷ 0 ∷ 0 ∷ 0 ∷ 0 ∷ 383739141 ∷ 0 ∷ 0 ∷ 0 ∷ 0 ∷ 0 ∷ 0 ∷ 0 ∷ 0 ∷ 0 ∷ 0 ∷ []) ∷
    line (op (alu ADD W64 3 3)) (write 3 838056227 ∷ []) (st I O O O) (st O O O O) true 0 0 ([])
    (0 ∷ 6 ∷ 0 ∷ 0 ∷ 0 ∷ 1676112454 ∷ 0 ∷ 0 ∷ 0 ∷ 0 ∷ 0 ∷ 0 ∷ 0 ∷ 0 ∷ 0 ∷ 0 ∷ 0 ∷ 0 ∷ 0 ∷ 0 ∷ 0 ∷ 0 ∷ []) ∷
    line (op (alu OR W32 6 13)) (write 6 14709264944969682117 ∷ write 13 32768 ∷ []) (st I I O I) (st O O I I) true 0 0 ([])
    (0 ∷ 6 ∷ 0 ∷ 0 ∷ 0 ∷ 0 ∷ 0 ∷ 0 ∷ 14709264944969682117 ∷ 0 ∷ 0 ∷ 0 ∷ 0 ∷ 0 ∷ 0 ∷ 3490090181 ∷ 0 ∷ 0 ∷ 0 ∷ 0 ∷ 1 ∷ 0 ∷ []) ∷
    line (op (alu_imm OR W32 9 127)) (write 9 255 ∷ []) (st I O O O) (st O O I I) true 0 0 ([])
    (0 ∷ 10 ∷ 0 ∷ 0 ∷ 0 ∷ 0 ∷ 0 ∷ 0 ∷ 0 ∷ 0 ∷ 0 ∷ 255 ∷ 0 ∷ 0 ∷ 0 ∷ 0 ∷ 0 ∷ 0 ∷ 0 ∷ 0 ∷ 0 ∷ 0 ∷ []) ∷
    line (op (alu OR W64 6 13)) (write 6 2398863728 ∷ write 13 264613955 ∷ []) (st I I I I) (st O O O I) true 0 0 ([])
    (0 ∷ 6 ∷ 0 ∷ 0 ∷ 0 ∷ 0 ∷ 0 ∷ 0 ∷ 2398863728 ∷ 0 ∷ 0 ∷ 0 ∷ 0 ∷ 0 ∷ 0 ∷ 2415915379 ∷ 0 ∷ 0 ∷ 0 ∷ 0 ∷ 0 ∷ 0 ∷ []) ∷
    line (op (alu_imm OR W64 9 2)) (write 9 110277940 ∷ []) (st I O I I) (st I O I I) true 0 0 ([])
    (0 ∷ 10 ∷ 0 ∷ 0 ∷ 0 ∷ 0 ∷ 0 ∷ 0 ∷ 0 ∷ 0 ∷ 0 ∷ 110277942 ∷ 0 ∷ 0 ∷ 0 ∷ 0 ∷ 0 ∷ 0 ∷ 0 ∷ 0 ∷ 0 ∷ 0 ∷ []) ∷
    line (op (alu OR W64 3 3)) (write 3 78114823 ∷ []) (st O I O I) (st I O I I) true 0 0 ([])
    (0 ∷ 6 ∷ 0 ∷ 0 ∷ 0 ∷ 78114823 ∷ 0 ∷ 0 ∷ 0 ∷ 0 ∷ 0 ∷ 0 ∷ 0 ∷ 0 ∷ 0 ∷ 0 ∷ 0 ∷ 0 ∷ 0 ∷ 0 ∷ 0 ∷ 0 ∷ []) ∷
    line (op (alu AND W32 6 13)) (write 6 2920765514 ∷ write 13 3840060157 ∷ []) (st O O O I) (st I O O I) true 0 0 ([])
    (0 ∷ 6 ∷ 0 ∷ 0 ∷ 0 ∷ 0 ∷ 0 ∷ 0 ∷ 2920765514 ∷ 0 ∷ 0 ∷ 0 ∷ 0 ∷ 0 ∷ 0 ∷ 2751596616 ∷ 0 ∷ 0 ∷ 0 ∷ 0 ∷ 1 ∷ 0 ∷ []) ∷
    line (op (alu_imm AND W32 9 0)) (write 9 1953288141 ∷ []) (st I I O I) (st O I O O) true 0 0 ([])
    (0 ∷ 10 ∷ 0 ∷ 0 ∷ 0 ∷ 0 ∷ 0 ∷ 0 ∷ 0 ∷ 0 ∷ 0 ∷ 0 ∷ 0 ∷ 0 ∷ 0 ∷ 0 ∷ 0 ∷ 0 ∷ 0 ∷ 1 ∷ 0 ∷ 0 ∷ []) ∷
    line (op (alu AND W64 6 13)) (write 6 3822842904239661373 ∷ write 13 128 ∷ []) (st I I O I) (st O I O I) true 0 0 ([])
    (0 ∷ 6 ∷ 0 ∷ 0 ∷ 0 ∷ 0 ∷ 0 ∷ 0 ∷ 3822842904239661373 ∷ 0 ∷ 0 ∷ 0 ∷ 0 ∷ 0 ∷ 0 ∷ 0 ∷ 0 ∷ 0 ∷ 0 ∷ 1 ∷ 0 ∷ 0 ∷ []) ∷
    line (op (alu_imm AND W64 9 127)) (write 9 3 ∷ []) (st O I I O) (st I I O O) true 0 0 ([])
    (0 ∷ 10 ∷ 0 ∷ 0 ∷ 0 ∷ 0 ∷ 0 ∷ 0 ∷ 0 ∷ 0 ∷ 0 ∷ 3 ∷ 0 ∷ 0 ∷ 0 ∷ 0 ∷ 0 ∷ 0 ∷ 0 ∷ 0 ∷ 0 ∷ 0 ∷ []) ∷
    line (op (alu AND W64 3 3)) (write 3 1884692595 ∷ []) (st O O O O) (st O I I O) true 0 0 ([])
    (0 ∷ 6 ∷ 0 ∷ 0 ∷ 0 ∷ 1884692595 ∷ 0 ∷ 0 ∷ 0 ∷ 0 ∷ 0 ∷ 0 ∷ 0 ∷ 0 ∷ 0 ∷ 0 ∷ 0 ∷ 0 ∷ 0 ∷ 0 ∷ 0 ∷ 0 ∷ []) ∷
    line (op (alu SUB W32 6 13)) (write 6 3979327571710935317 ∷ write 13 32767 ∷ []) (st O I O O) (st I O O O) true 0 0 ([])
    (0 ∷ 6 ∷ 0 ∷ 0 ∷ 0 ∷ 0 ∷ 0 ∷ 0 ∷ 3979327571710935317 ∷ 0 ∷ 0 ∷ 0 ∷ 0 ∷ 0 ∷ 0 ∷ 725679850 ∷ 0 ∷ 0 ∷ 1 ∷ 0 ∷ 0 ∷ 0 ∷ []) ∷
    line (op (alu_imm SUB W32 9 0)) (write 9 17119190516934262589 ∷ []) (st I I O I) (st I I I I) true 0 0 ([])
    (0 ∷ 10 ∷ 0 ∷ 0 ∷ 0 ∷ 0 ∷ 0 ∷ 0 ∷ 0 ∷ 0 ∷ 0 ∷ 3826925373 ∷ 0 ∷ 0 ∷ 0 ∷ 0 ∷ 0 ∷ 0 ∷ 0 ∷ 0 ∷ 1 ∷ 0 ∷ []) ∷
    line (op (alu SUB W64 6 13)) (write 6 3198575043 ∷ write 13 255 ∷ []) (st I I I O) (st O O I O) true 0 0 ([])
    (0 ∷ 6 ∷ 0 ∷ 0 ∷ 0 ∷ 0 ∷ 0 ∷ 0 ∷ 3198575043 ∷ 0 ∷ 0 ∷ 0 ∷ 0 ∷ 0 ∷ 0 ∷ 18446744070510976828 ∷ 0 ∷ 0 ∷ 1 ∷ 0 ∷ 1 ∷ 0 ∷ []) ∷
    line (op (alu_imm SUB W64 9 4294967294)) (write 9 15030889819287209554 ∷ []) (st I I I I) (st O O I O) true 0 0 ([])
    (0 ∷ 10 ∷ 0 ∷ 0 ∷ 0 ∷ 0 ∷ 0 ∷ 0 ∷ 0 ∷ 0 ∷ 0 ∷ 15030889819287209556 ∷ 0 ∷ 0 ∷ 0 ∷ 0 ∷ 0 ∷ 0 ∷ 1 ∷ 0 ∷ 1 ∷ 0 ∷ []) ∷
    line (op (alu SUB W64 3 3)) (write 3 32768 ∷ []) (st I O O O) (st I I O I) true 0 0 ([])
    (0 ∷ 6 ∷ 0 ∷ 0 ∷ 0 ∷ 0 ∷ 0 ∷ 0 ∷ 0 ∷ 0 ∷ 0 ∷ 0 ∷ 0 ∷ 0 ∷ 0 ∷ 0 ∷ 0 ∷ 0 ∷ 0 ∷ 1 ∷ 0 ∷ 0 ∷ []) ∷
    line (op (alu XOR W32 6 13)) (write 6 4970319459705284695 ∷ write 13 1995339894 ∷ []) (st I O I O) (st O I O O) true 0 0 ([])
    (0 ∷ 6 ∷ 0 ∷ 0 ∷ 0 ∷ 0 ∷ 0 ∷ 0 ∷ 4970319459705284695 ∷ 0 ∷ 0 ∷ 0 ∷ 0 ∷ 0 ∷ 0 ∷ 2166329377 ∷ 0 ∷ 0 ∷ 0 ∷ 0 ∷ 1 ∷ 0 ∷ []) ∷
    line (op (alu_imm XOR W32 9 2)) (write 9 11252679938934518244 ∷ []) (st O I I I) (st O I O I) true 0 0 ([])
    (0 ∷ 10 ∷ 0 ∷ 0 ∷ 0 ∷ 0 ∷ 0 ∷ 0 ∷ 0 ∷ 0 ∷ 0 ∷ 56308198 ∷ 0 ∷ 0 ∷ 0 ∷ 0 ∷ 0 ∷ 0 ∷ 0 ∷ 0 ∷ 0 ∷ 0 ∷ []) ∷
    line (op (alu XOR W64 6 13)) (write 6 16209291688700259536 ∷ write 13 1420101374 ∷ []) (st I I O O) (st O O I I) true 0 0 ([])
    (0 ∷ 6 ∷ 0 ∷ 0 ∷ 0 ∷ 0 ∷ 0 ∷ 0 ∷ 16209291688700259536 ∷ 0 ∷ 0 ∷ 0 ∷ 0 ∷ 0 ∷ 0 ∷ 16209291689965038126 ∷ 0 ∷ 0 ∷ 0 ∷ 0 ∷ 1 ∷ 0 ∷ []) ∷
    line (op (alu_imm XOR W64 9 1)) (write 9 32768 ∷ []) (st I O O O) (st O I I I) true 0 0 ([])
    (0 ∷ 10 ∷ 0 ∷ 0 ∷ 0 ∷ 0 ∷ 0 ∷ 0 ∷ 0 ∷ 0 ∷ 0 ∷ 32769 ∷ 0 ∷ 0 ∷ 0 ∷ 0 ∷ 0 ∷ 0 ∷ 0 ∷ 0 ∷ 0 ∷ 0 ∷ []) ∷
    line (op (alu XOR W64 3 3)) (write 3 194636621682862915 ∷ []) (st O I I O) (st O O I I) true 0 0 ([])
    (0 ∷ 6 ∷ 0 ∷ 0 ∷ 0 ∷ 0 ∷ 0 ∷ 0 ∷ 0 ∷ 0 ∷ 0 ∷ 0 ∷ 0 ∷ 0 ∷ 0 ∷ 0 ∷ 0 ∷ 0 ∷ 0 ∷ 1 ∷ 0 ∷ 0 ∷ []) ∷
    line (op (alu CMP W32 6 13)) (write 6 1003736410 ∷ write 13 491563815 ∷ []) (st I I O O) (st I I I O) true 0 0 ([])
    (0 ∷ 6 ∷ 0 ∷ 0 ∷ 0 ∷ 0 ∷ 0 ∷ 0 ∷ 1003736410 ∷ 0 ∷ 0 ∷ 0 ∷ 0 ∷ 0 ∷ 0 ∷ 491563815 ∷ 0 ∷ 0 ∷ 1 ∷ 0 ∷ 1 ∷ 0 ∷ []) ∷
    line (op (alu_imm CMP W32 9 1)) (write 9 255 ∷ []) (st O I I O) (st O O I I) true 0 0 ([])
    (0 ∷ 10 ∷ 0 ∷ 0 ∷ 0 ∷ 0 ∷ 0 ∷ 0 ∷ 0 ∷ 0 ∷ 0 ∷ 255 ∷ 0 ∷ 0 ∷ 0 ∷ 0 ∷ 0 ∷ 0 ∷ 0 ∷ 0 ∷ 0 ∷ 0 ∷ []) ∷
    line (op (alu CMP W64 6 13)) (write 6 6854864373179561863 ∷ write 13 1402542203 ∷ []) (st O I I I) (st O I O O) true 0 0 ([])
    (0 ∷ 6 ∷ 0 ∷ 0 ∷ 0 ∷ 0 ∷ 0 ∷ 0 ∷ 6854864373179561863 ∷ 0 ∷ 0 ∷ 0 ∷ 0 ∷ 0 ∷ 0 ∷ 1402542203 ∷ 0 ∷ 0 ∷ 1 ∷ 0 ∷ 1 ∷ 0 ∷ []) ∷
    line (op (alu_imm CMP W64 9 4294967294)) (write 9 2340535882 ∷ []) (st I I I O) (st I O I O) true 0 0 ([])
    (0 ∷ 10 ∷ 0 ∷ 0 ∷ 0 ∷ 0 ∷ 0 ∷ 0 ∷ 0 ∷ 0 ∷ 0 ∷ 2340535882 ∷ 0 ∷ 0 ∷ 0 ∷ 0 ∷ 0 ∷ 0 ∷ 1 ∷ 0 ∷ 0 ∷ 0 ∷ []) ∷
    line (op (alu CMP W64 3 3)) (write 3 15634908705672323840 ∷ []) (st I O I I) (st I O I O) true 0 0 ([])
    (0 ∷ 6 ∷ 0 ∷ 0 ∷ 0 ∷ 15634908705672323840 ∷ 0 ∷ 0 ∷ 0 ∷ 0 ∷ 0 ∷ 0 ∷ 0 ∷ 0 ∷ 0 ∷ 0 ∷ 0 ∷ 0 ∷ 0 ∷ 1 ∷ 0 ∷ 0 ∷ []) ∷
    line (op (alu MOV W32 6 13)) (write 6 1345495429 ∷ write 13 65535 ∷ []) (st I O I I) (st O O O O) true 0 0 ([])
    (0 ∷ 6 ∷ 0 ∷ 0 ∷ 0 ∷ 0 ∷ 0 ∷ 0 ∷ 1345495429 ∷ 0 ∷ 0 ∷ 0 ∷ 0 ∷ 0 ∷ 0 ∷ 1345495429 ∷ 0 ∷ 0 ∷ 1 ∷ 0 ∷ 1 ∷ 1 ∷ []) ∷
    line (op (alu_imm MOV W32 9 2147483649)) (write 9 18186570688938626187 ∷ []) (st O O I O) (st I I I O) true 0 0 ([])
    (0 ∷ 10 ∷ 0 ∷ 0 ∷ 0 ∷ 0 ∷ 0 ∷ 0 ∷ 0 ∷ 0 ∷ 0 ∷ 2147483649 ∷ 0 ∷ 0 ∷ 0 ∷ 0 ∷ 0 ∷ 0 ∷ 0 ∷ 0 ∷ 1 ∷ 0 ∷ []) ∷
    line (op (alu MOV W64 6 13)) (write 6 16637363770054525892 ∷ write 13 14644776826047796849 ∷ []) (st O O I I) (st I O O I) true 0 0 ([])
    (0 ∷ 6 ∷ 0 ∷ 0 ∷ 0 ∷ 0 ∷ 0 ∷ 0 ∷ 16637363770054525892 ∷ 0 ∷ 0 ∷ 0 ∷ 0 ∷ 0 ∷ 0 ∷ 16637363770054525892 ∷ 0 ∷ 0 ∷ 0 ∷ 0 ∷ 1 ∷ 1 ∷ []) ∷
    line (op (alu_imm MOV W64 9 255)) (write 9 0 ∷ []) (st O I I I) (st I O I O) true 0 0 ([])
    (0 ∷ 10 ∷ 0 ∷ 0 ∷ 0 ∷ 0 ∷ 0 ∷ 0 ∷ 0 ∷ 0 ∷ 0 ∷ 255 ∷ 0 ∷ 0 ∷ 0 ∷ 0 ∷ 0 ∷ 0 ∷ 0 ∷ 1 ∷ 1 ∷ 1 ∷ []) ∷
    line (op (alu MOV W64 3 3)) (write 3 14995279208168026565 ∷ []) (st O I I O) (st I I I I) true 0 0 ([])
    (0 ∷ 6 ∷ 0 ∷ 0 ∷ 0 ∷ 14995279208168026565 ∷ 0 ∷ 0 ∷ 0 ∷ 0 ∷ 0 ∷ 0 ∷ 0 ∷ 0 ∷ 0 ∷ 0 ∷ 0 ∷ 0 ∷ 0 ∷ 1 ∷ 1 ∷ 0 ∷ []) ∷
    line (op (alu TEST W32 6 13)) (write 6 14024172243113711766 ∷ write 13 32767 ∷ []) (st I I I O) (st I I I O) true 0 0 ([])
    (0 ∷ 6 ∷ 0 ∷ 0 ∷ 0 ∷ 0 ∷ 0 ∷ 0 ∷ 14024172243113711766 ∷ 0 ∷ 0 ∷ 0 ∷ 0 ∷ 0 ∷ 0 ∷ 32767 ∷ 0 ∷ 0 ∷ 0 ∷ 0 ∷ 0 ∷ 0 ∷ []) ∷
    line (op (alu_imm TEST W32 9 2147483649)) (write 9 2103828423 ∷ []) (st O O I O) (st I I I I) true 0 0 ([])
    (0 ∷ 10 ∷ 0 ∷ 0 ∷ 0 ∷ 0 ∷ 0 ∷ 0 ∷ 0 ∷ 0 ∷ 0 ∷ 2103828423 ∷ 0 ∷ 0 ∷ 0 ∷ 0 ∷ 0 ∷ 0 ∷ 0 ∷ 0 ∷ 0 ∷ 0 ∷ []) ∷
    line (op (alu TEST W64 6 13)) (write 6 2147483649 ∷ write 13 3511098382 ∷ []) (st O O I O) (st O O I I) true 0 0 ([])
    (0 ∷ 6 ∷ 0 ∷ 0 ∷ 0 ∷ 0 ∷ 0 ∷ 0 ∷ 2147483649 ∷ 0 ∷ 0 ∷ 0 ∷ 0 ∷ 0 ∷ 0 ∷ 3511098382 ∷ 0 ∷ 0 ∷ 0 ∷ 0 ∷ 0 ∷ 0 ∷ []) ∷
    line (op (alu_imm TEST W64 9 2147483647)) (write 9 2640373674 ∷ []) (st I O I O) (st O I O O) true 0 0 ([])
    (0 ∷ 10 ∷ 0 ∷ 0 ∷ 0 ∷ 0 ∷ 0 ∷ 0 ∷ 0 ∷ 0 ∷ 0 ∷ 2640373674 ∷ 0 ∷ 0 ∷ 0 ∷ 0 ∷ 0 ∷ 0 ∷ 0 ∷ 0 ∷ 0 ∷ 0 ∷ []) ∷
    line (op (alu TEST W64 3 3)) (write 3 4242649689 ∷ []) (st I I O I) (st O I O O) true 0 0 ([])
    (0 ∷ 6 ∷ 0 ∷ 0 ∷ 0 ∷ 4242649689 ∷ 0 ∷ 0 ∷ 0 ∷ 0 ∷ 0 ∷ 0 ∷ 0 ∷ 0 ∷ 0 ∷ 0 ∷ 0 ∷ 0 ∷ 0 ∷ 0 ∷ 0 ∷ 0 ∷ []) ∷
    line (op (alu ADD W32 0 1)) (write 0 1 ∷ write 1 4294967295 ∷ []) (st O I I O) (st I I I O) true 0 0 ([])
    (0 ∷ 5 ∷ 1 ∷ 0 ∷ 0 ∷ 0 ∷ 0 ∷ 0 ∷ 0 ∷ 0 ∷ 0 ∷ 0 ∷ 0 ∷ 0 ∷ 0 ∷ 0 ∷ 0 ∷ 0 ∷ 1 ∷ 1 ∷ 0 ∷ 0 ∷ []) ∷
    line (op (alu ADD W64 0 1)) (write 0 1 ∷ write 1 9223372036854775807 ∷ []) (st O I O O) (st O O I O) true 0 0 ([])
    (0 ∷ 6 ∷ 1 ∷ 9223372036854775808 ∷ 0 ∷ 0 ∷ 0 ∷ 0 ∷ 0 ∷ 0 ∷ 0 ∷ 0 ∷ 0 ∷ 0 ∷ 0 ∷ 0 ∷ 0 ∷ 0 ∷ 0 ∷ 0 ∷ 1 ∷ 1 ∷ []) ∷
    line (op (alu SUB W32 0 1)) (write 0 1 ∷ write 1 2147483648 ∷ []) (st O O I I) (st I I I I) true 0 0 ([])
    (0 ∷ 5 ∷ 1 ∷ 2147483647 ∷ 0 ∷ 0 ∷ 0 ∷ 0 ∷ 0 ∷ 0 ∷ 0 ∷ 0 ∷ 0 ∷ 0 ∷ 0 ∷ 0 ∷ 0 ∷ 0 ∷ 0 ∷ 0 ∷ 0 ∷ 1 ∷ []) ∷
    line (op (alu CMP W64 0 1)) (write 0 1 ∷ write 1 0 ∷ []) (st I I O O) (st I O O I) true 0 0 ([])
    (0 ∷ 6 ∷ 1 ∷ 0 ∷ 0 ∷ 0 ∷ 0 ∷ 0 ∷ 0 ∷ 0 ∷ 0 ∷ 0 ∷ 0 ∷ 0 ∷ 0 ∷ 0 ∷ 0 ∷ 0 ∷ 1 ∷ 0 ∷ 1 ∷ 0 ∷ []) ∷
    line (op (shift_imm SHL W32 8 0)) (write 8 3790592321725492986 ∷ []) (st O O I I) (st I O I I) true 0 0 ([])
    (0 ∷ 7 ∷ 0 ∷ 0 ∷ 0 ∷ 0 ∷ 0 ∷ 0 ∷ 0 ∷ 0 ∷ 415592186 ∷ 0 ∷ 0 ∷ 0 ∷ 0 ∷ 0 ∷ 0 ∷ 0 ∷ 0 ∷ 0 ∷ 1 ∷ 1 ∷ []) ∷
    line (op (shift_imm SHL W32 8 1)) (write 8 9223372039002259457 ∷ []) (st I O I I) (st I O I O) true 0 0 ([])
    (0 ∷ 7 ∷ 0 ∷ 0 ∷ 0 ∷ 0 ∷ 0 ∷ 0 ∷ 0 ∷ 0 ∷ 2 ∷ 0 ∷ 0 ∷ 0 ∷ 0 ∷ 0 ∷ 0 ∷ 0 ∷ 1 ∷ 0 ∷ 0 ∷ 1 ∷ []) ∷
    line (op (shift_imm SHL W32 8 7)) (write 8 9223372039002259457 ∷ []) (st O O I O) (st O I O O) true 0 0 ([])
    (0 ∷ 7 ∷ 0 ∷ 0 ∷ 0 ∷ 0 ∷ 0 ∷ 0 ∷ 0 ∷ 0 ∷ 128 ∷ 0 ∷ 0 ∷ 0 ∷ 0 ∷ 0 ∷ 0 ∷ 0 ∷ 0 ∷ 0 ∷ 0 ∷ 0 ∷ []) ∷
    line (op (shift_imm SHL W32 8 31)) (write 8 9223372039002259457 ∷ []) (st I I O I) (st O O O O) true 0 0 ([])
    (0 ∷ 7 ∷ 0 ∷ 0 ∷ 0 ∷ 0 ∷ 0 ∷ 0 ∷ 0 ∷ 0 ∷ 2147483648 ∷ 0 ∷ 0 ∷ 0 ∷ 0 ∷ 0 ∷ 0 ∷ 0 ∷ 0 ∷ 0 ∷ 1 ∷ 0 ∷ []) ∷
    line (op (shift_imm SHL W32 8 32)) (write 8 4211021481 ∷ []) (st O I I O) (st O O O I) true 0 0 ([])
    (0 ∷ 7 ∷ 0 ∷ 0 ∷ 0 ∷ 0 ∷ 0 ∷ 0 ∷ 0 ∷ 0 ∷ 4211021481 ∷ 0 ∷ 0 ∷ 0 ∷ 0 ∷ 0 ∷ 0 ∷ 0 ∷ 0 ∷ 1 ∷ 1 ∷ 0 ∷ []) ∷
    line (op (shift_imm SHL W32 8 33)) (write 8 15189004677866706848 ∷ []) (st O I I I) (st O I I O) true 0 0 ([])
    (0 ∷ 7 ∷ 0 ∷ 0 ∷ 0 ∷ 0 ∷ 0 ∷ 0 ∷ 0 ∷ 0 ∷ 939241280 ∷ 0 ∷ 0 ∷ 0 ∷ 0 ∷ 0 ∷ 0 ∷ 0 ∷ 1 ∷ 0 ∷ 0 ∷ 1 ∷ []) ∷
    line (op (shift_imm SHL W32 8 255)) (write 8 3034214698 ∷ []) (st I I I O) (st O O I I) true 0 0 ([])
    (0 ∷ 7 ∷ 0 ∷ 0 ∷ 0 ∷ 0 ∷ 0 ∷ 0 ∷ 0 ∷ 0 ∷ 0 ∷ 0 ∷ 0 ∷ 0 ∷ 0 ∷ 0 ∷ 0 ∷ 0 ∷ 1 ∷ 1 ∷ 0 ∷ 1 ∷ []) ∷
    line (op (shift_cl SHL W32 8)) (write 8 1310601289 ∷ write 1 13615197960422831783 ∷ []) (st O I I I) (st I I O I) true 0 0 ([])
    (0 ∷ 6 ∷ 0 ∷ 13615197960422831783 ∷ 0 ∷ 0 ∷ 0 ∷ 0 ∷ 0 ∷ 0 ∷ 253240448 ∷ 0 ∷ 0 ∷ 0 ∷ 0 ∷ 0 ∷ 0 ∷ 0 ∷ 1 ∷ 0 ∷ 0 ∷ 1 ∷ []) ∷
    line (op (shift_cl SHL W32 1)) (write 1 8807993199315976873 ∷ []) (st I O I O) (st I O I I) true 0 0 ([])
    (0 ∷ 5 ∷ 0 ∷ 2449822208 ∷ 0 ∷ 0 ∷ 0 ∷ 0 ∷ 0 ∷ 0 ∷ 0 ∷ 0 ∷ 0 ∷ 0 ∷ 0 ∷ 0 ∷ 0 ∷ 0 ∷ 0 ∷ 0 ∷ 1 ∷ 1 ∷ []) ∷
    line (op (shift_imm SHL W64 8 0)) (write 8 9223372039002259457 ∷ []) (st I I O I) (st O O I O) true 0 0 ([])
    (0 ∷ 7 ∷ 0 ∷ 0 ∷ 0 ∷ 0 ∷ 0 ∷ 0 ∷ 0 ∷ 0 ∷ 9223372039002259457 ∷ 0 ∷ 0 ∷ 0 ∷ 0 ∷ 0 ∷ 0 ∷ 0 ∷ 1 ∷ 1 ∷ 0 ∷ 1 ∷ []) ∷
    line (op (shift_imm SHL W64 8 1)) (write 8 18446744073709551614 ∷ []) (st O O I O) (st O I I I) true 0 0 ([])
    (0 ∷ 7 ∷ 0 ∷ 0 ∷ 0 ∷ 0 ∷ 0 ∷ 0 ∷ 0 ∷ 0 ∷ 18446744073709551612 ∷ 0 ∷ 0 ∷ 0 ∷ 0 ∷ 0 ∷ 0 ∷ 0 ∷ 1 ∷ 0 ∷ 1 ∷ 0 ∷ []) ∷
    line (op (shift_imm SHL W64 8 7)) (write 8 3 ∷ []) (st O I O I) (st O I I O) true 0 0 ([])
    (0 ∷ 7 ∷ 0 ∷ 0 ∷ 0 ∷ 0 ∷ 0 ∷ 0 ∷ 0 ∷ 0 ∷ 384 ∷ 0 ∷ 0 ∷ 0 ∷ 0 ∷ 0 ∷ 0 ∷ 0 ∷ 0 ∷ 0 ∷ 0 ∷ 0 ∷ []) ∷
    line (op (shift_imm SHL W64 8 63)) (write 8 9223372039002259457 ∷ []) (st I O O O) (st O I I I) true 0 0 ([])
    (0 ∷ 7 ∷ 0 ∷ 0 ∷ 0 ∷ 0 ∷ 0 ∷ 0 ∷ 0 ∷ 0 ∷ 9223372036854775808 ∷ 0 ∷ 0 ∷ 0 ∷ 0 ∷ 0 ∷ 0 ∷ 0 ∷ 0 ∷ 0 ∷ 1 ∷ 1 ∷ []) ∷
    line (op (shift_imm SHL W64 8 64)) (write 8 9223372039002259457 ∷ []) (st O O O O) (st I O I I) true 0 0 ([])
    (0 ∷ 7 ∷ 0 ∷ 0 ∷ 0 ∷ 0 ∷ 0 ∷ 0 ∷ 0 ∷ 0 ∷ 9223372039002259457 ∷ 0 ∷ 0 ∷ 0 ∷ 0 ∷ 0 ∷ 0 ∷ 0 ∷ 0 ∷ 0 ∷ 0 ∷ 0 ∷ []) ∷
    line (op (shift_imm SHL W64 8 65)) (write 8 9223372039002259457 ∷ []) (st I O I I) (st O O O O) true 0 0 ([])
    (0 ∷ 7 ∷ 0 ∷ 0 ∷ 0 ∷ 0 ∷ 0 ∷ 0 ∷ 0 ∷ 0 ∷ 4294967298 ∷ 0 ∷ 0 ∷ 0 ∷ 0 ∷ 0 ∷ 0 ∷ 0 ∷ 1 ∷ 0 ∷ 0 ∷ 1 ∷ []) ∷
    line (op (shift_imm SHL W64 8 255)) (write 8 9223372039002259457 ∷ []) (st I I O I) (st I I I O) true 0 0 ([])
    (0 ∷ 7 ∷ 0 ∷ 0 ∷ 0 ∷ 0 ∷ 0 ∷ 0 ∷ 0 ∷ 0 ∷ 9223372036854775808 ∷ 0 ∷ 0 ∷ 0 ∷ 0 ∷ 0 ∷ 0 ∷ 0 ∷ 0 ∷ 0 ∷ 1 ∷ 0 ∷ []) ∷
    line (op (shift_cl SHL W64 8)) (write 8 2663378848 ∷ write 1 372012698 ∷ []) (st O I O I) (st I I O I) true 0 0 ([])
    (0 ∷ 6 ∷ 0 ∷ 372012698 ∷ 0 ∷ 0 ∷ 0 ∷ 0 ∷ 0 ∷ 0 ∷ 178736328890908672 ∷ 0 ∷ 0 ∷ 0 ∷ 0 ∷ 0 ∷ 0 ∷ 0 ∷ 0 ∷ 0 ∷ 0 ∷ 1 ∷ []) ∷
    line (op (shift_cl SHL W64 1)) (write 1 128 ∷ []) (st O I O I) (st I O I O) true 0 0 ([])
    (0 ∷ 6 ∷ 0 ∷ 128 ∷ 0 ∷ 0 ∷ 0 ∷ 0 ∷ 0 ∷ 0 ∷ 0 ∷ 0 ∷ 0 ∷ 0 ∷ 0 ∷ 0 ∷ 0 ∷ 0 ∷ 0 ∷ 1 ∷ 0 ∷ 1 ∷ []) ∷
    line (op (shift_imm SHR W32 8 0)) (write 8 9223372039002259457 ∷ []) (st O O I I) (st O O O O) true 0 0 ([])
    (0 ∷ 7 ∷ 0 ∷ 0 ∷ 0 ∷ 0 ∷ 0 ∷ 0 ∷ 0 ∷ 0 ∷ 2147483649 ∷ 0 ∷ 0 ∷ 0 ∷ 0 ∷ 0 ∷ 0 ∷ 0 ∷ 0 ∷ 0 ∷ 1 ∷ 1 ∷ []) ∷
    line (op (shift_imm SHR W32 8 1)) (write 8 9223372039002259457 ∷ []) (st I I I I) (st O I I O) true 0 0 ([])
    (0 ∷ 7 ∷ 0 ∷ 0 ∷ 0 ∷ 0 ∷ 0 ∷ 0 ∷ 0 ∷ 0 ∷ 1073741824 ∷ 0 ∷ 0 ∷ 0 ∷ 0 ∷ 0 ∷ 0 ∷ 0 ∷ 1 ∷ 0 ∷ 0 ∷ 1 ∷ []) ∷
    line (op (shift_imm SHR W32 8 7)) (write 8 128 ∷ []) (st I I I O) (st I O O O) true 0 0 ([])
    (0 ∷ 7 ∷ 0 ∷ 0 ∷ 0 ∷ 0 ∷ 0 ∷ 0 ∷ 0 ∷ 0 ∷ 1 ∷ 0 ∷ 0 ∷ 0 ∷ 0 ∷ 0 ∷ 0 ∷ 0 ∷ 0 ∷ 0 ∷ 0 ∷ 0 ∷ []) ∷
    line (op (shift_imm SHR W32 8 31)) (write 8 9223372039002259457 ∷ []) (st I I O O) (st I O O I) true 0 0 ([])
    (0 ∷ 7 ∷ 0 ∷ 0 ∷ 0 ∷ 0 ∷ 0 ∷ 0 ∷ 0 ∷ 0 ∷ 1 ∷ 0 ∷ 0 ∷ 0 ∷ 0 ∷ 0 ∷ 0 ∷ 0 ∷ 0 ∷ 0 ∷ 0 ∷ 1 ∷ []) ∷
    line (op (shift_imm SHR W32 8 32)) (write 8 9223372039002259457 ∷ []) (st I I I I) (st I O O I) true 0 0 ([])
    (0 ∷ 7 ∷ 0 ∷ 0 ∷ 0 ∷ 0 ∷ 0 ∷ 0 ∷ 0 ∷ 0 ∷ 2147483649 ∷ 0 ∷ 0 ∷ 0 ∷ 0 ∷ 0 ∷ 0 ∷ 0 ∷ 1 ∷ 1 ∷ 1 ∷ 1 ∷ []) ∷
    line (op (shift_imm SHR W32 8 33)) (write 8 9223372039002259457 ∷ []) (st I O O O) (st I O I O) true 0 0 ([])
    (0 ∷ 7 ∷ 0 ∷ 0 ∷ 0 ∷ 0 ∷ 0 ∷ 0 ∷ 0 ∷ 0 ∷ 1073741824 ∷ 0 ∷ 0 ∷ 0 ∷ 0 ∷ 0 ∷ 0 ∷ 0 ∷ 1 ∷ 0 ∷ 0 ∷ 1 ∷ []) ∷
    line (op (shift_imm SHR W32 8 255)) (write 8 9223372039002259457 ∷ []) (st O O O O) (st I I O I) true 0 0 ([])
    (0 ∷ 7 ∷ 0 ∷ 0 ∷ 0 ∷ 0 ∷ 0 ∷ 0 ∷ 0 ∷ 0 ∷ 1 ∷ 0 ∷ 0 ∷ 0 ∷ 0 ∷ 0 ∷ 0 ∷ 0 ∷ 0 ∷ 0 ∷ 0 ∷ 1 ∷ []) ∷
    line (op (shift_cl SHR W32 8)) (write 8 1477786545 ∷ write 1 13061782834121499466 ∷ []) (st I O O I) (st I O O O) true 0 0 ([])
    (0 ∷ 6 ∷ 0 ∷ 13061782834121499466 ∷ 0 ∷ 0 ∷ 0 ∷ 0 ∷ 0 ∷ 0 ∷ 1443150 ∷ 0 ∷ 0 ∷ 0 ∷ 0 ∷ 0 ∷ 0 ∷ 0 ∷ 1 ∷ 0 ∷ 0 ∷ 0 ∷ []) ∷
    line (op (shift_cl SHR W32 1)) (write 1 2147483647 ∷ []) (st O I O I) (st O I I I) true 0 0 ([])
    (0 ∷ 5 ∷ 0 ∷ 0 ∷ 0 ∷ 0 ∷ 0 ∷ 0 ∷ 0 ∷ 0 ∷ 0 ∷ 0 ∷ 0 ∷ 0 ∷ 0 ∷ 0 ∷ 0 ∷ 0 ∷ 1 ∷ 1 ∷ 0 ∷ 1 ∷ []) ∷
    line (op (shift_imm SHR W64 8 0)) (write 8 9223372039002259457 ∷ []) (st O O O O) (st I O O O) true 0 0 ([])
    (0 ∷ 7 ∷ 0 ∷ 0 ∷ 0 ∷ 0 ∷ 0 ∷ 0 ∷ 0 ∷ 0 ∷ 9223372039002259457 ∷ 0 ∷ 0 ∷ 0 ∷ 0 ∷ 0 ∷ 0 ∷ 0 ∷ 0 ∷ 0 ∷ 0 ∷ 0 ∷ []) ∷
    line (op (shift_imm SHR W64 8 1)) (write 8 14456780606367466147 ∷ []) (st O O I I) (st O I O O) true 0 0 ([])
    (0 ∷ 7 ∷ 0 ∷ 0 ∷ 0 ∷ 0 ∷ 0 ∷ 0 ∷ 0 ∷ 0 ∷ 7228390303183733073 ∷ 0 ∷ 0 ∷ 0 ∷ 0 ∷ 0 ∷ 0 ∷ 0 ∷ 1 ∷ 0 ∷ 0 ∷ 1 ∷ []) ∷
    line (op (shift_imm SHR W64 8 7)) (write 8 17962484299870351256 ∷ []) (st I I O I) (st O I O I) true 0 0 ([])
    (0 ∷ 7 ∷ 0 ∷ 0 ∷ 0 ∷ 0 ∷ 0 ∷ 0 ∷ 0 ∷ 0 ∷ 140331908592737119 ∷ 0 ∷ 0 ∷ 0 ∷ 0 ∷ 0 ∷ 0 ∷ 0 ∷ 0 ∷ 0 ∷ 0 ∷ 1 ∷ []) ∷
    line (op (shift_imm SHR W64 8 63)) (write 8 421927088802919851 ∷ []) (st I O O O) (st I O O O) true 0 0 ([])
    (0 ∷ 7 ∷ 0 ∷ 0 ∷ 0 ∷ 0 ∷ 0 ∷ 0 ∷ 0 ∷ 0 ∷ 0 ∷ 0 ∷ 0 ∷ 0 ∷ 0 ∷ 0 ∷ 0 ∷ 0 ∷ 0 ∷ 1 ∷ 0 ∷ 0 ∷ []) ∷
    line (op (shift_imm SHR W64 8 64)) (write 8 2323372968 ∷ []) (st I O I I) (st I I I I) true 0 0 ([])
    (0 ∷ 7 ∷ 0 ∷ 0 ∷ 0 ∷ 0 ∷ 0 ∷ 0 ∷ 0 ∷ 0 ∷ 2323372968 ∷ 0 ∷ 0 ∷ 0 ∷ 0 ∷ 0 ∷ 0 ∷ 0 ∷ 1 ∷ 0 ∷ 1 ∷ 1 ∷ []) ∷
    line (op (shift_imm SHR W64 8 65)) (write 8 9223372039002259457 ∷ []) (st I I O I) (st O O I I) true 0 0 ([])
    (0 ∷ 7 ∷ 0 ∷ 0 ∷ 0 ∷ 0 ∷ 0 ∷ 0 ∷ 0 ∷ 0 ∷ 4611686019501129728 ∷ 0 ∷ 0 ∷ 0 ∷ 0 ∷ 0 ∷ 0 ∷ 0 ∷ 1 ∷ 0 ∷ 0 ∷ 1 ∷ []) ∷
    line (op (shift_imm SHR W64 8 255)) (write 8 3632599371716353912 ∷ []) (st I I I O) (st I O O I) true 0 0 ([])
    (0 ∷ 7 ∷ 0 ∷ 0 ∷ 0 ∷ 0 ∷ 0 ∷ 0 ∷ 0 ∷ 0 ∷ 0 ∷ 0 ∷ 0 ∷ 0 ∷ 0 ∷ 0 ∷ 0 ∷ 0 ∷ 0 ∷ 1 ∷ 0 ∷ 1 ∷ []) ∷
    line (op (shift_cl SHR W64 8)) (write 8 1 ∷ write 1 2 ∷ []) (st I O I I) (st I O I O) true 0 0 ([])
    (0 ∷ 6 ∷ 0 ∷ 2 ∷ 0 ∷ 0 ∷ 0 ∷ 0 ∷ 0 ∷ 0 ∷ 0 ∷ 0 ∷ 0 ∷ 0 ∷ 0 ∷ 0 ∷ 0 ∷ 0 ∷ 0 ∷ 1 ∷ 0 ∷ 0 ∷ []) ∷
    line (op (shift_cl SHR W64 1)) (write 1 246004796 ∷ []) (st I I O O) (st I O I O) true 0 0 ([])
    (0 ∷ 6 ∷ 0 ∷ 0 ∷ 0 ∷ 0 ∷ 0 ∷ 0 ∷ 0 ∷ 0 ∷ 0 ∷ 0 ∷ 0 ∷ 0 ∷ 0 ∷ 0 ∷ 0 ∷ 0 ∷ 0 ∷ 1 ∷ 0 ∷ 0 ∷ []) ∷
    line (op (shift_imm SAR W32 8 0)) (write 8 9223372039002259457 ∷ []) (st I O O O) (st O I I I) true 0 0 ([])
    (0 ∷ 7 ∷ 0 ∷ 0 ∷ 0 ∷ 0 ∷ 0 ∷ 0 ∷ 0 ∷ 0 ∷ 2147483649 ∷ 0 ∷ 0 ∷ 0 ∷ 0 ∷ 0 ∷ 0 ∷ 0 ∷ 1 ∷ 0 ∷ 0 ∷ 0 ∷ []) ∷
    line (op (shift_imm SAR W32 8 1)) (write 8 9223372039002259457 ∷ []) (st I O I O) (st I I O O) true 0 0 ([])
    (0 ∷ 7 ∷ 0 ∷ 0 ∷ 0 ∷ 0 ∷ 0 ∷ 0 ∷ 0 ∷ 0 ∷ 3221225472 ∷ 0 ∷ 0 ∷ 0 ∷ 0 ∷ 0 ∷ 0 ∷ 0 ∷ 1 ∷ 0 ∷ 1 ∷ 0 ∷ []) ∷
    line (op (shift_imm SAR W32 8 7)) (write 8 15600774503714983829 ∷ []) (st I I I I) (st O I O O) true 0 0 ([])
    (0 ∷ 7 ∷ 0 ∷ 0 ∷ 0 ∷ 0 ∷ 0 ∷ 0 ∷ 0 ∷ 0 ∷ 6671903 ∷ 0 ∷ 0 ∷ 0 ∷ 0 ∷ 0 ∷ 0 ∷ 0 ∷ 0 ∷ 0 ∷ 0 ∷ 0 ∷ []) ∷
    line (op (shift_imm SAR W32 8 31)) (write 8 9223372039002259457 ∷ []) (st O O I I) (st O I O I) true 0 0 ([])
    (0 ∷ 7 ∷ 0 ∷ 0 ∷ 0 ∷ 0 ∷ 0 ∷ 0 ∷ 0 ∷ 0 ∷ 4294967295 ∷ 0 ∷ 0 ∷ 0 ∷ 0 ∷ 0 ∷ 0 ∷ 0 ∷ 0 ∷ 0 ∷ 1 ∷ 1 ∷ []) ∷
    line (op (shift_imm SAR W32 8 32)) (write 8 9419310782219709769 ∷ []) (st O O O I) (st O I O I) true 0 0 ([])
    (0 ∷ 7 ∷ 0 ∷ 0 ∷ 0 ∷ 0 ∷ 0 ∷ 0 ∷ 0 ∷ 0 ∷ 859204937 ∷ 0 ∷ 0 ∷ 0 ∷ 0 ∷ 0 ∷ 0 ∷ 0 ∷ 0 ∷ 0 ∷ 0 ∷ 1 ∷ []) ∷
    line (op (shift_imm SAR W32 8 33)) (write 8 9223372039002259457 ∷ []) (st O I I O) (st I I I O) true 0 0 ([])
    (0 ∷ 7 ∷ 0 ∷ 0 ∷ 0 ∷ 0 ∷ 0 ∷ 0 ∷ 0 ∷ 0 ∷ 3221225472 ∷ 0 ∷ 0 ∷ 0 ∷ 0 ∷ 0 ∷ 0 ∷ 0 ∷ 1 ∷ 0 ∷ 1 ∷ 0 ∷ []) ∷
    line (op (shift_imm SAR W32 8 255)) (write 8 9223372039002259457 ∷ []) (st I I O I) (st O I O I) true 0 0 ([])
    (0 ∷ 7 ∷ 0 ∷ 0 ∷ 0 ∷ 0 ∷ 0 ∷ 0 ∷ 0 ∷ 0 ∷ 4294967295 ∷ 0 ∷ 0 ∷ 0 ∷ 0 ∷ 0 ∷ 0 ∷ 0 ∷ 0 ∷ 0 ∷ 1 ∷ 1 ∷ []) ∷
    line (op (shift_cl SAR W32 8)) (write 8 2147483648 ∷ write 1 4232950216 ∷ []) (st O I O I) (st I I I O) true 0 0 ([])
    (0 ∷ 6 ∷ 0 ∷ 4232950216 ∷ 0 ∷ 0 ∷ 0 ∷ 0 ∷ 0 ∷ 0 ∷ 4286578688 ∷ 0 ∷ 0 ∷ 0 ∷ 0 ∷ 0 ∷ 0 ∷ 0 ∷ 0 ∷ 0 ∷ 1 ∷ 0 ∷ []) ∷
    line (op (shift_cl SAR W32 1)) (write 1 2448835901 ∷ []) (st I I I I) (st I I I I) true 0 0 ([])
    (0 ∷ 5 ∷ 0 ∷ 4294967292 ∷ 0 ∷ 0 ∷ 0 ∷ 0 ∷ 0 ∷ 0 ∷ 0 ∷ 0 ∷ 0 ∷ 0 ∷ 0 ∷ 0 ∷ 0 ∷ 0 ∷ 1 ∷ 0 ∷ 1 ∷ 1 ∷ []) ∷
    line (op (shift_imm SAR W64 8 0)) (write 8 1428997864 ∷ []) (st O I O I) (st O I O I) true 0 0 ([])
    (0 ∷ 7 ∷ 0 ∷ 0 ∷ 0 ∷ 0 ∷ 0 ∷ 0 ∷ 0 ∷ 0 ∷ 1428997864 ∷ 0 ∷ 0 ∷ 0 ∷ 0 ∷ 0 ∷ 0 ∷ 0 ∷ 0 ∷ 1 ∷ 0 ∷ 1 ∷ []) ∷
    line (op (shift_imm SAR W64 8 1)) (write 8 1254390630 ∷ []) (st O O I O) (st I I O I) true 0 0 ([])
    (0 ∷ 7 ∷ 0 ∷ 0 ∷ 0 ∷ 0 ∷ 0 ∷ 0 ∷ 0 ∷ 0 ∷ 627195315 ∷ 0 ∷ 0 ∷ 0 ∷ 0 ∷ 0 ∷ 0 ∷ 0 ∷ 0 ∷ 0 ∷ 0 ∷ 0 ∷ []) ∷
    line (op (shift_imm SAR W64 8 7)) (write 8 9223372039002259457 ∷ []) (st O I O O) (st I I O I) true 0 0 ([])
    (0 ∷ 7 ∷ 0 ∷ 0 ∷ 0 ∷ 0 ∷ 0 ∷ 0 ∷ 0 ∷ 0 ∷ 18374686479688400896 ∷ 0 ∷ 0 ∷ 0 ∷ 0 ∷ 0 ∷ 0 ∷ 0 ∷ 0 ∷ 0 ∷ 1 ∷ 1 ∷ []) ∷
    line (op (shift_imm SAR W64 8 63)) (write 8 12610470011928551636 ∷ []) (st O I I O) (st O O I O) true 0 0 ([])
    (0 ∷ 7 ∷ 0 ∷ 0 ∷ 0 ∷ 0 ∷ 0 ∷ 0 ∷ 0 ∷ 0 ∷ 18446744073709551615 ∷ 0 ∷ 0 ∷ 0 ∷ 0 ∷ 0 ∷ 0 ∷ 0 ∷ 0 ∷ 0 ∷ 1 ∷ 0 ∷ []) ∷
    line (op (shift_imm SAR W64 8 64)) (write 8 65535 ∷ []) (st O I O O) (st O O O O) true 0 0 ([])
    (0 ∷ 7 ∷ 0 ∷ 0 ∷ 0 ∷ 0 ∷ 0 ∷ 0 ∷ 0 ∷ 0 ∷ 65535 ∷ 0 ∷ 0 ∷ 0 ∷ 0 ∷ 0 ∷ 0 ∷ 0 ∷ 0 ∷ 1 ∷ 0 ∷ 0 ∷ []) ∷
    line (op (shift_imm SAR W64 8 65)) (write 8 4294967294 ∷ []) (st I O I O) (st O I O I) true 0 0 ([])
    (0 ∷ 7 ∷ 0 ∷ 0 ∷ 0 ∷ 0 ∷ 0 ∷ 0 ∷ 0 ∷ 0 ∷ 2147483647 ∷ 0 ∷ 0 ∷ 0 ∷ 0 ∷ 0 ∷ 0 ∷ 0 ∷ 0 ∷ 0 ∷ 0 ∷ 0 ∷ []) ∷
    line (op (shift_imm SAR W64 8 255)) (write 8 2433002 ∷ []) (st I O I O) (st O O I I) true 0 0 ([])
    (0 ∷ 7 ∷ 0 ∷ 0 ∷ 0 ∷ 0 ∷ 0 ∷ 0 ∷ 0 ∷ 0 ∷ 0 ∷ 0 ∷ 0 ∷ 0 ∷ 0 ∷ 0 ∷ 0 ∷ 0 ∷ 0 ∷ 1 ∷ 0 ∷ 1 ∷ []) ∷
    line (op (shift_cl SAR W64 8)) (write 8 3139079398 ∷ write 1 2147483649 ∷ []) (st O I O O) (st O O O O) true 0 0 ([])
    (0 ∷ 6 ∷ 0 ∷ 2147483649 ∷ 0 ∷ 0 ∷ 0 ∷ 0 ∷ 0 ∷ 0 ∷ 1569539699 ∷ 0 ∷ 0 ∷ 0 ∷ 0 ∷ 0 ∷ 0 ∷ 0 ∷ 0 ∷ 0 ∷ 0 ∷ 0 ∷ []) ∷
    line (op (shift_cl SAR W64 1)) (write 1 3168568068 ∷ []) (st O O I O) (st I I O I) true 0 0 ([])
    (0 ∷ 6 ∷ 0 ∷ 198035504 ∷ 0 ∷ 0 ∷ 0 ∷ 0 ∷ 0 ∷ 0 ∷ 0 ∷ 0 ∷ 0 ∷ 0 ∷ 0 ∷ 0 ∷ 0 ∷ 0 ∷ 0 ∷ 0 ∷ 0 ∷ 1 ∷ []) ∷
    line (op (unary NEG W32 5)) (write 5 0 ∷ []) (st I I I O) (st I O O I) true 0 0 ([])
    (0 ∷ 5 ∷ 0 ∷ 0 ∷ 0 ∷ 0 ∷ 0 ∷ 0 ∷ 0 ∷ 0 ∷ 0 ∷ 0 ∷ 0 ∷ 0 ∷ 0 ∷ 0 ∷ 0 ∷ 0 ∷ 0 ∷ 1 ∷ 0 ∷ 0 ∷ []) ∷
    line (op (unary NEG W32 5)) (write 5 1 ∷ []) (st I O I O) (st I I I O) true 0 0 ([])
    (0 ∷ 5 ∷ 0 ∷ 0 ∷ 0 ∷ 0 ∷ 0 ∷ 4294967295 ∷ 0 ∷ 0 ∷ 0 ∷ 0 ∷ 0 ∷ 0 ∷ 0 ∷ 0 ∷ 0 ∷ 0 ∷ 1 ∷ 0 ∷ 1 ∷ 0 ∷ []) ∷
    line (op (unary NEG W32 5)) (write 5 2147483648 ∷ []) (st I O O O) (st O I O I) true 0 0 ([])
    (0 ∷ 5 ∷ 0 ∷ 0 ∷ 0 ∷ 0 ∷ 0 ∷ 2147483648 ∷ 0 ∷ 0 ∷ 0 ∷ 0 ∷ 0 ∷ 0 ∷ 0 ∷ 0 ∷ 0 ∷ 0 ∷ 1 ∷ 0 ∷ 1 ∷ 1 ∷ []) ∷
    line (op (unary NEG W32 5)) (write 5 4294967295 ∷ []) (st I I I I) (st I I O I) true 0 0 ([])
    (0 ∷ 5 ∷ 0 ∷ 0 ∷ 0 ∷ 0 ∷ 0 ∷ 1 ∷ 0 ∷ 0 ∷ 0 ∷ 0 ∷ 0 ∷ 0 ∷ 0 ∷ 0 ∷ 0 ∷ 0 ∷ 1 ∷ 0 ∷ 0 ∷ 0 ∷ []) ∷
    line (op (unary NEG W32 5)) (write 5 442003959 ∷ []) (st O I O O) (st I I O I) true 0 0 ([])
    (0 ∷ 5 ∷ 0 ∷ 0 ∷ 0 ∷ 0 ∷ 0 ∷ 3852963337 ∷ 0 ∷ 0 ∷ 0 ∷ 0 ∷ 0 ∷ 0 ∷ 0 ∷ 0 ∷ 0 ∷ 0 ∷ 1 ∷ 0 ∷ 1 ∷ 0 ∷ []) ∷
    line (op (unary MUL W32 1)) (write 0 0 ∷ write 1 9223372036854775808 ∷ write 2 846554010 ∷ []) (st O O O I) (st I I I I) true 0 0 ([])
    (0 ∷ 5 ∷ 0 ∷ 9223372036854775808 ∷ 0 ∷ 0 ∷ 0 ∷ 0 ∷ 0 ∷ 0 ∷ 0 ∷ 0 ∷ 0 ∷ 0 ∷ 0 ∷ 0 ∷ 0 ∷ 0 ∷ 0 ∷ 1 ∷ 1 ∷ 0 ∷ []) ∷
    line (op (unary MUL W32 1)) (write 0 4294967295 ∷ write 1 4294967295 ∷ write 2 4294967296 ∷ []) (st I O I O) (st I O I O) true 0 0 ([])
    (0 ∷ 5 ∷ 1 ∷ 4294967295 ∷ 4294967294 ∷ 0 ∷ 0 ∷ 0 ∷ 0 ∷ 0 ∷ 0 ∷ 0 ∷ 0 ∷ 0 ∷ 0 ∷ 0 ∷ 0 ∷ 0 ∷ 1 ∷ 0 ∷ 1 ∷ 1 ∷ []) ∷
    line (op (unary MUL W32 1)) (write 0 3 ∷ write 1 5 ∷ write 2 1 ∷ []) (st I I O O) (st I I I O) true 0 0 ([])
    (0 ∷ 5 ∷ 15 ∷ 5 ∷ 0 ∷ 0 ∷ 0 ∷ 0 ∷ 0 ∷ 0 ∷ 0 ∷ 0 ∷ 0 ∷ 0 ∷ 0 ∷ 0 ∷ 0 ∷ 0 ∷ 0 ∷ 1 ∷ 1 ∷ 0 ∷ []) ∷
    line (op (unary MUL W32 1)) (write 0 0 ∷ write 1 4294967296 ∷ write 2 11934690349496236393 ∷ []) (st O I I I) (st I O O O) true 0 0 ([])
    (0 ∷ 5 ∷ 0 ∷ 4294967296 ∷ 0 ∷ 0 ∷ 0 ∷ 0 ∷ 0 ∷ 0 ∷ 0 ∷ 0 ∷ 0 ∷ 0 ∷ 0 ∷ 0 ∷ 0 ∷ 0 ∷ 0 ∷ 0 ∷ 0 ∷ 0 ∷ []) ∷
    line (op (unary DIV W32 1)) (write 0 7 ∷ write 1 2 ∷ write 2 0 ∷ []) (st O I O I) (st O O O I) true 0 0 ([])
    (0 ∷ 5 ∷ 3 ∷ 2 ∷ 1 ∷ 0 ∷ 0 ∷ 0 ∷ 0 ∷ 0 ∷ 0 ∷ 0 ∷ 0 ∷ 0 ∷ 0 ∷ 0 ∷ 0 ∷ 0 ∷ 0 ∷ 0 ∷ 0 ∷ 1 ∷ []) ∷
    line (op (unary DIV W32 1)) (write 0 7 ∷ write 1 0 ∷ write 2 0 ∷ []) (st O I O I) (st O O I O) true 0 0 ([])
    (4 ∷ []) ∷
    line (op (unary DIV W32 1)) (write 0 0 ∷ write 1 1 ∷ write 2 1 ∷ []) (st I O O O) (st O I I I) true 0 0 ([])
    (4 ∷ []) ∷
    line (op (unary DIV W32 1)) (write 0 5 ∷ write 1 3 ∷ write 2 2 ∷ []) (st O O O I) (st I O I I) true 0 0 ([])
    (0 ∷ 5 ∷ 2863311532 ∷ 3 ∷ 1 ∷ 0 ∷ 0 ∷ 0 ∷ 0 ∷ 0 ∷ 0 ∷ 0 ∷ 0 ∷ 0 ∷ 0 ∷ 0 ∷ 0 ∷ 0 ∷ 1 ∷ 0 ∷ 1 ∷ 1 ∷ []) ∷
    line (op (unary DIV W32 1)) (write 0 4294967295 ∷ write 1 4294967295 ∷ write 2 0 ∷ []) (st O O O O) (st I O I I) true 0 0 ([])
    (0 ∷ 5 ∷ 1 ∷ 4294967295 ∷ 0 ∷ 0 ∷ 0 ∷ 0 ∷ 0 ∷ 0 ∷ 0 ∷ 0 ∷ 0 ∷ 0 ∷ 0 ∷ 0 ∷ 0 ∷ 0 ∷ 1 ∷ 0 ∷ 1 ∷ 1 ∷ []) ∷
    line (op (bswap W32 15)) (write 15 81985529216486895 ∷ []) (st O O I O) (st I O O O) true 0 0 ([])
    (0 ∷ 6 ∷ 0 ∷ 0 ∷ 0 ∷ 0 ∷ 0 ∷ 0 ∷ 0 ∷ 0 ∷ 0 ∷ 0 ∷ 0 ∷ 0 ∷ 0 ∷ 0 ∷ 0 ∷ 4023233417 ∷ 0 ∷ 0 ∷ 1 ∷ 0 ∷ []) ∷
    line (op (unary NEG W64 5)) (write 5 0 ∷ []) (st I I I I) (st O I I I) true 0 0 ([])
    (0 ∷ 6 ∷ 0 ∷ 0 ∷ 0 ∷ 0 ∷ 0 ∷ 0 ∷ 0 ∷ 0 ∷ 0 ∷ 0 ∷ 0 ∷ 0 ∷ 0 ∷ 0 ∷ 0 ∷ 0 ∷ 0 ∷ 1 ∷ 0 ∷ 0 ∷ []) ∷
    line (op (unary NEG W64 5)) (write 5 1 ∷ []) (st O I O O) (st O O I I) true 0 0 ([])
    (0 ∷ 6 ∷ 0 ∷ 0 ∷ 0 ∷ 0 ∷ 0 ∷ 18446744073709551615 ∷ 0 ∷ 0 ∷ 0 ∷ 0 ∷ 0 ∷ 0 ∷ 0 ∷ 0 ∷ 0 ∷ 0 ∷ 1 ∷ 0 ∷ 1 ∷ 0 ∷ []) ∷
    line (op (unary NEG W64 5)) (write 5 9223372036854775808 ∷ []) (st O I I O) (st I I O O) true 0 0 ([])
    (0 ∷ 6 ∷ 0 ∷ 0 ∷ 0 ∷ 0 ∷ 0 ∷ 9223372036854775808 ∷ 0 ∷ 0 ∷ 0 ∷ 0 ∷ 0 ∷ 0 ∷ 0 ∷ 0 ∷ 0 ∷ 0 ∷ 1 ∷ 0 ∷ 1 ∷ 1 ∷ []) ∷
    line (op (unary NEG W64 5)) (write 5 18446744073709551615 ∷ []) (st O I O O) (st O I O O) true 0 0 ([])
    (0 ∷ 6 ∷ 0 ∷ 0 ∷ 0 ∷ 0 ∷ 0 ∷ 1 ∷ 0 ∷ 0 ∷ 0 ∷ 0 ∷ 0 ∷ 0 ∷ 0 ∷ 0 ∷ 0 ∷ 0 ∷ 1 ∷ 0 ∷ 0 ∷ 0 ∷ []) ∷
    line (op (unary NEG W64 5)) (write 5 10587545438949732744 ∷ []) (st O I I I) (st I I I O) true 0 0 ([])
    (0 ∷ 6 ∷ 0 ∷ 0 ∷ 0 ∷ 0 ∷ 0 ∷ 7859198634759818872 ∷ 0 ∷ 0 ∷ 0 ∷ 0 ∷ 0 ∷ 0 ∷ 0 ∷ 0 ∷ 0 ∷ 0 ∷ 1 ∷ 0 ∷ 0 ∷ 0 ∷ []) ∷
    line (op (unary MUL W64 1)) (write 0 0 ∷ write 1 4294967295 ∷ write 2 2288860984 ∷ []) (st I O O I) (st I O O I) true 0 0 ([])
    (0 ∷ 6 ∷ 0 ∷ 4294967295 ∷ 0 ∷ 0 ∷ 0 ∷ 0 ∷ 0 ∷ 0 ∷ 0 ∷ 0 ∷ 0 ∷ 0 ∷ 0 ∷ 0 ∷ 0 ∷ 0 ∷ 0 ∷ 0 ∷ 0 ∷ 0 ∷ []) ∷
    line (op (unary MUL W64 1)) (write 0 18446744073709551615 ∷ write 1 18446744073709551615 ∷ write 2 4612140080824195818 ∷ []) (st O O I I) (st O I I O) true 0 0 ([])
    (0 ∷ 6 ∷ 1 ∷ 18446744073709551615 ∷ 18446744073709551614 ∷ 0 ∷ 0 ∷ 0 ∷ 0 ∷ 0 ∷ 0 ∷ 0 ∷ 0 ∷ 0 ∷ 0 ∷ 0 ∷ 0 ∷ 0 ∷ 1 ∷ 1 ∷ 1 ∷ 1 ∷ []) ∷
    line (op (unary MUL W64 1)) (write 0 3 ∷ write 1 5 ∷ write 2 17094826150558717901 ∷ []) (st I I O I) (st I I O I) true 0 0 ([])
    (0 ∷ 6 ∷ 15 ∷ 5 ∷ 0 ∷ 0 ∷ 0 ∷ 0 ∷ 0 ∷ 0 ∷ 0 ∷ 0 ∷ 0 ∷ 0 ∷ 0 ∷ 0 ∷ 0 ∷ 0 ∷ 0 ∷ 1 ∷ 0 ∷ 0 ∷ []) ∷
    line (op (unary MUL W64 1)) (write 0 2147483649 ∷ write 1 3151332370142359512 ∷ write 2 7201355463620941529 ∷ []) (st I O I I) (st O I I O) true 0 0 ([])
    (0 ∷ 6 ∷ 4143030199845810136 ∷ 3151332370142359512 ∷ 366863372 ∷ 0 ∷ 0 ∷ 0 ∷ 0 ∷ 0 ∷ 0 ∷ 0 ∷ 0 ∷ 0 ∷ 0 ∷ 0 ∷ 0 ∷ 0 ∷ 1 ∷ 1 ∷ 1 ∷ 1 ∷ []) ∷
    line (op (unary DIV W64 1)) (write 0 7 ∷ write 1 2 ∷ write 2 0 ∷ []) (st I I O I) (st O O O I) true 0 0 ([])
    (0 ∷ 6 ∷ 3 ∷ 2 ∷ 1 ∷ 0 ∷ 0 ∷ 0 ∷ 0 ∷ 0 ∷ 0 ∷ 0 ∷ 0 ∷ 0 ∷ 0 ∷ 0 ∷ 0 ∷ 0 ∷ 0 ∷ 0 ∷ 0 ∷ 1 ∷ []) ∷
    line (op (unary DIV W64 1)) (write 0 7 ∷ write 1 0 ∷ write 2 0 ∷ []) (st O I O I) (st I O O O) true 0 0 ([])
    (4 ∷ []) ∷
    line (op (unary DIV W64 1)) (write 0 0 ∷ write 1 1 ∷ write 2 1 ∷ []) (st I O I I) (st O O I O) true 0 0 ([])
    (4 ∷ []) ∷
    line (op (unary DIV W64 1)) (write 0 5 ∷ write 1 3 ∷ write 2 2 ∷ []) (st I O O I) (st I O O O) true 0 0 ([])
    (0 ∷ 6 ∷ 12297829382473034412 ∷ 3 ∷ 1 ∷ 0 ∷ 0 ∷ 0 ∷ 0 ∷ 0 ∷ 0 ∷ 0 ∷ 0 ∷ 0 ∷ 0 ∷ 0 ∷ 0 ∷ 0 ∷ 1 ∷ 0 ∷ 0 ∷ 0 ∷ []) ∷
    line (op (unary DIV W64 1)) (write 0 18446744073709551615 ∷ write 1 18446744073709551615 ∷ write 2 0 ∷ []) (st O O I I) (st O I O I) true 0 0 ([])
    (0 ∷ 6 ∷ 1 ∷ 18446744073709551615 ∷ 0 ∷ 0 ∷ 0 ∷ 0 ∷ 0 ∷ 0 ∷ 0 ∷ 0 ∷ 0 ∷ 0 ∷ 0 ∷ 0 ∷ 0 ∷ 0 ∷ 0 ∷ 1 ∷ 0 ∷ 1 ∷ []) ∷
    line (op (bswap W64 15)) (write 15 81985529216486895 ∷ []) (st I I O I) (st I I O I) true 0 0 ([])
    (0 ∷ 6 ∷ 0 ∷ 0 ∷ 0 ∷ 0 ∷ 0 ∷ 0 ∷ 0 ∷ 0 ∷ 0 ∷ 0 ∷ 0 ∷ 0 ∷ 0 ∷ 0 ∷ 0 ∷ 17279655951921914625 ∷ 1 ∷ 1 ∷ 0 ∷ 1 ∷ []) ∷
    line (op (mov_imm W64 11 18364758544493064720)) (write 11 1 ∷ []) (st I O I O) (st O I I O) true 0 0 ([])
    (0 ∷ 13 ∷ 0 ∷ 0 ∷ 0 ∷ 0 ∷ 0 ∷ 0 ∷ 0 ∷ 0 ∷ 0 ∷ 0 ∷ 0 ∷ 18364758544493064720 ∷ 0 ∷ 0 ∷ 0 ∷ 0 ∷ 1 ∷ 0 ∷ 1 ∷ 0 ∷ []) ∷
    line (op (rol16 7 0)) (write 7 18446744073709518849 ∷ []) (st I O I O) (st O I I O) true 0 0 ([])
    (0 ∷ 7 ∷ 0 ∷ 0 ∷ 0 ∷ 0 ∷ 0 ∷ 0 ∷ 0 ∷ 18446744073709518849 ∷ 0 ∷ 0 ∷ 0 ∷ 0 ∷ 0 ∷ 0 ∷ 0 ∷ 0 ∷ 1 ∷ 0 ∷ 1 ∷ 0 ∷ []) ∷
    line (op (rol16 7 1)) (write 7 18446744073709518849 ∷ []) (st O I O I) (st O I I O) true 0 0 ([])
    (0 ∷ 7 ∷ 0 ∷ 0 ∷ 0 ∷ 0 ∷ 0 ∷ 0 ∷ 0 ∷ 18446744073709486083 ∷ 0 ∷ 0 ∷ 0 ∷ 0 ∷ 0 ∷ 0 ∷ 0 ∷ 0 ∷ 1 ∷ 1 ∷ 0 ∷ 1 ∷ []) ∷
    line (op (rol16 7 8)) (write 7 18446744073709518849 ∷ []) (st O O I I) (st I I I I) true 0 0 ([])
    (0 ∷ 7 ∷ 0 ∷ 0 ∷ 0 ∷ 0 ∷ 0 ∷ 0 ∷ 0 ∷ 18446744073709486464 ∷ 0 ∷ 0 ∷ 0 ∷ 0 ∷ 0 ∷ 0 ∷ 0 ∷ 0 ∷ 0 ∷ 0 ∷ 1 ∷ 1 ∷ []) ∷
    line (op (rol16 7 16)) (write 7 81985529216486895 ∷ []) (st I O O O) (st O O O I) true 0 0 ([])
    (0 ∷ 7 ∷ 0 ∷ 0 ∷ 0 ∷ 0 ∷ 0 ∷ 0 ∷ 0 ∷ 81985529216486895 ∷ 0 ∷ 0 ∷ 0 ∷ 0 ∷ 0 ∷ 0 ∷ 0 ∷ 0 ∷ 1 ∷ 0 ∷ 0 ∷ 1 ∷ []) ∷
    line (op (rol16 7 17)) (write 7 18446744073709518849 ∷ []) (st I O I I) (st I I I I) true 0 0 ([])
    (0 ∷ 7 ∷ 0 ∷ 0 ∷ 0 ∷ 0 ∷ 0 ∷ 0 ∷ 0 ∷ 18446744073709486083 ∷ 0 ∷ 0 ∷ 0 ∷ 0 ∷ 0 ∷ 0 ∷ 0 ∷ 0 ∷ 1 ∷ 0 ∷ 1 ∷ 1 ∷ []) ∷
    line (op (rol16 7 32)) (write 7 18446744073709518849 ∷ []) (st I I O O) (st O O I I) true 0 0 ([])
    (0 ∷ 7 ∷ 0 ∷ 0 ∷ 0 ∷ 0 ∷ 0 ∷ 0 ∷ 0 ∷ 18446744073709518849 ∷ 0 ∷ 0 ∷ 0 ∷ 0 ∷ 0 ∷ 0 ∷ 0 ∷ 0 ∷ 1 ∷ 1 ∷ 0 ∷ 0 ∷ []) ∷
    line (op (rol16 7 40)) (write 7 81985529216486895 ∷ []) (st I O I O) (st O O I I) true 0 0 ([])
    (0 ∷ 7 ∷ 0 ∷ 0 ∷ 0 ∷ 0 ∷ 0 ∷ 0 ∷ 0 ∷ 81985529216495565 ∷ 0 ∷ 0 ∷ 0 ∷ 0 ∷ 0 ∷ 0 ∷ 0 ∷ 0 ∷ 1 ∷ 0 ∷ 1 ∷ 1 ∷ []) ∷
    line (op (rol16 7 255)) (write 7 81985529216486895 ∷ []) (st I O O O) (st O O O I) true 0 0 ([])
    (0 ∷ 7 ∷ 0 ∷ 0 ∷ 0 ∷ 0 ∷ 0 ∷ 0 ∷ 0 ∷ 81985529216493303 ∷ 0 ∷ 0 ∷ 0 ∷ 0 ∷ 0 ∷ 0 ∷ 0 ∷ 0 ∷ 1 ∷ 0 ∷ 0 ∷ 1 ∷ []) ∷
    line (op (load S8 10 0 4294967288)) (write 10 7357755385451109419 ∷ []) (st O O O O) (st O I I O) true 2877361530 0 ([])
    (0 ∷ 8 ∷ 122 ∷ 0 ∷ 0 ∷ 0 ∷ 0 ∷ 0 ∷ 0 ∷ 0 ∷ 0 ∷ 0 ∷ 7357755385451109419 ∷ 0 ∷ 0 ∷ 0 ∷ 0 ∷ 0 ∷ 0 ∷ 0 ∷ 0 ∷ 0 ∷ []) ∷
    line (op (store S8 8 9 0)) (write 8 1 ∷ write 9 1 ∷ []) (st O O O I) (st I I I O) true 0 0 ([])
    (0 ∷ 6 ∷ 0 ∷ 0 ∷ 0 ∷ 0 ∷ 0 ∷ 0 ∷ 0 ∷ 0 ∷ 1 ∷ 1 ∷ 0 ∷ 0 ∷ 0 ∷ 0 ∷ 0 ∷ 0 ∷ 0 ∷ 0 ∷ 0 ∷ 1 ∷ []) ∷
    line (op (store_imm S8 5 0 1)) (write 5 221359107 ∷ []) (st I O O O) (st O O O I) true 0 0 ([])
    (0 ∷ 7 ∷ 0 ∷ 0 ∷ 0 ∷ 0 ∷ 0 ∷ 221359107 ∷ 0 ∷ 0 ∷ 0 ∷ 0 ∷ 0 ∷ 0 ∷ 0 ∷ 0 ∷ 0 ∷ 0 ∷ 1 ∷ 0 ∷ 0 ∷ 0 ∷ []) ∷
    line (op (load S16 10 0 4294967288)) (write 10 7161298052784541690 ∷ []) (st I I I I) (st O I O O) true 7508461347855732664 0 ([])
    (0 ∷ 8 ∷ 4024 ∷ 0 ∷ 0 ∷ 0 ∷ 0 ∷ 0 ∷ 0 ∷ 0 ∷ 0 ∷ 0 ∷ 7161298052784541690 ∷ 0 ∷ 0 ∷ 0 ∷ 0 ∷ 0 ∷ 1 ∷ 1 ∷ 1 ∷ 1 ∷ []) ∷
    line (op (store S16 8 9 0)) (write 8 10397468970586705074 ∷ write 9 9223372036854775807 ∷ []) (st I O O O) (st I I I I) true 0 0 ([])
    (0 ∷ 7 ∷ 0 ∷ 0 ∷ 0 ∷ 0 ∷ 0 ∷ 0 ∷ 0 ∷ 0 ∷ 10397468970586705074 ∷ 9223372036854775807 ∷ 0 ∷ 0 ∷ 0 ∷ 0 ∷ 0 ∷ 0 ∷ 1 ∷ 0 ∷ 0 ∷ 0 ∷ []) ∷
    line (op (store_imm S16 5 0 1)) (write 5 32768 ∷ []) (st I O I I) (st O O O O) true 0 0 ([])
    (0 ∷ 9 ∷ 0 ∷ 0 ∷ 0 ∷ 0 ∷ 0 ∷ 32768 ∷ 0 ∷ 0 ∷ 0 ∷ 0 ∷ 0 ∷ 0 ∷ 0 ∷ 0 ∷ 0 ∷ 0 ∷ 1 ∷ 0 ∷ 1 ∷ 1 ∷ []) ∷
    line (op (load S32 10 0 4294967288)) (write 10 3077026821969335810 ∷ []) (st O I I I) (st I I O I) true 32768 0 ([])
    (0 ∷ 7 ∷ 32768 ∷ 0 ∷ 0 ∷ 0 ∷ 0 ∷ 0 ∷ 0 ∷ 0 ∷ 0 ∷ 0 ∷ 3077026821969335810 ∷ 0 ∷ 0 ∷ 0 ∷ 0 ∷ 0 ∷ 0 ∷ 1 ∷ 1 ∷ 1 ∷ []) ∷
    line (op (store S32 8 9 0)) (write 8 4782721422959568478 ∷ write 9 3754560998 ∷ []) (st O O O O) (st O I I O) true 0 0 ([])
    (0 ∷ 6 ∷ 0 ∷ 0 ∷ 0 ∷ 0 ∷ 0 ∷ 0 ∷ 0 ∷ 0 ∷ 4782721422959568478 ∷ 3754560998 ∷ 0 ∷ 0 ∷ 0 ∷ 0 ∷ 0 ∷ 0 ∷ 0 ∷ 0 ∷ 0 ∷ 0 ∷ []) ∷
    line (op (store_imm S32 5 0 1)) (write 5 15801417977853033828 ∷ []) (st O I O O) (st O I I O) true 0 0 ([])
    (0 ∷ 10 ∷ 0 ∷ 0 ∷ 0 ∷ 0 ∷ 0 ∷ 15801417977853033828 ∷ 0 ∷ 0 ∷ 0 ∷ 0 ∷ 0 ∷ 0 ∷ 0 ∷ 0 ∷ 0 ∷ 0 ∷ 0 ∷ 1 ∷ 0 ∷ 0 ∷ []) ∷
    line (op (load S64 10 0 4294967288)) (write 10 3130088010 ∷ []) (st O I I I) (st O I I O) true 9223372036854775807 0 ([])
    (0 ∷ 7 ∷ 9223372036854775807 ∷ 0 ∷ 0 ∷ 0 ∷ 0 ∷ 0 ∷ 0 ∷ 0 ∷ 0 ∷ 0 ∷ 3130088010 ∷ 0 ∷ 0 ∷ 0 ∷ 0 ∷ 0 ∷ 0 ∷ 1 ∷ 1 ∷ 1 ∷ []) ∷
    line (op (store S64 8 9 0)) (write 8 1226545832 ∷ write 9 4294967295 ∷ []) (st I I I I) (st I I I O) true 0 0 ([])
    (0 ∷ 6 ∷ 0 ∷ 0 ∷ 0 ∷ 0 ∷ 0 ∷ 0 ∷ 0 ∷ 0 ∷ 1226545832 ∷ 4294967295 ∷ 0 ∷ 0 ∷ 0 ∷ 0 ∷ 0 ∷ 0 ∷ 1 ∷ 1 ∷ 1 ∷ 1 ∷ []) ∷
    line (op (store_imm S64 5 0 1)) (write 5 2859049257 ∷ []) (st O I O I) (st I O O O) true 0 0 ([])
    (0 ∷ 11 ∷ 0 ∷ 0 ∷ 0 ∷ 0 ∷ 0 ∷ 2859049257 ∷ 0 ∷ 0 ∷ 0 ∷ 0 ∷ 0 ∷ 0 ∷ 0 ∷ 0 ∷ 0 ∷ 0 ∷ 0 ∷ 1 ∷ 0 ∷ 1 ∷ []) ∷
    line (op (load S64 10 0 0)) (write 10 2147483648 ∷ []) (st O I O I) (st O I O I) false 15613322077361866579 0 ([])
    (2 ∷ []) ∷
    line (op (push 13)) (write 4 0 ∷ write 13 3651416493 ∷ []) (st I O I O) (st I I O O) true 0 0 ([])
    (0 ∷ 5 ∷ 0 ∷ 0 ∷ 0 ∷ 0 ∷ 18446744073709551608 ∷ 0 ∷ 0 ∷ 0 ∷ 0 ∷ 0 ∷ 0 ∷ 0 ∷ 0 ∷ 3651416493 ∷ 0 ∷ 0 ∷ 1 ∷ 0 ∷ 1 ∷ 0 ∷ []) ∷
    line (op (push 4)) (write 4 4 ∷ []) (st I O I O) (st I O I O) true 0 0 ([])
    (0 ∷ 4 ∷ 0 ∷ 0 ∷ 0 ∷ 0 ∷ 18446744073709551612 ∷ 0 ∷ 0 ∷ 0 ∷ 0 ∷ 0 ∷ 0 ∷ 0 ∷ 0 ∷ 0 ∷ 0 ∷ 0 ∷ 1 ∷ 0 ∷ 1 ∷ 0 ∷ []) ∷
    line (op (pop 13)) (write 4 18446744073709551608 ∷ []) (st O O O I) (st O I O O) true 15405840629896951100 0 ([])
    (0 ∷ 5 ∷ 0 ∷ 0 ∷ 0 ∷ 0 ∷ 0 ∷ 0 ∷ 0 ∷ 0 ∷ 0 ∷ 0 ∷ 0 ∷ 0 ∷ 0 ∷ 15405840629896951100 ∷ 0 ∷ 0 ∷ 0 ∷ 0 ∷ 0 ∷ 1 ∷ []) ∷
    line (op (pop 4)) (write 4 17751114927982481211 ∷ []) (st I O O I) (st I O O O) true 2147483648 0 ([])
    (0 ∷ 4 ∷ 0 ∷ 0 ∷ 0 ∷ 0 ∷ 2147483648 ∷ 0 ∷ 0 ∷ 0 ∷ 0 ∷ 0 ∷ 0 ∷ 0 ∷ 0 ∷ 0 ∷ 0 ∷ 0 ∷ 1 ∷ 0 ∷ 0 ∷ 1 ∷ []) ∷
    line (jump (jcc JB) 4294967280) ([]) (st I O I O) (st O O I I) true 0 0 ([])
    (0 ∷ 18446744073709551609 ∷ 0 ∷ 0 ∷ 0 ∷ 0 ∷ 0 ∷ 0 ∷ 0 ∷ 0 ∷ 0 ∷ 0 ∷ 0 ∷ 0 ∷ 0 ∷ 0 ∷ 0 ∷ 0 ∷ 1 ∷ 0 ∷ 1 ∷ 0 ∷ []) ∷
    line (jump (jcc JB) 5) ([]) (st I I O I) (st O I I I) true 0 0 ([])
    (0 ∷ 14 ∷ 0 ∷ 0 ∷ 0 ∷ 0 ∷ 0 ∷ 0 ∷ 0 ∷ 0 ∷ 0 ∷ 0 ∷ 0 ∷ 0 ∷ 0 ∷ 0 ∷ 0 ∷ 0 ∷ 1 ∷ 1 ∷ 0 ∷ 1 ∷ []) ∷
    line (jump (jcc JB) 2147483648) ([]) (st O O I I) (st O O I I) true 0 0 ([])
    (0 ∷ 9 ∷ 0 ∷ 0 ∷ 0 ∷ 0 ∷ 0 ∷ 0 ∷ 0 ∷ 0 ∷ 0 ∷ 0 ∷ 0 ∷ 0 ∷ 0 ∷ 0 ∷ 0 ∷ 0 ∷ 0 ∷ 0 ∷ 1 ∷ 1 ∷ []) ∷
    line (jump (jcc JAE) 4294967280) ([]) (st I I I O) (st O I I I) true 0 0 ([])
    (0 ∷ 9 ∷ 0 ∷ 0 ∷ 0 ∷ 0 ∷ 0 ∷ 0 ∷ 0 ∷ 0 ∷ 0 ∷ 0 ∷ 0 ∷ 0 ∷ 0 ∷ 0 ∷ 0 ∷ 0 ∷ 1 ∷ 1 ∷ 1 ∷ 0 ∷ []) ∷
    line (jump (jcc JAE) 4294967280) ([]) (st I O O I) (st I I O O) true 0 0 ([])
    (0 ∷ 9 ∷ 0 ∷ 0 ∷ 0 ∷ 0 ∷ 0 ∷ 0 ∷ 0 ∷ 0 ∷ 0 ∷ 0 ∷ 0 ∷ 0 ∷ 0 ∷ 0 ∷ 0 ∷ 0 ∷ 1 ∷ 0 ∷ 0 ∷ 1 ∷ []) ∷
    line (jump (jcc JAE) 2147483648) ([]) (st O I O O) (st O I I I) true 0 0 ([])
    (0 ∷ 18446744071562067977 ∷ 0 ∷ 0 ∷ 0 ∷ 0 ∷ 0 ∷ 0 ∷ 0 ∷ 0 ∷ 0 ∷ 0 ∷ 0 ∷ 0 ∷ 0 ∷ 0 ∷ 0 ∷ 0 ∷ 0 ∷ 1 ∷ 0 ∷ 0 ∷ []) ∷
    line (jump (jcc JE) 4294967280) ([]) (st I I O O) (st I I O I) true 0 0 ([])
    (0 ∷ 18446744073709551609 ∷ 0 ∷ 0 ∷ 0 ∷ 0 ∷ 0 ∷ 0 ∷ 0 ∷ 0 ∷ 0 ∷ 0 ∷ 0 ∷ 0 ∷ 0 ∷ 0 ∷ 0 ∷ 0 ∷ 1 ∷ 1 ∷ 0 ∷ 0 ∷ []) ∷
    line (jump (jcc JE) 2147483647) ([]) (st I O I I) (st I I I O) true 0 0 ([])
    (0 ∷ 9 ∷ 0 ∷ 0 ∷ 0 ∷ 0 ∷ 0 ∷ 0 ∷ 0 ∷ 0 ∷ 0 ∷ 0 ∷ 0 ∷ 0 ∷ 0 ∷ 0 ∷ 0 ∷ 0 ∷ 1 ∷ 0 ∷ 1 ∷ 1 ∷ []) ∷
    line (jump (jcc JE) 5) ([]) (st O I I O) (st O O O I) true 0 0 ([])
    (0 ∷ 14 ∷ 0 ∷ 0 ∷ 0 ∷ 0 ∷ 0 ∷ 0 ∷ 0 ∷ 0 ∷ 0 ∷ 0 ∷ 0 ∷ 0 ∷ 0 ∷ 0 ∷ 0 ∷ 0 ∷ 0 ∷ 1 ∷ 1 ∷ 0 ∷ []) ∷
    line (jump (jcc JNE) 2147483647) ([]) (st I I O I) (st O I O I) true 0 0 ([])
    (0 ∷ 9 ∷ 0 ∷ 0 ∷ 0 ∷ 0 ∷ 0 ∷ 0 ∷ 0 ∷ 0 ∷ 0 ∷ 0 ∷ 0 ∷ 0 ∷ 0 ∷ 0 ∷ 0 ∷ 0 ∷ 1 ∷ 1 ∷ 0 ∷ 1 ∷ []) ∷
    line (jump (jcc JNE) 2147483647) ([]) (st O O O I) (st O I I I) true 0 0 ([])
    (0 ∷ 2147483656 ∷ 0 ∷ 0 ∷ 0 ∷ 0 ∷ 0 ∷ 0 ∷ 0 ∷ 0 ∷ 0 ∷ 0 ∷ 0 ∷ 0 ∷ 0 ∷ 0 ∷ 0 ∷ 0 ∷ 0 ∷ 0 ∷ 0 ∷ 1 ∷ []) ∷
    line (jump (jcc JNE) 5) ([]) (st O I O I) (st I O O I) true 0 0 ([])
    (0 ∷ 9 ∷ 0 ∷ 0 ∷ 0 ∷ 0 ∷ 0 ∷ 0 ∷ 0 ∷ 0 ∷ 0 ∷ 0 ∷ 0 ∷ 0 ∷ 0 ∷ 0 ∷ 0 ∷ 0 ∷ 0 ∷ 1 ∷ 0 ∷ 1 ∷ []) ∷
    line (jump (jcc JBE) 2147483647) ([]) (st O I O O) (st O O I I) true 0 0 ([])
    (0 ∷ 2147483656 ∷ 0 ∷ 0 ∷ 0 ∷ 0 ∷ 0 ∷ 0 ∷ 0 ∷ 0 ∷ 0 ∷ 0 ∷ 0 ∷ 0 ∷ 0 ∷ 0 ∷ 0 ∷ 0 ∷ 0 ∷ 1 ∷ 0 ∷ 0 ∷ []) ∷
    line (jump (jcc JBE) 5) ([]) (st I O I O) (st I O I I) true 0 0 ([])
    (0 ∷ 14 ∷ 0 ∷ 0 ∷ 0 ∷ 0 ∷ 0 ∷ 0 ∷ 0 ∷ 0 ∷ 0 ∷ 0 ∷ 0 ∷ 0 ∷ 0 ∷ 0 ∷ 0 ∷ 0 ∷ 1 ∷ 0 ∷ 1 ∷ 0 ∷ []) ∷
    line (jump (jcc JBE) 2147483647) ([]) (st O I O I) (st I O I O) true 0 0 ([])
    (0 ∷ 2147483656 ∷ 0 ∷ 0 ∷ 0 ∷ 0 ∷ 0 ∷ 0 ∷ 0 ∷ 0 ∷ 0 ∷ 0 ∷ 0 ∷ 0 ∷ 0 ∷ 0 ∷ 0 ∷ 0 ∷ 0 ∷ 1 ∷ 0 ∷ 1 ∷ []) ∷
    line (jump (jcc JA) 5) ([]) (st I I O O) (st I O I I) true 0 0 ([])
    (0 ∷ 9 ∷ 0 ∷ 0 ∷ 0 ∷ 0 ∷ 0 ∷ 0 ∷ 0 ∷ 0 ∷ 0 ∷ 0 ∷ 0 ∷ 0 ∷ 0 ∷ 0 ∷ 0 ∷ 0 ∷ 1 ∷ 1 ∷ 0 ∷ 0 ∷ []) ∷
    line (jump (jcc JA) 5) ([]) (st I I I I) (st I I O I) true 0 0 ([])
    (0 ∷ 9 ∷ 0 ∷ 0 ∷ 0 ∷ 0 ∷ 0 ∷ 0 ∷ 0 ∷ 0 ∷ 0 ∷ 0 ∷ 0 ∷ 0 ∷ 0 ∷ 0 ∷ 0 ∷ 0 ∷ 1 ∷ 1 ∷ 1 ∷ 1 ∷ []) ∷
    line (jump (jcc JA) 5) ([]) (st O O O I) (st O I I I) true 0 0 ([])
    (0 ∷ 14 ∷ 0 ∷ 0 ∷ 0 ∷ 0 ∷ 0 ∷ 0 ∷ 0 ∷ 0 ∷ 0 ∷ 0 ∷ 0 ∷ 0 ∷ 0 ∷ 0 ∷ 0 ∷ 0 ∷ 0 ∷ 0 ∷ 0 ∷ 1 ∷ []) ∷
    line (jump (jcc JL) 2147483648) ([]) (st O I O I) (st O I I I) true 0 0 ([])
    (0 ∷ 18446744071562067977 ∷ 0 ∷ 0 ∷ 0 ∷ 0 ∷ 0 ∷ 0 ∷ 0 ∷ 0 ∷ 0 ∷ 0 ∷ 0 ∷ 0 ∷ 0 ∷ 0 ∷ 0 ∷ 0 ∷ 0 ∷ 1 ∷ 0 ∷ 1 ∷ []) ∷
    line (jump (jcc JL) 4294967280) ([]) (st O I O I) (st I I O O) true 0 0 ([])
    (0 ∷ 18446744073709551609 ∷ 0 ∷ 0 ∷ 0 ∷ 0 ∷ 0 ∷ 0 ∷ 0 ∷ 0 ∷ 0 ∷ 0 ∷ 0 ∷ 0 ∷ 0 ∷ 0 ∷ 0 ∷ 0 ∷ 0 ∷ 1 ∷ 0 ∷ 1 ∷ []) ∷
    line (jump (jcc JL) 5) ([]) (st O O I O) (st O I O I) true 0 0 ([])
    (0 ∷ 14 ∷ 0 ∷ 0 ∷ 0 ∷ 0 ∷ 0 ∷ 0 ∷ 0 ∷ 0 ∷ 0 ∷ 0 ∷ 0 ∷ 0 ∷ 0 ∷ 0 ∷ 0 ∷ 0 ∷ 0 ∷ 0 ∷ 1 ∷ 0 ∷ []) ∷
    line (jump (jcc JGE) 2147483647) ([]) (st O I O I) (st O O I O) true 0 0 ([])
    (0 ∷ 9 ∷ 0 ∷ 0 ∷ 0 ∷ 0 ∷ 0 ∷ 0 ∷ 0 ∷ 0 ∷ 0 ∷ 0 ∷ 0 ∷ 0 ∷ 0 ∷ 0 ∷ 0 ∷ 0 ∷ 0 ∷ 1 ∷ 0 ∷ 1 ∷ []) ∷
    line (jump (jcc JGE) 2147483648) ([]) (st O O I O) (st I I I I) true 0 0 ([])
    (0 ∷ 9 ∷ 0 ∷ 0 ∷ 0 ∷ 0 ∷ 0 ∷ 0 ∷ 0 ∷ 0 ∷ 0 ∷ 0 ∷ 0 ∷ 0 ∷ 0 ∷ 0 ∷ 0 ∷ 0 ∷ 0 ∷ 0 ∷ 1 ∷ 0 ∷ []) ∷
    line (jump (jcc JGE) 5) ([]) (st I O I O) (st O I O O) true 0 0 ([])
    (0 ∷ 9 ∷ 0 ∷ 0 ∷ 0 ∷ 0 ∷ 0 ∷ 0 ∷ 0 ∷ 0 ∷ 0 ∷ 0 ∷ 0 ∷ 0 ∷ 0 ∷ 0 ∷ 0 ∷ 0 ∷ 1 ∷ 0 ∷ 1 ∷ 0 ∷ []) ∷
    line (jump (jcc JLE) 4294967280) ([]) (st I I I O) (st I I O O) true 0 0 ([])
    (0 ∷ 18446744073709551609 ∷ 0 ∷ 0 ∷ 0 ∷ 0 ∷ 0 ∷ 0 ∷ 0 ∷ 0 ∷ 0 ∷ 0 ∷ 0 ∷ 0 ∷ 0 ∷ 0 ∷ 0 ∷ 0 ∷ 1 ∷ 1 ∷ 1 ∷ 0 ∷ []) ∷
    line (jump (jcc JLE) 5) ([]) (st O O I I) (st O O O O) true 0 0 ([])
    (0 ∷ 9 ∷ 0 ∷ 0 ∷ 0 ∷ 0 ∷ 0 ∷ 0 ∷ 0 ∷ 0 ∷ 0 ∷ 0 ∷ 0 ∷ 0 ∷ 0 ∷ 0 ∷ 0 ∷ 0 ∷ 0 ∷ 0 ∷ 1 ∷ 1 ∷ []) ∷
    line (jump (jcc JLE) 5) ([]) (st O O I O) (st I O I I) true 0 0 ([])
    (0 ∷ 14 ∷ 0 ∷ 0 ∷ 0 ∷ 0 ∷ 0 ∷ 0 ∷ 0 ∷ 0 ∷ 0 ∷ 0 ∷ 0 ∷ 0 ∷ 0 ∷ 0 ∷ 0 ∷ 0 ∷ 0 ∷ 0 ∷ 1 ∷ 0 ∷ []) ∷
    line (jump (jcc JG) 2147483648) ([]) (st I I O O) (st O O O I) true 0 0 ([])
    (0 ∷ 9 ∷ 0 ∷ 0 ∷ 0 ∷ 0 ∷ 0 ∷ 0 ∷ 0 ∷ 0 ∷ 0 ∷ 0 ∷ 0 ∷ 0 ∷ 0 ∷ 0 ∷ 0 ∷ 0 ∷ 1 ∷ 1 ∷ 0 ∷ 0 ∷ []) ∷
    line (jump (jcc JG) 2147483648) ([]) (st I I O O) (st I O I O) true 0 0 ([])
    (0 ∷ 9 ∷ 0 ∷ 0 ∷ 0 ∷ 0 ∷ 0 ∷ 0 ∷ 0 ∷ 0 ∷ 0 ∷ 0 ∷ 0 ∷ 0 ∷ 0 ∷ 0 ∷ 0 ∷ 0 ∷ 1 ∷ 1 ∷ 0 ∷ 0 ∷ []) ∷
    line (jump (jcc JG) 2147483647) ([]) (st O I O O) (st I I O I) true 0 0 ([])
    (0 ∷ 9 ∷ 0 ∷ 0 ∷ 0 ∷ 0 ∷ 0 ∷ 0 ∷ 0 ∷ 0 ∷ 0 ∷ 0 ∷ 0 ∷ 0 ∷ 0 ∷ 0 ∷ 0 ∷ 0 ∷ 0 ∷ 1 ∷ 0 ∷ 0 ∷ []) ∷
    line (jump jmp 5) ([]) (st O O O O) (st I O O O) true 0 0 ([])
    (0 ∷ 13 ∷ 0 ∷ 0 ∷ 0 ∷ 0 ∷ 0 ∷ 0 ∷ 0 ∷ 0 ∷ 0 ∷ 0 ∷ 0 ∷ 0 ∷ 0 ∷ 0 ∷ 0 ∷ 0 ∷ 0 ∷ 0 ∷ 0 ∷ 0 ∷ []) ∷
    line (jump jmp 4294967291) ([]) (st I O O I) (st I O O I) true 0 0 ([])
    (0 ∷ 3 ∷ 0 ∷ 0 ∷ 0 ∷ 0 ∷ 0 ∷ 0 ∷ 0 ∷ 0 ∷ 0 ∷ 0 ∷ 0 ∷ 0 ∷ 0 ∷ 0 ∷ 0 ∷ 0 ∷ 1 ∷ 0 ∷ 0 ∷ 1 ∷ []) ∷
    line (jump call 5) (write 4 32767 ∷ []) (st I I O I) (st I O O I) true 0 0 ([])
    (0 ∷ 13 ∷ 0 ∷ 0 ∷ 0 ∷ 0 ∷ 32759 ∷ 0 ∷ 0 ∷ 0 ∷ 0 ∷ 0 ∷ 0 ∷ 0 ∷ 0 ∷ 0 ∷ 0 ∷ 0 ∷ 1 ∷ 1 ∷ 0 ∷ 1 ∷ 8 ∷ 32759 ∷ []) ∷
    line (jump call 5) (write 4 7318787935441488831 ∷ []) (st I I O O) (st I I I O) false 0 0 ([])
    (2 ∷ []) ∷
    line (call_reg 0) (write 0 268579694 ∷ write 1 3025399634445422601 ∷ write 4 14699796606500965284 ∷ write 13 127 ∷ []) (st O O I I) (st O O O I) true 18446744073709551615 0 ([])
    (0 ∷ 5 ∷ 18446744073709551615 ∷ 0 ∷ 1 ∷ 2 ∷ 14699796606500965284 ∷ 4 ∷ 5 ∷ 6 ∷ 7 ∷ 8 ∷ 9 ∷ 10 ∷ 11 ∷ 12 ∷ 13 ∷ 14 ∷ 0 ∷ 0 ∷ 0 ∷ 1 ∷ []) ∷
    line (ret) (write 4 3706811335 ∷ []) (st O O I I) (st O O O I) true 0 77 ([])
    (1 ∷ 77 ∷ 0 ∷ 0 ∷ 0 ∷ 0 ∷ 3706811343 ∷ 0 ∷ 0 ∷ 0 ∷ 0 ∷ 0 ∷ 0 ∷ 0 ∷ 0 ∷ 0 ∷ 0 ∷ 0 ∷ 0 ∷ 0 ∷ 1 ∷ 1 ∷ []) ∷
    line (ret) (write 4 1017728703 ∷ []) (st I I I I) (st I I I I) true 0 77 (frame 77 7229854597221518399 ∷ frame 5 3129033318 ∷ [])
    (0 ∷ 77 ∷ 0 ∷ 0 ∷ 0 ∷ 0 ∷ 1017728711 ∷ 0 ∷ 0 ∷ 0 ∷ 0 ∷ 0 ∷ 0 ∷ 0 ∷ 0 ∷ 0 ∷ 0 ∷ 0 ∷ 1 ∷ 1 ∷ 1 ∷ 1 ∷ 5 ∷ 3129033318 ∷ []) ∷
    line (ret) (write 4 3553629252 ∷ []) (st I I O I) (st I I O I) true 0 78 (frame 77 8392989569448324143 ∷ [])
    (3 ∷ []) ∷
    line (op (push 13)) (write 4 7999905160491457588 ∷ []) (st I I I I) (st O I I O) false 18446744073709551614 77 ([])
    (2 ∷ []) ∷
    line (op (pop 13)) (write 4 2117899695 ∷ []) (st O O O O) (st O I I O) false 18446744073709551614 77 ([])
    (2 ∷ []) ∷
    line (op (pop 4)) (write 4 4278627135029127511 ∷ []) (st I O O O) (st O I O I) false 3689362469081421720 77 ([])
    (2 ∷ []) ∷
    line (call_reg 0) (write 4 3456239496010769861 ∷ []) (st O I I O) (st O I O O) false 2174320676 77 ([])
    (2 ∷ []) ∷
    line (ret) (write 4 3483561353 ∷ []) (st O I O I) (st O I O O) false 671696759 77 ([])
    (2 ∷ []) ∷
    line (op (load S8 10 0 0)) (write 10 18446744073709551614 ∷ []) (st O I O I) (st I O O I) false 4294967296 0 ([])
    (2 ∷ []) ∷
    line (op (store S8 8 9 0)) (write 8 17779489703935892346 ∷ write 9 2 ∷ []) (st O O I I) (st I I I I) false 0 0 ([])
    (2 ∷ []) ∷
    line (op (store_imm S8 5 0 1)) (write 5 4294967294 ∷ []) (st I O O O) (st I I I O) false 0 0 ([])
    (2 ∷ []) ∷
    line (op (load S16 10 0 0)) (write 10 15818228988585994741 ∷ []) (st I O O O) (st O O O I) false 2391702323130947903 0 ([])
    (2 ∷ []) ∷
    line (op (store S16 8 9 0)) (write 8 4722368286641607655 ∷ write 9 6812580179159549316 ∷ []) (st O I O I) (st O O I I) false 0 0 ([])
    (2 ∷ []) ∷
    line (op (store_imm S16 5 0 1)) (write 5 128 ∷ []) (st I O I I) (st I O I O) false 0 0 ([])
    (2 ∷ []) ∷
    line (op (load S32 10 0 0)) (write 10 9223372036854775807 ∷ []) (st I I O I) (st O I O I) false 65535 0 ([])
    (2 ∷ []) ∷
    line (op (store S32 8 9 0)) (write 8 13792203193520350512 ∷ write 9 432526799 ∷ []) (st O O I I) (st I I I O) false 0 0 ([])
    (2 ∷ []) ∷
    line (op (store_imm S32 5 0 1)) (write 5 0 ∷ []) (st I I I O) (st I O I I) false 0 0 ([])
    (2 ∷ []) ∷
    line (op (load S64 10 0 0)) (write 10 3256894069 ∷ []) (st I O I O) (st O I I I) false 5601100989384544224 0 ([])
    (2 ∷ []) ∷
    line (op (store S64 8 9 0)) (write 8 3061376343 ∷ write 9 14908280205641382544 ∷ []) (st I O O I) (st O O I I) false 0 0 ([])
    (2 ∷ []) ∷
    line (op (store_imm S64 5 0 1)) (write 5 8179803077758111877 ∷ []) (st I O I O) (st O O I I) false 0 0 ([])
    (2 ∷ []) ∷
    line (ret) (write 4 2364213303597732095 ∷ []) (st O I I I) (st I I O I) false 0 77 (frame 77 255 ∷ [])
    (2 ∷ []) ∷
    line (ret) (write 4 1 ∷ []) (st I O I O) (st I I O O) false 0 78 (frame 77 32767 ∷ [])
    (2 ∷ []) ∷
    line (op (alu ADD W64 6 13)) (write 6 2147483647 ∷ write 13 228119581 ∷ []) (st O I O O) (st O O I O) false 0 0 ([])
    (0 ∷ 6 ∷ 0 ∷ 0 ∷ 0 ∷ 0 ∷ 0 ∷ 0 ∷ 2147483647 ∷ 0 ∷ 0 ∷ 0 ∷ 0 ∷ 0 ∷ 0 ∷ 2375603228 ∷ 0 ∷ 0 ∷ 0 ∷ 0 ∷ 0 ∷ 0 ∷ []) ∷
    line (op (unary DIV W64 1)) (write 0 7 ∷ write 1 0 ∷ []) (st O I O I) (st O I I O) false 0 0 ([])
    (4 ∷ []) ∷
    line (jump jmp 5) ([]) (st O I I I) (st I O O I) false 0 0 ([])
    (0 ∷ 13 ∷ 0 ∷ 0 ∷ 0 ∷ 0 ∷ 0 ∷ 0 ∷ 0 ∷ 0 ∷ 0 ∷ 0 ∷ 0 ∷ 0 ∷ 0 ∷ 0 ∷ 0 ∷ 0 ∷ 0 ∷ 1 ∷ 1 ∷ 1 ∷ []) ∷
    line (jump (jcc JE) 5) ([]) (st O O I I) (st I I O I) false 0 0 ([])
    (0 ∷ 9 ∷ 0 ∷ 0 ∷ 0 ∷ 0 ∷ 0 ∷ 0 ∷ 0 ∷ 0 ∷ 0 ∷ 0 ∷ 0 ∷ 0 ∷ 0 ∷ 0 ∷ 0 ∷ 0 ∷ 0 ∷ 0 ∷ 1 ∷ 1 ∷ []) ∷
    line (op (mov_imm W32 11 4275878552)) (write 11 18446744073709551615 ∷ []) (st O O I O) (st I O I I) true 0 0 ([])
    (0 ∷ 9 ∷ 0 ∷ 0 ∷ 0 ∷ 0 ∷ 0 ∷ 0 ∷ 0 ∷ 0 ∷ 0 ∷ 0 ∷ 0 ∷ 4275878552 ∷ 0 ∷ 0 ∷ 0 ∷ 0 ∷ 0 ∷ 0 ∷ 1 ∷ 0 ∷ []) ∷
    line (op (mov_imm W32 1 2147483647)) (write 1 18446744073709551615 ∷ []) (st I I I I) (st O O O O) true 0 0 ([])
    (0 ∷ 8 ∷ 0 ∷ 2147483647 ∷ 0 ∷ 0 ∷ 0 ∷ 0 ∷ 0 ∷ 0 ∷ 0 ∷ 0 ∷ 0 ∷ 0 ∷ 0 ∷ 0 ∷ 0 ∷ 0 ∷ 1 ∷ 1 ∷ 1 ∷ 1 ∷ []) ∷
    line (op (mov_imm W32 4 0)) (write 4 18446744073709551615 ∷ []) (st I I O I) (st I I I I) true 0 0 ([])
    (0 ∷ 8 ∷ 0 ∷ 0 ∷ 0 ∷ 0 ∷ 0 ∷ 0 ∷ 0 ∷ 0 ∷ 0 ∷ 0 ∷ 0 ∷ 0 ∷ 0 ∷ 0 ∷ 0 ∷ 0 ∷ 1 ∷ 1 ∷ 0 ∷ 1 ∷ []) ∷
    line (op (mov_imm W32 0 5)) (write 0 18446744073709551615 ∷ []) (st I I I O) (st O O I I) false 0 0 ([])
    (0 ∷ 8 ∷ 5 ∷ 0 ∷ 0 ∷ 0 ∷ 0 ∷ 0 ∷ 0 ∷ 0 ∷ 0 ∷ 0 ∷ 0 ∷ 0 ∷ 0 ∷ 0 ∷ 0 ∷ 0 ∷ 1 ∷ 1 ∷ 1 ∷ 0 ∷ []) ∷
    []

pub tested : map comes table ≡ map (λ (l : Line). l.expected) table
unfolding table rex modrm memory bare short decode with_rex rex_of opcode opcode16 with_modrm reg_number low_number number rd result shifted shift_status rolled rol_status swapped divides follow step
tested = refl
