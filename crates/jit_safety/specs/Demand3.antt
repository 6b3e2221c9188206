-- Demand 3: what an accepted page does when it is read and run. Four statements, of the code and the tables that a translation gives:
-- reading, landing, staying, the stack pointer. They are about the processor of Machine.antt and the instruction reader of crate x86.
-- Proved.antt proves them of everything that `translation_of` accepts; Useless.antt and the files beside it show what each part of them shuts
-- out by itself.
use Rattle.std.specs.Prelude.{◌≡◌, List, [], ◌∷◌, ◌++◌, ℕ, ◌+◌, ◌-◌, ◌%◌, ◌^◌, ◌≤◌, ◌<◌, length, get_or, drop}
use Rattle.base.specs.declared.Width.{Width}
use Rattle.base.specs.declared.Width.TheVariants.{W64}
use Rattle.ebpf.specs.Insn.{insn_at}
use Rattle.ebpf.specs.Opcode.{kind_of}
use Rattle.ebpf.specs.declared.kind.Source.TheVariants.{Reg}
use Rattle.ebpf.specs.declared.kind.MulOp.TheVariants.{Div}
use Rattle.ebpf.specs.declared.kind.Kind.TheVariants.{MulDivMod}
use Rattle.ebpf.specs.declared.kind.Lookup.TheVariants.{Known}
use Rattle.x86.specs.Registers.{RSP, RBX, RBP, R13, R14, R15}
use Rattle.x86.specs.Instr.{Instr, Plain, op, pop, alu_imm, ADD, Jump, jmp, call, jcc, JNE, jump, ret}
use Rattle.x86.specs.Encode.{isa, len}
use Rattle.x86.specs.Decode.{decode, got, read_all, all}
use Rattle.x86.specs.Code.{size}
use Rattle.code.specs.Code.{span}
use Rattle.code.specs.Page.{instructions}
use Rattle.code.specs.Landing as shared
pub use Rattle.code.specs.Landing.{slot, exit, first, of_slot, of_prologue}
use Rattle.jit.specs.Frame.{prologue}
use Rattle.jit.specs.Translation.{Inputs, Block}
pub use Rattle.jit.specs.JumpTables.{blocks_in, blocks_of, page_for}
use Rattle.x86_machine.specs.Machine.{State, Input, running, finished, faulted, unbalanced, divided, astray, follow, run, top_of, EntersFrom}
use Rattle.x86_machine.specs.Machine as machine

-- What lent slices can hold: bytes, and addresses of 64 bits. Rattle says this of every slice (`shared-slice-known`), and nothing else is
-- asked of the inputs.
pub record Given (x : Inputs) : Type 0 where
  pub bytes : (k : ℕ) → get_or x.filter.program k 0 < 2 ^ 8
  pub addresses : (k : ℕ) → get_or x.filter.addresses k 0 < 2 ^ 64

-- The instructions that demand 2 names: the prologue, the code of each block, the epilogue, each jump with its field.
abbrev pub instructions_of : Inputs → List (Instr ℕ)
instructions_of x = instructions isa (page_for x)

-- 1. READING. Read from its first byte by Intel's rules, the code is these instructions end to end, and the last is a return.
pub record Reading (code : List ℕ) (is : List (Instr ℕ)) : Type 0 where
  pub read : read_all code ≡ all is
  pub others : List (Instr ℕ)
  pub last : is ≡ others ++ (ret ∷ [])

-- 2. LANDING (code/specs/Landing.antt). An instruction stands at p: those before it have p bytes.
abbrev pub Stands : List (Instr ℕ) → (p : ℕ) → Instr ℕ → Type 0
Stands = shared.Stands isa

-- the code of slot t begins at q, and is b's
abbrev pub SlotAt : (x : Inputs) → (t q : ℕ) → Block → Type 0
SlotAt x = shared.SlotAt isa (page_for x)

-- the exit: the last seven instructions, 16 bytes, begin at p
abbrev pub leaving : List (Instr ℕ)
leaving =
    op (alu_imm ADD W64 RSP 512)
    ∷ op (pop R15)
    ∷ op (pop R14)
    ∷ op (pop R13)
    ∷ op (pop RBX)
    ∷ op (pop RBP)
    ∷ ret
    ∷ []

pub record ExitAt (code : List ℕ) (is : List (Instr ℕ)) (p : ℕ) : Type 0 where
  pub before : List (Instr ℕ)
  pub split : is ≡ before ++ leaving
  pub place : span len before ≡ p
  pub ends : p + 16 ≡ length code

-- p is where target t lies; and the field at f is the last four bytes of a jump, conditional jump or call of the kind s, within the code of
-- slot w (within the prologue for n), and the processor, following it, goes where target t lies
abbrev pub Meant : (x : Inputs) → (code : List ℕ) → List (Instr ℕ) → (locs : List ℕ) → (t p : ℕ) → Type 0
Meant x code is = shared.Meant isa (page_for x) (ExitAt code is)

abbrev pub Lands : (x : Inputs) → (code : List ℕ) → List (Instr ℕ) → (locs : List ℕ) → (f t s w : ℕ) → Type 0
Lands x code is = shared.Lands isa (page_for x) (ExitAt code is) code is

-- A jump that is not listed, ending at e. It is the prologue's call, ends 5 bytes before the prologue does, and goes to the first byte
-- behind it; or the skip of a division by a register, JNE over one instruction and a jump, and goes to the instruction behind that jump, in
-- the same slot.
pub record Skips (x : Inputs) (j : Jump) (v e : ℕ) (behind : List (Instr ℕ)) : Type 0 where
  pub unequal : j ≡ jcc JNE
  pub clear : Plain
  pub field : ℕ
  pub next : Instr ℕ
  pub more : List (Instr ℕ)
  pub over : behind ≡ op clear ∷ jump jmp field ∷ next ∷ more
  pub goes : follow e v ≡ e + (len {D = ℕ} (op clear) + len (jump jmp field))
  pub t : ℕ
  pub q : ℕ
  pub block : Block
  pub slot : SlotAt x t q block
  pub width : Width
  pub divides : kind_of (insn_at x.filter.program t).opc ≡ Known (MulDivMod Div width Reg)
  pub from : q + len {D = ℕ} (jump j v) ≤ e
  pub within : follow e v + len next ≤ q + size block.code

pub data Unlisted (x : Inputs) (fields : List ℕ) (j : Jump) (v e : ℕ) (behind : List (Instr ℕ)) : Type 0 where
  listed : (k : ℕ) → k < length fields → get_or fields k 0 + 4 ≡ e → Unlisted x fields j v e behind
  entry : j ≡ call → e + 5 ≡ size (prologue x.flags) → follow e v ≡ size (prologue x.flags) → Unlisted x fields j v e behind
  skip : Skips x j v e behind → Unlisted x fields j v e behind

-- The prologue's call, five bytes, stands before the prologue's jump, five more, and goes over it.
pub record Enters (x : Inputs) (is : List (Instr ℕ)) : Type 0 where
  pub field : ℕ
  pub stands : Stands is (size (prologue x.flags) - 10) (jump call field)
  pub goes : follow (size (prologue x.flags) - 5) field ≡ size (prologue x.flags)

pub record Landing (x : Inputs) (code : List ℕ) (is : List (Instr ℕ)) (locs fields targets kinds makers : List ℕ) : Type 0 where
  pub pairs : (length targets ≡ length fields) × ((length kinds ≡ length fields) × (length makers ≡ length fields))
  pub listed : (k : ℕ) → k < length fields → Lands x code is locs (get_or fields k 0) (get_or targets k 0) (get_or kinds k 0) (get_or makers k 0)
  pub enters : Enters x is
  pub others : (p v : ℕ) (j : Jump) (s : Stands is p (jump j v)) → Unlisted x fields j v (p + len {D = ℕ} (jump j v)) s.behind

-- 3. STAYING. From the first byte with no call open, for all registers, flags, what loads, pops and helpers give, and every number of
-- steps: at the start of one of those instructions, or ended, or at the premise's end; never astray, and no division faults.
abbrev pub Begins : State → Type 0
Begins s = (s.pos ≡ 0) × (s.calls ≡ [])

abbrev pub Stays : List (Instr ℕ) → machine.Outcome → Type 0
Stays is (running s) = (i : Instr ℕ) × Stands is s.pos i
Stays is (finished s) = Unit {0}
Stays is faulted = Unit {0}
Stays is unbalanced = Unit {0}
Stays is divided = ⊥
Stays is astray = ⊥

abbrev pub Staying : List ℕ → List (Instr ℕ) → Type 0
Staying code is = (us : List Input) (s : State) → Begins s → Stays is (run code us s)

-- 4. THE STACK POINTER, in runs that come to the epilogue, 16 bytes before the end, only by the prologue's jump, the first that is listed:
-- its field is its last four bytes of five. Where a return stands, RSP is what its call left, or what it was when the run began; behind
-- the last one it is 8 above that.
pub record StackPointer (code fields : List ℕ) : Type 0 where
  pub each : (us : List Input) (s t : State) (r : List ℕ) → Begins s → EntersFrom code (length code - 16) (get_or fields 0 0 - 1) us s
      → run code us s ≡ running t → decode (drop t.pos code) ≡ got ret r → t.regs RSP % 2 ^ 64 ≡ top_of (s.regs RSP) t.calls % 2 ^ 64
  pub final : (us : List Input) (s t : State) → Begins s → EntersFrom code (length code - 16) (get_or fields 0 0 - 1) us s
      → run code us s ≡ finished t → t.regs RSP ≡ (s.regs RSP + 8) % 2 ^ 64

-- All four, of everything that is accepted.
pub record Demand3 (x : Inputs) (code locs fields targets kinds makers : List ℕ) : Type 0 where
  pub reading : Reading code (instructions_of x)
  pub landing : Landing x code (instructions_of x) locs fields targets kinds makers
  pub staying : Staying code (instructions_of x)
  pub stack : StackPointer code fields
