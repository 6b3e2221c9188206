-- The runs of which Agrees.antt speaks: those in which memory gives back what was pushed. The processor (x86_machine/specs/Machine.antt) has no
-- memory, so that a pop gives whatever its input says, and any access may fault. Here the words that a slot has pushed are kept beside the
-- run. An input is fair if it allows a push below them, of two words at the most, and if it allows a pop of the last of them and gives that
-- word. Nothing else is taken for granted: a load, a store, a call, a return, a push or a pop with RSP elsewhere may fault, so that code
-- which makes one does not arrive in every run.
use Rattle.std.specs.Prelude.{◌≡◌, Bool, true, List, [], ◌∷◌, ℕ, ◌<◌, length, drop}
use Rattle.x86.specs.Registers.{RSP}
use Rattle.x86.specs.Instr.{Plain, push, pop, alu, alu_imm, shift_imm, shift_cl, unary, mov_imm, rol16, bswap, load, store, store_imm}
use Rattle.x86.specs.Instr.{Instr, op, jump, call_reg, ret}
use Rattle.x86.specs.Decode.{got, decode}
use Rattle.x86_machine.specs.Machine.{Regs, Input, State, running, down, step}

-- PUSH of a register, POP, or neither
pub data StackUse : Type 0 where
  pushes : (register : ℕ) → StackUse
  pops neither : StackUse

abbrev pub plain_use : Plain → StackUse
plain_use (push r) = pushes r
plain_use (pop r) = pops
plain_use (alu o w s d) = neither
plain_use (alu_imm o w d i) = neither
plain_use (shift_imm o w d i) = neither
plain_use (shift_cl o w d) = neither
plain_use (unary o w r) = neither
plain_use (mov_imm w d i) = neither
plain_use (rol16 d i) = neither
plain_use (bswap w d) = neither
plain_use (load z b d x) = neither
plain_use (store z s b x) = neither
plain_use (store_imm z b x i) = neither

abbrev pub use_of : Instr ℕ → StackUse
use_of (op p) = plain_use p
use_of (jump j x) = neither
use_of (call_reg r) = neither
use_of ret = neither

-- behind an instruction: the words pushed and not popped yet, the last first
abbrev pub left : StackUse → Regs → (pushed : List ℕ) → List ℕ
left (pushes r) g k = g r ∷ k
left pops g [] = []
left pops g (v ∷ k) = k
left neither g k = k

-- where RSP is with these words pushed, from where it was before them
abbrev pub lowered : (start : ℕ) → (pushed : List ℕ) → ℕ
lowered start [] = start
lowered start (v ∷ k) = down (lowered start k)

-- as many words as there has to be room for below RSP
abbrev pub most_pushed : ℕ
most_pushed = 2

-- At one instruction: a push below the words pushed is allowed; a pop of the last of them is allowed, and gives it as it was pushed.
abbrev pub Fair : StackUse → (start : ℕ) → (pushed : List ℕ) → (rsp : ℕ) → Input → Type 0
Fair (pushes r) start k rsp u = rsp ≡ lowered start k → length k < most_pushed → u.allowed ≡ true
Fair pops start [] rsp u = Unit {0}
Fair pops start (v ∷ k) rsp u = rsp ≡ lowered start (v ∷ k) → (u.allowed ≡ true) × (u.value ≡ v)
Fair neither start k rsp u = Unit {0}

-- From s, with these words pushed, every fair run comes to a state of P, all that was pushed being popped; at once where that is allowed, and
-- else behind one instruction or more. `start` is where RSP was before anything was pushed.
pub data Leads (code : List ℕ) (P : State → Type 0) (start : ℕ) : (at_once : Bool) → (pushed : List ℕ) → State → Type 0 where
  there : {s : State} → P s → Leads code P start true [] s
  onward : {b : Bool} {k : List ℕ} {s : State} (i : Instr ℕ) (r : List ℕ) → decode (drop s.pos code) ≡ got i r → (next : Input → State)
      → ((u : Input) → Fair (use_of i) start k (s.regs RSP) u → step code s u ≡ running (next u))
      → ((u : Input) → Fair (use_of i) start k (s.regs RSP) u → Leads code P start true (left (use_of i) s.regs k) (next u))
      → Leads code P start b k s
