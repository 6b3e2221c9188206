-- The processor for the instructions that the translator writes: what one instruction does to registers and flags, where control goes
-- then, and a run of such steps. Written from the Intel 64 manual, page by page; volume 2 has a page for each mnemonic, which says what
-- it computes and which flags it sets. A flag that the page leaves undefined is taken from the step's input, and may be anything.
-- Memory is not modelled: a load and a pop give what the input says, and so does a helper; a store changes no register.
-- Positions are offsets from the page's first byte.
use Rattle.std.specs.Prelude.{◌≡◌, Bool, true, false, not, ◌&&◌, ◌||◌, List, [], ◌∷◌, ℕ, zero, suc, ◌+◌, ◌*◌, ◌-◌, ◌/◌, ◌%◌, ◌^◌, leb, ltb, eqb, length, drop}
use Rattle.std.specs.Int.Bits.{bit_and, bit_or, bit_xor}
use Rattle.base.specs.Pick.{pick}
pub use Rattle.base.specs.Widths.{bits, size_bits}
use Rattle.base.specs.declared.Width.{Width}
use Rattle.base.specs.declared.Width.TheVariants.{W32, W64}
-- JMP rel32, Jcc rel32, CALL rel32: the field, extended by its sign, is added to the instruction's end, modulo 2 ^ 64
unfoldable pub use Rattle.code.specs.Landing.{follow}
use Rattle.x86.specs.Registers.{RAX, RCX, RDX, RSP}
use Rattle.x86.specs.Instr.{Alu, ADD, OR, AND, SUB, XOR, CMP, MOV, TEST, Shift, SHL, SHR, SAR, Unary, NEG, MUL, DIV, Cond, JB, JAE, JE, JNE, JBE, JA, JL, JGE}
use Rattle.x86.specs.Instr.{JLE, JG, Plain, push, pop, alu, alu_imm, shift_imm, shift_cl, unary, mov_imm, rol16, bswap, load, store, store_imm, Jump, jmp, call, jcc}
use Rattle.x86.specs.Instr.{Instr, op, jump, call_reg, ret}
use Rattle.x86.specs.Decode.{Read, bad, got, decode}

-- Registers (volume 1, section 3.4.1.1): sixteen, by their machine numbers, each a number modulo 2 ^ 64. An operand of 32 bits is the
-- low half; a result of 32 bits clears the upper half, so that what is written is the result itself.
abbrev pub Regs : Type 0
Regs = ℕ → ℕ

unfoldable pub rd : Width → Regs → ℕ → ℕ
rd w g r = g r % 2 ^ bits w

abbrev pub put : Regs → ℕ → ℕ → Regs
put g k v = λ r. pick (eqb r k) v (g r)

-- one register's new value, and several, the first of them first
pub record Write : Type 0 where
  pub key : ℕ
  pub to : ℕ

abbrev pub write : ℕ → ℕ → Write
write k v = record { key = k; to = v }

abbrev pub puts : List Write → Regs → Regs
puts [] g = g
puts (a ∷ l) g = puts l (put g a.key a.to)

-- The status flags (volume 1, section 3.4.3.1). PF and AF are left out: no instruction here reads them.
pub record Status : Type 0 where
  pub CF : Bool
  pub ZF : Bool
  pub SF : Bool
  pub OF : Bool

-- What a step gets from outside: whether its access to memory is allowed, what a load or a pop gives, the return address that RET pops,
-- what a helper leaves in the registers, and what undefined flags are.
pub record Input : Type 0 where
  pub allowed : Bool
  pub value : ℕ
  pub back : ℕ
  pub regs : Regs
  pub flags : Status

-- Words.

-- an immediate of 32 bits, extended to the operand's width by its sign (section 2.2.1.5)
abbrev pub extended : Width → ℕ → ℕ
extended w x = pick (ltb x (2 ^ 31)) x (x + (2 ^ bits w - 2 ^ 32))

-- the highest bit
abbrev pub negative : Width → ℕ → Bool
negative w a = leb (2 ^ bits w) (2 * a)

abbrev pub odd : ℕ → Bool
odd a = eqb (a % 2) 1

abbrev pub same : Bool → Bool → Bool
same true b = b
same false b = not b

-- ADD, OR, AND, SUB, XOR, CMP, MOV, TEST: a is the first operand, b the second.
unfoldable pub result : Alu → Width → ℕ → ℕ → ℕ
result ADD w a b = (a + b) % 2 ^ bits w
result OR w a b = bit_or a b
result AND w a b = bit_and a b
result SUB w a b = (a + 2 ^ bits w - b) % 2 ^ bits w
result XOR w a b = bit_xor a b
result CMP w a b = (a + 2 ^ bits w - b) % 2 ^ bits w
result MOV w a b = b
result TEST w a b = bit_and a b

-- CMP and TEST set the flags alone
abbrev pub alu_writes : Alu → (dst value : ℕ) → List Write
alu_writes ADD d v = write d v ∷ []
alu_writes OR d v = write d v ∷ []
alu_writes AND d v = write d v ∷ []
alu_writes SUB d v = write d v ∷ []
alu_writes XOR d v = write d v ∷ []
alu_writes CMP d v = []
alu_writes MOV d v = write d v ∷ []
alu_writes TEST d v = []

-- the carry out of a sum, and the borrow of a difference
abbrev pub carry : Width → ℕ → ℕ → Bool
carry w a b = leb (2 ^ bits w) (a + b)

abbrev pub borrow : ℕ → ℕ → Bool
borrow a b = ltb a b

-- signed overflow: the operands of a sum have one sign and the result another; those of a difference differ, and the result's is not a's
abbrev pub over_sum : Width → (a b r : ℕ) → Bool
over_sum w a b r = same (negative w a) (negative w b) && not (same (negative w a) (negative w r))

abbrev pub over_difference : Width → (a b r : ℕ) → Bool
over_difference w a b r = not (same (negative w a) (negative w b)) && not (same (negative w a) (negative w r))

-- ZF and SF by the result
abbrev pub status : Width → (r : ℕ) → (carry over : Bool) → Status
status w r c o = record { CF = c; ZF = eqb r 0; SF = negative w r; OF = o }

-- the logical ones clear CF and OF; MOV sets none
abbrev pub alu_status : Alu → Width → ℕ → ℕ → Status → Status
alu_status ADD w a b f = let r = result ADD w a b in status w r (carry w a b) (over_sum w a b r)
alu_status OR w a b f = status w (result OR w a b) false false
alu_status AND w a b f = status w (result AND w a b) false false
alu_status SUB w a b f = let r = result SUB w a b in status w r (borrow a b) (over_difference w a b r)
alu_status XOR w a b f = status w (result XOR w a b) false false
alu_status CMP w a b f = let r = result CMP w a b in status w r (borrow a b) (over_difference w a b r)
alu_status MOV w a b f = f
alu_status TEST w a b f = status w (result TEST w a b) false false

-- SAL/SAR/SHL/SHR: the count is masked to five bits, and to six with REX.W, so that it is below the width.
abbrev pub counted : Width → ℕ → ℕ
counted w c = c % bits w

-- CL is the low byte of RCX
abbrev pub in_cl : Regs → ℕ
in_cl g = g RCX % 2 ^ 8

-- SAR fills with the sign bit
unfoldable pub shifted : Shift → Width → (a count : ℕ) → ℕ
shifted SHL w a c = a * 2 ^ c % 2 ^ bits w
shifted SHR w a c = a / 2 ^ c
shifted SAR w a c = a / 2 ^ c + pick (negative w a) (2 ^ bits w - 2 ^ (bits w - c)) 0

-- the last bit that is shifted out, of a count that is not 0
abbrev pub last_out : Shift → Width → (a count : ℕ) → Bool
last_out SHL w a c = odd (a / 2 ^ (bits w - c))
last_out SHR w a c = odd (a / 2 ^ (c - 1))
last_out SAR w a c = odd (a / 2 ^ (c - 1))

-- OF of a count of 1: whether SHL changed the sign, the sign before SHR, and 0
abbrev pub shift_over : Shift → Width → (a : ℕ) → Bool
shift_over SHL w a = not (same (negative w (shifted SHL w a 1)) (last_out SHL w a 1))
shift_over SHR w a = negative w a
shift_over SAR w a = false

-- a count of 0 leaves the flags, and OF is undefined for one above 1
unfoldable pub shift_status : Shift → Width → (a count : ℕ) → Status → Input → Status
shift_status o w a c f u =
    pick (eqb c 0) f (status w (shifted o w a c) (last_out o w a c) (pick (eqb c 1) (shift_over o w a) u.flags.OF))

-- ROL r/m16: the count is masked to five bits, and the rotation is by its remainder by 16. A result of 16 bits keeps the upper 48
-- (volume 1, section 3.4.1.1). CF is the bit that came in below, for a count that is not 0; OF is undefined for one above 1; ZF and SF
-- stay.
abbrev pub rol_count : ℕ → ℕ
rol_count i = i % 32

unfoldable pub rolled : (a count : ℕ) → ℕ
rolled a c = a * 2 ^ (c % 16) % 2 ^ 16 + a % 2 ^ 16 / 2 ^ (16 - c % 16)

abbrev pub kept_above16 : (old new : ℕ) → ℕ
kept_above16 a v = a / 2 ^ 16 * 2 ^ 16 + v

unfoldable pub rol_status : (a count : ℕ) → Status → Input → Status
rol_status a c f u =
    let r = rolled a c in
    pick (eqb c 0) f
    (record { CF = odd r; ZF = f.ZF; SF = f.SF; OF = pick (eqb c 1) (not (same (leb (2 ^ 15) r) (odd r))) u.flags.OF })

-- BSWAP: the lowest n bytes in reverse. It sets no flag.
unfoldable pub swapped : (n : ℕ) → ℕ → ℕ
swapped zero x = 0
swapped (suc n) x = x % 256 * 256 ^ n + swapped n (x / 256)

-- NEG: CF is whether the operand was not 0, OF whether it was the lowest number, which has no opposite.
abbrev pub opposite : Width → ℕ → ℕ
opposite w a = (2 ^ bits w - a) % 2 ^ bits w

abbrev pub neg_status : Width → ℕ → Status
neg_status w a = status w (opposite w a) (not (eqb a 0)) (eqb (2 * a) (2 ^ bits w))

-- MUL: RDX:RAX is RAX times the operand; CF and OF are whether the upper half is not 0; ZF and SF are undefined.
abbrev pub product : Width → Regs → ℕ → ℕ
product w g r = rd w g RAX * rd w g r

abbrev pub mul_status : Width → (upper : ℕ) → Input → Status
mul_status w h u = record { CF = not (eqb h 0); ZF = u.flags.ZF; SF = u.flags.SF; OF = not (eqb h 0) }

-- DIV: the quotient of RDX:RAX by the operand goes to RAX, the remainder to RDX. It raises #DE where the operand is 0 or the quotient has
-- no room. All flags are undefined.
abbrev pub dividend : Width → Regs → ℕ
dividend w g = rd w g RDX * 2 ^ bits w + rd w g RAX

unfoldable pub divides : Width → Regs → ℕ → Bool
divides w g r = eqb (rd w g r) 0 || leb (2 ^ bits w) (dividend w g / rd w g r)

-- PUSH, POP, CALL and RET move RSP by 8, modulo 2 ^ 64 (volume 1, section 6.2).
abbrev pub down : ℕ → ℕ
down x = (x + (2 ^ 64 - 8)) % 2 ^ 64

abbrev pub up : ℕ → ℕ
up x = (x + 8) % 2 ^ 64

-- The registers that each writes. POP raises RSP before it writes, so that POP RSP leaves what was popped. Loads by MOVZX and MOV r32 fill
-- with zeros up to the whole register.
abbrev pub unary_writes : Unary → Width → Regs → ℕ → List Write
unary_writes NEG w g r = write r (opposite w (rd w g r)) ∷ []
unary_writes MUL w g r = write RAX (product w g r % 2 ^ bits w) ∷ write RDX (product w g r / 2 ^ bits w) ∷ []
unary_writes DIV w g r = write RAX (dividend w g / rd w g r) ∷ write RDX (dividend w g % rd w g r) ∷ []

abbrev pub swap_bytes : Width → ℕ
swap_bytes W32 = 4
swap_bytes W64 = 8

abbrev pub writes_of : Plain → Regs → Input → List Write
writes_of (push r) g u = write RSP (down (g RSP)) ∷ []
writes_of (pop r) g u = write RSP (up (g RSP)) ∷ write r (u.value % 2 ^ 64) ∷ []
writes_of (alu o w s d) g u = alu_writes o d (result o w (rd w g d) (rd w g s))
writes_of (alu_imm o w d i) g u = alu_writes o d (result o w (rd w g d) (extended w i))
writes_of (shift_imm o w d i) g u = write d (shifted o w (rd w g d) (counted w i)) ∷ []
writes_of (shift_cl o w d) g u = write d (shifted o w (rd w g d) (counted w (in_cl g))) ∷ []
writes_of (unary o w r) g u = unary_writes o w g r
writes_of (mov_imm w d i) g u = write d (i % 2 ^ bits w) ∷ []
writes_of (rol16 d i) g u = write d (kept_above16 (rd W64 g d) (rolled (rd W64 g d) (rol_count i))) ∷ []
writes_of (bswap w d) g u = write d (swapped (swap_bytes w) (rd w g d)) ∷ []
writes_of (load z b d x) g u = write d (u.value % 2 ^ size_bits z) ∷ []
writes_of (store z s b x) g u = []
writes_of (store_imm z b x i) g u = []

-- The flags behind each. PUSH, POP, MOV, BSWAP, loads and stores leave them.
abbrev pub unary_status : Unary → Width → Regs → ℕ → Input → Status
unary_status NEG w g r u = neg_status w (rd w g r)
unary_status MUL w g r u = mul_status w (product w g r / 2 ^ bits w) u
unary_status DIV w g r u = u.flags

abbrev pub status_of : Plain → Regs → Status → Input → Status
status_of (push r) g f u = f
status_of (pop r) g f u = f
status_of (alu o w s d) g f u = alu_status o w (rd w g d) (rd w g s) f
status_of (alu_imm o w d i) g f u = alu_status o w (rd w g d) (extended w i) f
status_of (shift_imm o w d i) g f u = shift_status o w (rd w g d) (counted w i) f u
status_of (shift_cl o w d) g f u = shift_status o w (rd w g d) (counted w (in_cl g)) f u
status_of (unary o w r) g f u = unary_status o w g r u
status_of (mov_imm w d i) g f u = f
status_of (rol16 d i) g f u = rol_status (rd W64 g d) (rol_count i) f u
status_of (bswap w d) g f u = f
status_of (load z b d x) g f u = f
status_of (store z s b x) g f u = f
status_of (store_imm z b x i) g f u = f

-- whether #DE is raised
abbrev pub unary_faults : Unary → Width → Regs → ℕ → Bool
unary_faults NEG w g r = false
unary_faults MUL w g r = false
unary_faults DIV w g r = divides w g r

abbrev pub faults_of : Plain → Regs → Bool
faults_of (push r) g = false
faults_of (pop r) g = false
faults_of (alu o w s d) g = false
faults_of (alu_imm o w d i) g = false
faults_of (shift_imm o w d i) g = false
faults_of (shift_cl o w d) g = false
faults_of (unary o w r) g = unary_faults o w g r
faults_of (mov_imm w d i) g = false
faults_of (rol16 d i) g = false
faults_of (bswap w d) g = false
faults_of (load z b d x) g = false
faults_of (store z s b x) g = false
faults_of (store_imm z b x i) g = false

-- whether memory is accessed, which may fault
abbrev pub plain_touches : Plain → Bool
plain_touches (push r) = true
plain_touches (pop r) = true
plain_touches (alu o w s d) = false
plain_touches (alu_imm o w d i) = false
plain_touches (shift_imm o w d i) = false
plain_touches (shift_cl o w d) = false
plain_touches (unary o w r) = false
plain_touches (mov_imm w d i) = false
plain_touches (rol16 d i) = false
plain_touches (bswap w d) = false
plain_touches (load z b d x) = true
plain_touches (store z s b x) = true
plain_touches (store_imm z b x i) = true

abbrev pub touches : {D : Type 0} → Instr D → Bool
touches (op p) = plain_touches p
touches (jump jmp x) = false
touches (jump call x) = true
touches (jump (jcc c) x) = false
touches (call_reg r) = true
touches ret = true

-- Jcc (volume 1, appendix B): CF for unsigned, SF and OF for signed order
abbrev pub holds : Cond → Status → Bool
holds JB f = f.CF
holds JAE f = not f.CF
holds JE f = f.ZF
holds JNE f = not f.ZF
holds JBE f = f.CF || f.ZF
holds JA f = not (f.CF || f.ZF)
holds JL f = not (same f.SF f.OF)
holds JGE f = same f.SF f.OF
holds JLE f = f.ZF || not (same f.SF f.OF)
holds JG f = not (f.ZF || not (same f.SF f.OF))

-- What an instruction does: the registers that it writes, the flags behind it, and where control goes. D is what a jump carries.
pub data Control (D : Type 0) : Type 0 where
  next helps returns raises : Control D
  goes calls : D → Control D

pub record Effect (D : Type 0) : Type 0 where
  pub writes : List Write
  pub flags : Status
  pub control : Control D

-- what a call or a jump does alone
abbrev pub jumps : {D : Type 0} → Jump → D → Regs → Status → Effect D
jumps jmp x g f = record { writes = []; flags = f; control = goes x }
jumps call x g f = record { writes = write RSP (down (g RSP)) ∷ []; flags = f; control = calls x }
jumps (jcc c) x g f = record { writes = []; flags = f; control = pick (holds c f) (goes x) next }

abbrev pub effect : {D : Type 0} → Instr D → Regs → Status → Input → Effect D
effect (op p) g f u = record { writes = writes_of p g u; flags = status_of p g f u; control = pick (faults_of p g) raises next }
effect (jump j x) g f u = jumps j x g f
effect (call_reg r) g f u = record { writes = []; flags = f; control = helps }
effect ret g f u = record { writes = write RSP (up (g RSP)) ∷ []; flags = f; control = returns }

-- The run. A call that is open: where it comes back to, and RSP as the call left it, pointing at the return address.
pub record Frame : Type 0 where
  pub back : ℕ
  pub sp : ℕ

pub record State : Type 0 where
  pub pos : ℕ
  pub regs : Regs
  pub flags : Status
  pub calls : List Frame

-- Running; the last return, made when no call is open; a memory fault; the premise's end, a return not behind its call; #DE; and a place
-- where no instruction can be read.
pub data Outcome : Type 0 where
  running finished : State → Outcome
  faulted unbalanced divided astray : Outcome

abbrev pub moved : State → Effect ℕ → (pos : ℕ) → List Frame → State
moved s e p k = record { pos = p; regs = puts e.writes s.regs; flags = e.flags; calls = k }

-- a helper has returned: any value in any register but RSP, and any flags
abbrev pub helped : State → Input → (pos : ℕ) → State
helped s u p = record { pos = p; regs = put (λ r. u.regs r % 2 ^ 64) RSP (s.regs RSP); flags = u.flags; calls = s.calls }

abbrev pub returned : State → Effect ℕ → (back : ℕ) → List Frame → Outcome
returned s e b [] = finished (moved s e b [])
returned s e b (f ∷ k) = pick (eqb b f.back) (running (moved s e f.back k)) unbalanced

-- from the instruction's end
abbrev pub land : (end : ℕ) → State → Input → Effect ℕ → Control ℕ → Outcome
land p s u e next = running (moved s e p s.calls)
land p s u e (goes x) = running (moved s e (follow p x) s.calls)
land p s u e (calls x) = running (moved s e (follow p x) (record { back = p; sp = puts e.writes s.regs RSP } ∷ s.calls))
land p s u e helps = running (helped s u p)
land p s u e returns = returned s e u.back s.calls
land p s u e raises = divided

abbrev pub does : Instr ℕ → (end : ℕ) → State → Input → Outcome
does i p s u =
    let e = effect i s.regs s.flags u in
    pick (touches i && not u.allowed) faulted (land p s u e e.control)

-- the bytes from the place on, and what is read of them: the instruction ends where reading stopped
abbrev pub exec : List ℕ → Read → State → Input → Outcome
exec from bad s u = astray
exec from (got i r) s u = does i (s.pos + (length from - length r)) s u

unfoldable pub step : (code : List ℕ) → State → Input → Outcome
step code s u = let from = drop s.pos code in exec from (decode from) s u

abbrev pub after : Outcome → (State → Outcome) → Outcome
after (running t) k = k t
after (finished t) k = finished t
after faulted k = faulted
after unbalanced k = unbalanced
after divided k = divided
after astray k = astray

-- one step for each input
unfoldable pub run : (code : List ℕ) → List Input → State → Outcome
run code [] s = running s
run code (u ∷ us) s = after (step code s u) (λ t. run code us t)

-- RSP as the innermost open call left it; r, where the run began, if none is open
abbrev pub top_of : (r : ℕ) → List Frame → ℕ
top_of r [] = r
top_of r (f ∷ k) = f.sp

-- The runs that come to the place x only from the place j.
abbrev pub Entry : (x j from : ℕ) → Outcome → (State → Type 0) → Type 0
Entry x j p (running t) k = (t.pos ≡ x → p ≡ j) × k t
Entry x j p (finished t) k = Unit {0}
Entry x j p faulted k = Unit {0}
Entry x j p unbalanced k = Unit {0}
Entry x j p divided k = Unit {0}
Entry x j p astray k = Unit {0}

unfoldable pub EntersFrom : (code : List ℕ) → (x j : ℕ) → List Input → State → Type 0
EntersFrom code x j [] s = Unit {0}
EntersFrom code x j (u ∷ us) s = Entry x j s.pos (step code s u) (λ t. EntersFrom code x j us t)
