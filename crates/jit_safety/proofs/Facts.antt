-- What is known of registers and ZF in front of an instruction, what the instruction leaves of it, and what it needs so as not to fault.
-- Only division needs anything: a divisor that is not 0 and an upper half that is. The facts are lists that compute; that they hold on
-- the machine is proved once, for every instruction.
use mathlib.Core.Path.{◌≡◌, refl, ap, sym, ◌∙◌}
use mathlib.Core.Logic.{◌≢◌}
use mathlib.Core.Bool.{Bool, true, false, not, ◌&&◌, ◌||◌}
use mathlib.Core.List.{List, [], ◌∷◌, ◌++◌}
use Prim.Native.Nat.{ℕ, ◌/◌, ◌%◌, ◌^◌, ◌<◌}
use native.Mathlib.Omega.{arith}
use native.Mathlib.Nat.{div-le_self}
use lib.Bits.{and_self, xor_self}
use lib.Dec.{T, ltb, eqb, eqb→eq}
use Rattle.base.specs.Pick.{pick}
use Rattle.base.proofs.Tests.{true-T, and_l, and_r, or_elim, or-false-l, or-false-r, eqb-true, eqb-false, leb-false}
use Rattle.base.specs.declared.Width.{Width}
use Rattle.base.specs.declared.Width.TheVariants.{W32, W64}
use Rattle.x86.specs.Registers.{RAX, RDX, RSP}
use Rattle.x86.specs.Instr.{Alu, ADD, OR, AND, SUB, XOR, CMP, MOV, TEST, Unary, NEG, MUL, DIV, Cond, JB, JAE, JE, JNE, JBE, JA, JL, JGE, JLE, JG, Plain, push}
use Rattle.x86.specs.Instr.{pop, alu, alu_imm, shift_imm, shift_cl, unary, mov_imm, rol16, bswap, load, store, store_imm}
use Rattle.x86.proofs.WellFormed.{WfPlain}
use Rattle.x86_machine.proofs.MachineWords.{rd-lt}
use Rattle.x86_machine.specs.Machine.{Regs, bits, rd, put, Write, puts, Status, Input, extended, result, alu_writes, alu_status, dividend, divides, writes_of, status_of, faults_of, holds}

-- nz: not zero at that width; zr: zero; fz: ZF says whether it is zero
pub data Fact : Type 0 where
  nz zr fz : Width → ℕ → Fact

abbrev pub Holds : Fact → Regs → Status → Type 0
Holds (nz w r) g f = rd w g r ≢ 0
Holds (zr w r) g f = rd w g r ≡ 0
Holds (fz w r) g f = f.ZF ≡ eqb (rd w g r) 0

abbrev pub Known : List Fact → Regs → Status → Type 0
Known [] g f = Unit {0}
Known (a ∷ l) g f = Holds a g f × Known l g f

-- Facts stay where their register is not written and, for fz, the flags stay.
abbrev pub memb : ℕ → List ℕ → Bool
memb r [] = false
memb r (k ∷ l) = eqb r k || memb r l

abbrev pub keys : List Write → List ℕ
keys [] = []
keys (a ∷ l) = a.key ∷ keys l

abbrev pub stays : List ℕ → Bool → Fact → Bool
stays ks b (nz w r) = not (memb r ks)
stays ks b (zr w r) = not (memb r ks)
stays ks b (fz w r) = not (memb r ks) && b

abbrev pub keep : (written : List ℕ) → (flags_stay : Bool) → List Fact → List Fact
keep ks b [] = []
keep ks b (a ∷ l) = pick (stays ks b a) (a ∷ keep ks b l) (keep ks b l)

-- the registers that an instruction writes, and whether it leaves the flags
abbrev pub alu_keys : Alu → ℕ → List ℕ
alu_keys ADD d = d ∷ []
alu_keys OR d = d ∷ []
alu_keys AND d = d ∷ []
alu_keys SUB d = d ∷ []
alu_keys XOR d = d ∷ []
alu_keys CMP d = []
alu_keys MOV d = d ∷ []
alu_keys TEST d = []

abbrev pub unary_keys : Unary → ℕ → List ℕ
unary_keys NEG r = r ∷ []
unary_keys MUL r = RAX ∷ RDX ∷ []
unary_keys DIV r = RAX ∷ RDX ∷ []

abbrev pub keys_of : Plain → List ℕ
keys_of (push r) = RSP ∷ []
keys_of (pop r) = RSP ∷ r ∷ []
keys_of (alu o w s d) = alu_keys o d
keys_of (alu_imm o w d i) = alu_keys o d
keys_of (shift_imm o w d i) = d ∷ []
keys_of (shift_cl o w d) = d ∷ []
keys_of (unary o w r) = unary_keys o r
keys_of (mov_imm w d i) = d ∷ []
keys_of (rol16 d i) = d ∷ []
keys_of (bswap w d) = d ∷ []
keys_of (load z b d x) = d ∷ []
keys_of (store z s b x) = []
keys_of (store_imm z b x i) = []

abbrev pub is_mov : Alu → Bool
is_mov ADD = false
is_mov OR = false
is_mov AND = false
is_mov SUB = false
is_mov XOR = false
is_mov CMP = false
is_mov MOV = true
is_mov TEST = false

abbrev pub quiet : Plain → Bool
quiet (push r) = true
quiet (pop r) = true
quiet (alu o w s d) = is_mov o
quiet (alu_imm o w d i) = is_mov o
quiet (shift_imm o w d i) = false
quiet (shift_cl o w d) = false
quiet (unary o w r) = false
quiet (mov_imm w d i) = true
quiet (rol16 d i) = false
quiet (bswap w d) = true
quiet (load z b d x) = true
quiet (store z s b x) = true
quiet (store_imm z b x i) = true

-- New facts: a copy has what its source has, a constant that is not 0 is not 0, `xor r, r` is 0, and `test r, r` tells.
abbrev pub renamed : ℕ → ℕ → Fact → List Fact
renamed s d (nz w r) = pick (eqb r s) (nz w d ∷ []) []
renamed s d (zr w r) = pick (eqb r s) (zr w d ∷ []) []
renamed s d (fz w r) = []

abbrev pub copied : ℕ → ℕ → List Fact → List Fact
copied s d [] = []
copied s d (a ∷ l) = renamed s d a ++ copied s d l

abbrev pub alu_new : Alu → Width → (src dst : ℕ) → List Fact → List Fact
alu_new ADD w s d F = []
alu_new OR w s d F = []
alu_new AND w s d F = []
alu_new SUB w s d F = []
alu_new XOR w s d F = pick (eqb s d) (zr W32 d ∷ zr W64 d ∷ []) []
alu_new CMP w s d F = []
alu_new MOV W32 s d F = []
alu_new MOV W64 s d F = copied s d F
alu_new TEST w s d F = pick (eqb s d) (fz w d ∷ []) []

abbrev pub imm_new : Alu → Width → (dst imm : ℕ) → List Fact
imm_new ADD w d x = []
imm_new OR w d x = []
imm_new AND w d x = []
imm_new SUB w d x = []
imm_new XOR w d x = []
imm_new CMP w d x = []
imm_new MOV w d x = pick (eqb x 0) [] (nz W32 d ∷ nz W64 d ∷ [])
imm_new TEST w d x = []

-- B8+r, of which only the form of four bytes is ever asked
abbrev pub constant_new : Width → (dst imm : ℕ) → List Fact
constant_new W32 d x = imm_new MOV W32 d x
constant_new W64 d x = []

abbrev pub news : Plain → List Fact → List Fact
news (push r) F = []
news (pop r) F = []
news (alu o w s d) F = alu_new o w s d F
news (alu_imm o w d i) F = imm_new o w d i
news (shift_imm o w d i) F = []
news (shift_cl o w d) F = []
news (unary o w r) F = []
news (mov_imm w d i) F = constant_new w d i
news (rol16 d i) F = []
news (bswap w d) F = []
news (load z b d x) F = []
news (store z s b x) F = []
news (store_imm z b x i) F = []

-- behind the instruction
abbrev pub leaves : Plain → List Fact → List Fact
leaves p F = news p F ++ keep (keys_of p) (quiet p) F

-- so as not to raise #DE
abbrev pub unary_needs : Unary → Width → ℕ → List Fact
unary_needs NEG w r = []
unary_needs MUL w r = []
unary_needs DIV w r = nz w r ∷ zr w RDX ∷ []

abbrev pub needs : Plain → List Fact
needs (push r) = []
needs (pop r) = []
needs (alu o w s d) = []
needs (alu_imm o w d i) = []
needs (shift_imm o w d i) = []
needs (shift_cl o w d) = []
needs (unary o w r) = unary_needs o w r
needs (mov_imm w d i) = []
needs (rol16 d i) = []
needs (bswap w d) = []
needs (load z b d x) = []
needs (store z s b x) = []
needs (store_imm z b x i) = []

-- behind a conditional jump, taken or not: JE and JNE tell what ZF is
abbrev pub learnt : Bool → Fact → Fact
learnt z (nz w r) = nz w r
learnt z (zr w r) = zr w r
learnt z (fz w r) = pick z (zr w r) (nz w r)

abbrev pub learn : Bool → List Fact → List Fact
learn z [] = []
learn z (a ∷ l) = learnt z a ∷ learn z l

abbrev pub branch : Cond → (taken : Bool) → List Fact → List Fact
branch JB t F = F
branch JAE t F = F
branch JE t F = learn t F
branch JNE t F = learn (not t) F
branch JBE t F = F
branch JA t F = F
branch JL t F = F
branch JGE t F = F
branch JLE t F = F
branch JG t F = F

-- the second list asks no more than the first gives
abbrev pub same_width : Width → Width → Bool
same_width W32 W32 = true
same_width W32 W64 = false
same_width W64 W32 = false
same_width W64 W64 = true

abbrev pub same_fact : Fact → Fact → Bool
same_fact (nz w r) (nz v q) = same_width w v && eqb r q
same_fact (nz w r) (zr v q) = false
same_fact (nz w r) (fz v q) = false
same_fact (zr w r) (nz v q) = false
same_fact (zr w r) (zr v q) = same_width w v && eqb r q
same_fact (zr w r) (fz v q) = false
same_fact (fz w r) (nz v q) = false
same_fact (fz w r) (zr v q) = false
same_fact (fz w r) (fz v q) = same_width w v && eqb r q

abbrev pub has : Fact → List Fact → Bool
has a [] = false
has a (b ∷ l) = same_fact a b || has a l

abbrev pub covers : List Fact → List Fact → Bool
covers F [] = true
covers F (a ∷ G) = has a F && covers F G

-- Soundness: first the lists.
both-eq : (w v : Width) (r q : ℕ) → T (same_width w v && eqb r q) → (w ≡ v) × (r ≡ q)
both-eq w v r q t = (width w v (and_l (same_width w v) (eqb r q) t), eqb→eq r q (and_r (same_width w v) (eqb r q) t))
  where
    width : (w v : Width) → T (same_width w v) → w ≡ v
    width W32 W32 t = refl
    width W64 W64 t = refl
    width W32 W64 t = absurd t
    width W64 W32 t = absurd t

same-eq : (a b : Fact) → T (same_fact a b) → a ≡ b
same-eq (nz w r) (nz v q) t = let e = both-eq w v r q t in cc
same-eq (nz w r) (zr v q) t = absurd t
same-eq (nz w r) (fz v q) t = absurd t
same-eq (zr w r) (nz v q) t = absurd t
same-eq (zr w r) (zr v q) t = let e = both-eq w v r q t in cc
same-eq (zr w r) (fz v q) t = absurd t
same-eq (fz w r) (nz v q) t = absurd t
same-eq (fz w r) (zr v q) t = absurd t
same-eq (fz w r) (fz v q) t = let e = both-eq w v r q t in cc

has-holds : (a : Fact) (F : List Fact) (g : Regs) (f : Status) → T (has a F) → Known F g f → Holds a g f
has-holds a [] g f t k = absurd t
has-holds a (b ∷ l) g f t k = or_elim (same_fact a b) (has a l) t (λ e. rw (same-eq a b e) k.0) (λ e. has-holds a l g f e k.1)

pub covers-known : (F G : List Fact) (g : Regs) (f : Status) → T (covers F G) → Known F g f → Known G g f
covers-known F [] g f t k = tt
covers-known F (a ∷ G) g f t k = (has-holds a F g f (and_l (has a F) (covers F G) t) k, covers-known F G g f (and_r (has a F) (covers F G) t) k)

pub covers-none : (F G : List Fact) → T (covers [] F) → T (covers G F)
covers-none [] G t = tt
covers-none (a ∷ F) G t = absurd t

known-append : (F G : List Fact) (g : Regs) (f : Status) → Known F g f → Known G g f → Known (F ++ G) g f
known-append [] G g f a b = b
known-append (x ∷ F) G g f a b = (a.0, known-append F G g f a.1 b)

-- what is not written stays
put_other : (g : Regs) (k v r : ℕ) → eqb r k ≡ false → put g k v r ≡ g r
put_other g k v r e = rw e

put_same : (g : Regs) (d v : ℕ) → put g d v d ≡ v
put_same g d v = rw (eqb-true d d refl)

pub puts-other : (l : List Write) (g : Regs) (r : ℕ) → memb r (keys l) ≡ false → puts l g r ≡ g r
puts-other [] g r e = refl
puts-other (a ∷ l) g r e =
    puts-other l (put g a.key a.to) r (or-false-r (eqb r a.key) (memb r (keys l)) e)
    ∙ put_other g a.key a.to r (or-false-l (eqb r a.key) (memb r (keys l)) e)

rd-puts : (w : Width) (l : List Write) (g : Regs) (r : ℕ) → memb r (keys l) ≡ false → rd w (puts l g) r ≡ rd w g r
unfolding rd
rd-puts w l g r e = rw (puts-other l g r e)

pub not-false : (b : Bool) → T (not b) → b ≡ false
not-false true t = absurd t
not-false false t = refl

module _ (l : List Write) (b : Bool) (g : Regs) (f f' : Status) (q : T b → f' ≡ f) where
  stays-holds : (a : Fact) → T (stays (keys l) b a) → Holds a g f → Holds a (puts l g) f'
  stays-holds (nz w r) t h = rw (rd-puts w l g r (not-false _ t)) h
  stays-holds (zr w r) t h = rw (rd-puts w l g r (not-false _ t)) h
  stays-holds (fz w r) t h = rw (rd-puts w l g r (not-false _ (and_l (not (memb r (keys l))) b t)), q (and_r (not (memb r (keys l))) b t)) h

  keep_known : (F : List Fact) → Known F g f → Known (keep (keys l) b F) (puts l g) f'
  keep_known [] k = tt
  keep_known (a ∷ F) k = go (stays (keys l) b a) refl (keep_known F k.1)
    where
      go : (c : Bool) → stays (keys l) b a ≡ c → Known (keep (keys l) b F) (puts l g) f' → Known (keep (keys l) b (a ∷ F)) (puts l g) f'
      go true e more = rw e (stays-holds a (true-T _ e) k.0, more)
      go false e more = rw e more

-- what an instruction says that it writes and leaves, it does
alu-keys : (o : Alu) (d v : ℕ) → keys (alu_writes o d v) ≡ alu_keys o d
alu-keys ADD d v = refl
alu-keys OR d v = refl
alu-keys AND d v = refl
alu-keys SUB d v = refl
alu-keys XOR d v = refl
alu-keys CMP d v = refl
alu-keys MOV d v = refl
alu-keys TEST d v = refl

pub keys-of : (p : Plain) (g : Regs) (u : Input) → keys (writes_of p g u) ≡ keys_of p
keys-of (push r) g u = refl
keys-of (pop r) g u = refl
keys-of (alu o w s d) g u = alu-keys o d (result o w (rd w g d) (rd w g s))
keys-of (alu_imm o w d i) g u = alu-keys o d (result o w (rd w g d) (extended w i))
keys-of (shift_imm o w d i) g u = refl
keys-of (shift_cl o w d) g u = refl
keys-of (unary NEG w r) g u = refl
keys-of (unary MUL w r) g u = refl
keys-of (unary DIV w r) g u = refl
keys-of (mov_imm w d i) g u = refl
keys-of (rol16 d i) g u = refl
keys-of (bswap w d) g u = refl
keys-of (load z b d x) g u = refl
keys-of (store z s b x) g u = refl
keys-of (store_imm z b x i) g u = refl

alu-quiet : (o : Alu) (w : Width) (a b : ℕ) (f : Status) → T (is_mov o) → alu_status o w a b f ≡ f
alu-quiet ADD w a b f t = absurd t
alu-quiet OR w a b f t = absurd t
alu-quiet AND w a b f t = absurd t
alu-quiet SUB w a b f t = absurd t
alu-quiet XOR w a b f t = absurd t
alu-quiet CMP w a b f t = absurd t
alu-quiet MOV w a b f t = refl
alu-quiet TEST w a b f t = absurd t

quiet_of : (p : Plain) (g : Regs) (f : Status) (u : Input) → T (quiet p) → status_of p g f u ≡ f
quiet_of (push r) g f u t = refl
quiet_of (pop r) g f u t = refl
quiet_of (alu o w s d) g f u t = alu-quiet o w (rd w g d) (rd w g s) f t
quiet_of (alu_imm o w d i) g f u t = alu-quiet o w (rd w g d) (extended w i) f t
quiet_of (shift_imm o w d i) g f u t = absurd t
quiet_of (shift_cl o w d) g f u t = absurd t
quiet_of (unary o w r) g f u t = absurd t
quiet_of (mov_imm w d i) g f u t = refl
quiet_of (rol16 d i) g f u t = absurd t
quiet_of (bswap w d) g f u t = refl
quiet_of (load z b d x) g f u t = refl
quiet_of (store z s b x) g f u t = refl
quiet_of (store_imm z b x i) g f u t = refl

-- the new facts hold
rd-copy : (w : Width) (g : Regs) (s d : ℕ) → rd w (put g d (rd W64 g s)) d ≡ rd w g s
unfolding rd
rd-copy W32 g s d = rw put_same (omega arith)
rd-copy W64 g s d = rw put_same (omega arith)

module _ (s d : ℕ) (g : Regs) (f : Status) where
  renamed-known : (a : Fact) → Holds a g f → Known (renamed s d a) (put g d (rd W64 g s)) f
  renamed-known (nz w r) h = go (eqb r s) refl
    where
      go : (b : Bool) → eqb r s ≡ b → Known (renamed s d (nz w r)) (put g d (rd W64 g s)) f
      go true e = rw (e, rd-copy w g s d, ← (eqb→eq r s (true-T _ e))) (h, tt)
      go false e = rw e tt
  renamed-known (zr w r) h = go (eqb r s) refl
    where
      go : (b : Bool) → eqb r s ≡ b → Known (renamed s d (zr w r)) (put g d (rd W64 g s)) f
      go true e = rw (e, rd-copy w g s d, ← (eqb→eq r s (true-T _ e))) (h, tt)
      go false e = rw e tt
  renamed-known (fz w r) h = tt

  copied-known : (F : List Fact) → Known F g f → Known (copied s d F) (put g d (rd W64 g s)) f
  copied-known [] k = tt
  copied-known (a ∷ F) k =
      known-append (renamed s d a) (copied s d F) (put g d (rd W64 g s)) f (renamed-known a k.0) (copied-known F k.1)

zero-put : (w : Width) (g : Regs) (d v : ℕ) → v ≡ 0 → rd w (put g d v) d ≡ 0
unfolding rd
zero-put W32 g d v e = rw (put_same, e)
zero-put W64 g d v e = rw (put_same, e)

imm-put : (v w : Width) (g : Regs) (d x : ℕ) → x < 2 ^ 32 → x ≢ 0 → rd v (put g d (extended w x)) d ≢ 0
unfolding rd
imm-put v w g d x h n = rw put_same (go v w (ltb x (2 ^ 31)) refl)
  where
    go : (v w : Width) (b : Bool) → ltb x (2 ^ 31) ≡ b → extended w x % 2 ^ bits v ≢ 0
    go W32 W32 true e = rw e (omega arith)
    go W32 W32 false e = rw e (omega arith)
    go W32 W64 true e = rw e (omega arith)
    go W32 W64 false e = rw e (omega arith)
    go W64 W32 true e = rw e (omega arith)
    go W64 W32 false e = rw e (omega arith)
    go W64 W64 true e = rw e (omega arith)
    go W64 W64 false e = rw e (omega arith)

not-zero : (x : ℕ) → eqb x 0 ≡ false → x ≢ 0
not-zero x e q = let z : true ≡ false = sym (eqb-true x 0 q) ∙ e in let y : ◌≡◌ {A = ℕ} 0 1 = cc in omega arith

module _ (w : Width) (s d : ℕ) (g : Regs) (f : Status) (F : List Fact) (k : Known F g f) where
  abbrev AluKnown : Alu → Width → Type 0
  AluKnown o w = Known (alu_new o w s d F) (puts (alu_writes o d (result o w (rd w g d) (rd w g s))) g) (alu_status o w (rd w g d) (rd w g s) f)

  xor-known : (b : Bool) → eqb s d ≡ b → AluKnown XOR w
  unfolding result
  xor-known true e =
      let z = xor_self (rd w g d) in
      rw (e, eqb→eq s d (true-T _ e)) (zero-put W32 g d _ z, (zero-put W64 g d _ z, tt))
  xor-known false e = rw e tt

  test_known : (b : Bool) → eqb s d ≡ b → AluKnown TEST w
  unfolding result
  test_known true e = rw (e, eqb→eq s d (true-T _ e)) (ap (λ (x : ℕ). eqb x 0) (and_self (rd w g d)), tt)
  test_known false e = rw e tt

  mov-known : (w : Width) → AluKnown MOV w
  unfolding result
  mov-known W32 = tt
  mov-known W64 = copied-known s d g f F k

  alu-known : (o : Alu) → AluKnown o w
  alu-known ADD = tt
  alu-known OR = tt
  alu-known AND = tt
  alu-known SUB = tt
  alu-known XOR = xor-known (eqb s d) refl
  alu-known CMP = tt
  alu-known MOV = mov-known w
  alu-known TEST = test_known (eqb s d) refl

imm-known : (o : Alu) (w : Width) (d x : ℕ) (g : Regs) (f : Status) → x < 2 ^ 32
    → Known (imm_new o w d x) (puts (alu_writes o d (result o w (rd w g d) (extended w x))) g) f
unfolding result
imm-known ADD w d x g f h = tt
imm-known OR w d x g f h = tt
imm-known AND w d x g f h = tt
imm-known SUB w d x g f h = tt
imm-known XOR w d x g f h = tt
imm-known CMP w d x g f h = tt
imm-known MOV w d x g f h = go (eqb x 0) refl
  where
    go : (b : Bool) → eqb x 0 ≡ b → Known (imm_new MOV w d x) (put g d (extended w x)) f
    go true e = rw e tt
    go false e = rw e (imm-put W32 w g d x h (not-zero x e), (imm-put W64 w g d x h (not-zero x e), tt))
imm-known TEST w d x g f h = tt

-- a constant of four bytes leaves what C7 leaves at 32 bits
low_word : (x : ℕ) → x < 2 ^ 32 → x % 2 ^ 32 ≡ extended W32 x
low_word x h = go (ltb x (2 ^ 31)) refl
  where
    go : (b : Bool) → ltb x (2 ^ 31) ≡ b → x % 2 ^ 32 ≡ extended W32 x
    go true e = rw e (omega arith)
    go false e = rw e (omega arith)

constant-known : (w : Width) (d x : ℕ) (g : Regs) (f : Status) → x < 2 ^ bits w → Known (constant_new w d x) (put g d (x % 2 ^ bits w)) f
unfolding result
constant-known W32 d x g f h = rw (low_word x h) (imm-known MOV W32 d x g f h)
constant-known W64 d x g f h = tt

news-known : (p : Plain) (g : Regs) (f : Status) (u : Input) (F : List Fact) → WfPlain p → Known F g f
    → Known (news p F) (puts (writes_of p g u) g) (status_of p g f u)
news-known (push r) g f u F t k = tt
news-known (pop r) g f u F t k = tt
news-known (alu o w s d) g f u F t k = alu-known w s d g f F k o
news-known (alu_imm o w d i) g f u F t k = imm-known o w d i g (alu_status o w (rd w g d) (extended w i) f) t.1
news-known (shift_imm o w d i) g f u F t k = tt
news-known (shift_cl o w d) g f u F t k = tt
news-known (unary o w r) g f u F t k = tt
news-known (mov_imm w d i) g f u F t k = constant-known w d i g f t.1
news-known (rol16 d i) g f u F t k = tt
news-known (bswap w d) g f u F t k = tt
news-known (load z b d x) g f u F t k = tt
news-known (store z s b x) g f u F t k = tt
news-known (store_imm z b x i) g f u F t k = tt

-- Soundness: what an instruction leaves holds behind it.
pub leaves-known : (p : Plain) (g : Regs) (f : Status) (u : Input) (F : List Fact) → WfPlain p → Known F g f
    → Known (leaves p F) (puts (writes_of p g u) g) (status_of p g f u)
leaves-known p g f u F t k =
    let l = writes_of p g u in
    let f' = status_of p g f u in
    known-append (news p F) (keep (keys_of p) (quiet p) F) (puts l g) f' (news-known p g f u F t k)
    (rw (keys-of p g u) at (keep_known l (quiet p) g f f' (quiet_of p g f u) F k))

-- With what it needs, an instruction raises no #DE.
unary-safe : (o : Unary) (w : Width) (r : ℕ) (g : Regs) (f : Status) → Known (unary_needs o w r) g f → faults_of (unary o w r) g ≡ false
unfolding divides
unary-safe NEG w r g f k = refl
unary-safe MUL w r g f k = refl
unary-safe DIV w r g f k =
    let q : dividend w g ≡ rd w g RAX = rw k.1.0 (omega arith) in
    let l : dividend w g / rd w g r < 2 ^ bits w = rw q (omega (arith, div-le_self (rd w g RAX) (rd w g r), rd-lt w g RAX)) in
    rw (eqb-false (rd w g r) 0 k.0, leb-false (2 ^ bits w) (dividend w g / rd w g r) l)

pub no-fault : (p : Plain) (g : Regs) (f : Status) → Known (needs p) g f → faults_of p g ≡ false
no-fault (push r) g f k = refl
no-fault (pop r) g f k = refl
no-fault (alu o w s d) g f k = refl
no-fault (alu_imm o w d i) g f k = refl
no-fault (shift_imm o w d i) g f k = refl
no-fault (shift_cl o w d) g f k = refl
no-fault (unary o w r) g f k = unary-safe o w r g f k
no-fault (mov_imm w d i) g f k = refl
no-fault (rol16 d i) g f k = refl
no-fault (bswap w d) g f k = refl
no-fault (load z b d x) g f k = refl
no-fault (store z s b x) g f k = refl
no-fault (store_imm z b x i) g f k = refl

-- What a conditional jump tells holds behind it.
learnt-holds : (z : Bool) (a : Fact) (g : Regs) (f : Status) → f.ZF ≡ z → Holds a g f → Holds (learnt z a) g f
learnt-holds z (nz w r) g f e h = h
learnt-holds z (zr w r) g f e h = h
learnt-holds true (fz w r) g f e h = eqb→eq _ 0 (true-T _ (sym h ∙ e))
learnt-holds false (fz w r) g f e h = not-zero (rd w g r) (sym h ∙ e)

learn-known : (z : Bool) (F : List Fact) (g : Regs) (f : Status) → f.ZF ≡ z → Known F g f → Known (learn z F) g f
learn-known z [] g f e k = tt
learn-known z (a ∷ F) g f e k = (learnt-holds z a g f e k.0, learn-known z F g f e k.1)

not-eq : (a b : Bool) → not a ≡ b → a ≡ not b
not-eq true true e = sym e
not-eq true false e = refl
not-eq false true e = refl
not-eq false false e = sym e

pub branch-known : (c : Cond) (t : Bool) (F : List Fact) (g : Regs) (f : Status) → holds c f ≡ t → Known F g f → Known (branch c t F) g f
branch-known JB t F g f e k = k
branch-known JAE t F g f e k = k
branch-known JE t F g f e k = learn-known t F g f e k
branch-known JNE t F g f e k = learn-known (not t) F g f (not-eq f.ZF t e) k
branch-known JBE t F g f e k = k
branch-known JA t F g f e k = k
branch-known JL t F g f e k = k
branch-known JGE t F g f e k = k
branch-known JLE t F g f e k = k
branch-known JG t F g f e k = k
