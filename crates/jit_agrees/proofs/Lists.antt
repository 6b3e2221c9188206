-- What a list of instructions does, computed on the list as a weakest precondition (`Wp`): what has to hold in front of it for the run to end
-- as wanted. All that is said of kinds of slots is said of their lists, and Sound.antt says that the page does so.
use mathlib.Core.Path.{◌≡◌, subst}
use mathlib.Core.Bool.{true, false}
use mathlib.Core.List.{List, [], ◌∷◌}
use Prim.Native.Nat.{ℕ, zero, suc, ◌+◌, ◌%◌, ◌^◌, ◌<◌}
use native.Mathlib.Omega.{arith}
use lib.Dec.{ltb}
use lib.ListN.{length}
use Rattle.base.proofs.Tests.{leb-true}
use Rattle.base.specs.declared.Width.{Width}
use Rattle.base.specs.declared.Width.TheVariants.{W64}
use Rattle.x86.specs.Registers.{RSP}
use Rattle.x86.specs.Instr.{Plain, push, pop, alu, alu_imm, shift_imm, shift_cl, unary, mov_imm, rol16, bswap, load, store, store_imm}
use Rattle.x86.specs.Instr.{MOV, jmp, call, jcc, Instr, op, jump, call_reg, ret}
use Rattle.x86.specs.Encode.{len}
use Rattle.x86.specs.Code.{Dest, near, to}
use Rattle.jit.specs.declared.Mode.{Mode}
use Rattle.jit.specs.Constants.{loaded}
use Rattle.jit.specs.MulDivMod.{Code}
use Rattle.jit_safety.proofs.Checked.{as-loaded}
use Rattle.x86_machine.specs.Machine.{bits, Regs, put, puts, Status, result, alu_writes, alu_status, extended, rd, counted}
use Rattle.x86_machine.specs.Machine.{in_cl, shifted, kept_above16, rolled, rol_count, swapped, swap_bytes, up, down, unary_writes, unary_faults}
use Rattle.x86_machine.specs.Machine.{holds}
use Rattle.jit_agrees.specs.Runs.{lowered, most_pushed}

-- how a list is left: behind its last instruction, or by a jump to a listed target
pub data Way : Type 0 where
  falls : Way
  jumps : (target : ℕ) → Way

-- What has to hold in front of an instruction, K being what has to hold behind it, and RSP having been at `start` before anything was pushed.
-- Flags that it computes are kept where a jump may read them, behind ADD to TEST; behind any other they may be anything. Loads and stores
-- are no part of such a list.
abbrev pub Before : (start : ℕ) → Plain → List ℕ → Regs → Status → (List ℕ → Regs → Status → Type 0) → Type 0
Before start (push r) k g f K = (g RSP ≡ lowered start k) × ((length k < most_pushed) × K (g r ∷ k) (put g RSP (down (g RSP))) f)
Before start (pop r) [] g f K = ⊥
Before start (pop r) (v ∷ k) g f K = (g RSP ≡ lowered start (v ∷ k)) × K k (put (put g RSP (up (g RSP))) r (v % 2 ^ 64)) f
Before start (alu o w s d) k g f K = K k (puts (alu_writes o d (result o w (rd w g d) (rd w g s))) g) (alu_status o w (rd w g d) (rd w g s) f)
Before start (alu_imm o w d i) k g f K = K k (puts (alu_writes o d (result o w (rd w g d) (extended w i))) g) (alu_status o w (rd w g d) (extended w i) f)
Before start (shift_imm o w d i) k g f K = (f' : Status) → K k (put g d (shifted o w (rd w g d) (counted w i))) f'
Before start (shift_cl o w d) k g f K = (f' : Status) → K k (put g d (shifted o w (rd w g d) (counted w (in_cl g)))) f'
Before start (unary o w r) k g f K = (unary_faults o w g r ≡ false) × ((f' : Status) → K k (puts (unary_writes o w g r) g) f')
Before start (mov_imm w d i) k g f K = K k (put g d (i % 2 ^ bits w)) f
Before start (rol16 d i) k g f K = (f' : Status) → K k (put g d (kept_above16 (rd W64 g d) (rolled (rd W64 g d) (rol_count i)))) f'
Before start (bswap w d) k g f K = K k (put g d (swapped (swap_bytes w) (rd w g d))) f
Before start (load z b d x) k g f K = ⊥
Before start (store z s b x) k g f K = ⊥
Before start (store_imm z b x i) k g f K = ⊥

-- the bytes of the first m instructions
abbrev pub ahead : ℕ → Code → ℕ
ahead zero c = 0
ahead (suc m) [] = 0
ahead (suc m) (i ∷ c) = len i + ahead m c

abbrev pub Ended : (Way → Regs → Type 0) → ℕ → List ℕ → Regs → Type 0
Ended Q zero [] g = Q falls g
Ended Q zero (v ∷ k) g = ⊥
Ended Q (suc m) k g = ⊥

abbrev pub Leaves : (Way → Regs → Type 0) → ℕ → List ℕ → Regs → Type 0
Leaves Q t [] g = Q (jumps t) g
Leaves Q t (v ∷ k) g = ⊥

-- A list, its first m instructions skipped. A skip over bytes is one over instructions that have these bytes. K is the rest, m of it skipped.
abbrev pub First : (start : ℕ) → (Way → Regs → Type 0) → Instr Dest → Code → List ℕ → Regs → Status → (ℕ → List ℕ → Regs → Status → Type 0) → Type 0
First start Q (op p) c k g f K = Before start p k g f (λ k g f. K 0 k g f)
First start Q (jump jmp (near x)) c k g f K = (m : ℕ) × ((ahead m c ≡ x) × K m k g f)
First start Q (jump jmp (to t)) c k g f K = Leaves Q t k g
First start Q (jump call d) c k g f K = ⊥
First start Q (jump (jcc y) (near x)) c k g f K = (holds y f ≡ true → (m : ℕ) × ((ahead m c ≡ x) × K m k g f)) × (holds y f ≡ false → K 0 k g f)
First start Q (jump (jcc y) (to t)) c k g f K = (holds y f ≡ true → Leaves Q t k g) × (holds y f ≡ false → K 0 k g f)
First start Q (call_reg r) c k g f K = ⊥
First start Q ret c k g f K = ⊥

abbrev pub Wp : (start : ℕ) → (Way → Regs → Type 0) → Code → (m : ℕ) → List ℕ → Regs → Status → Type 0
Wp start Q [] m k g f = Ended Q m k g
Wp start Q (i ∷ c) zero k g f = First start Q i c k g f (λ m k g f. Wp start Q c m k g f)
Wp start Q (i ∷ c) (suc m) k g f = Wp start Q c m k g f

-- What is wanted at the end may be weakened.
before-mono : (start : ℕ) (p : Plain) (k : List ℕ) (g : Regs) (f : Status) (K L : List ℕ → Regs → Status → Type 0)
    → ((k : List ℕ) (g : Regs) (f : Status) → K k g f → L k g f) → Before start p k g f K → Before start p k g f L
before-mono start (push r) k g f K L t h = (h.0, (h.1.0, t _ _ _ h.1.1))
before-mono start (pop r) [] g f K L t h = absurd h
before-mono start (pop r) (v ∷ k) g f K L t h = (h.0, t _ _ _ h.1)
before-mono start (alu o w s d) k g f K L t h = t _ _ _ h
before-mono start (alu_imm o w d i) k g f K L t h = t _ _ _ h
before-mono start (shift_imm o w d i) k g f K L t h = λ f'. t _ _ _ (h f')
before-mono start (shift_cl o w d) k g f K L t h = λ f'. t _ _ _ (h f')
before-mono start (unary o w r) k g f K L t h = (h.0, λ f'. t _ _ _ (h.1 f'))
before-mono start (mov_imm w d i) k g f K L t h = t _ _ _ h
before-mono start (rol16 d i) k g f K L t h = λ f'. t _ _ _ (h f')
before-mono start (bswap w d) k g f K L t h = t _ _ _ h
before-mono start (load z b d x) k g f K L t h = h
before-mono start (store z s b x) k g f K L t h = h
before-mono start (store_imm z b x i) k g f K L t h = h

module _ (start : ℕ) (Q R : Way → Regs → Type 0) (weaker : (e : Way) (g : Regs) → Q e g → R e g) where
  left-mono : (t : ℕ) (k : List ℕ) (g : Regs) → Leaves Q t k g → Leaves R t k g
  left-mono t [] g h = weaker (jumps t) g h
  left-mono t (v ∷ k) g h = h

  ended-mono : (m : ℕ) (k : List ℕ) (g : Regs) → Ended Q m k g → Ended R m k g
  ended-mono zero [] g h = weaker falls g h
  ended-mono zero (v ∷ k) g h = h
  ended-mono (suc m) k g h = h

  first-mono : (i : Instr Dest) (c : Code) (k : List ℕ) (g : Regs) (f : Status) (K L : ℕ → List ℕ → Regs → Status → Type 0)
      → ((m : ℕ) (k : List ℕ) (g : Regs) (f : Status) → K m k g f → L m k g f) → First start Q i c k g f K → First start R i c k g f L
  first-mono (op p) c k g f K L t h = before-mono start p k g f (λ k g f. K 0 k g f) (λ k g f. L 0 k g f) (t 0) h
  first-mono (jump jmp (near x)) c k g f K L t h = (h.0, (h.1.0, t _ _ _ _ h.1.1))
  first-mono (jump jmp (to y)) c k g f K L t h = left-mono y k g h
  first-mono (jump call d) c k g f K L t h = h
  first-mono (jump (jcc y) (near x)) c k g f K L t h =
      (λ e. let v = h.0 e in (v.0, (v.1.0, t _ _ _ _ v.1.1)), λ e. t _ _ _ _ (h.1 e))
  first-mono (jump (jcc y) (to x)) c k g f K L t h = (λ e. left-mono x k g (h.0 e), λ e. t _ _ _ _ (h.1 e))
  first-mono (call_reg r) c k g f K L t h = h
  first-mono ret c k g f K L t h = h

  pub mono : (c : Code) (m : ℕ) (k : List ℕ) (g : Regs) (f : Status) → Wp start Q c m k g f → Wp start R c m k g f
  mono [] m k g f h = ended-mono m k g h
  mono (i ∷ c) zero k g f h = first-mono i c k g f (λ m k g f. Wp start Q c m k g f) (λ m k g f. Wp start R c m k g f) (λ m k g f. mono c m k g f) h
  mono (i ∷ c) (suc m) k g f h = mono c m k g f h

-- A constant that is loaded, in the form that the mode gives it.
module _ (start : ℕ) (Q : Way → Regs → Type 0) (m : Mode) (w : Width) (d x : ℕ) (c : Code) (k : List ℕ) (g : Regs) (f : Status) where
  low : x < 2 ^ 31 → extended w x ≡ x % 2 ^ 32
  low h = let e : ltb x (2 ^ 31) ≡ true = leb-true (suc x) (2 ^ 31) h in rw e (omega arith)

  pub loads : Wp start Q (op (alu_imm MOV w d x) ∷ c) 0 k g f → Wp start Q (op (loaded m (alu_imm MOV w d x)) ∷ c) 0 k g f
  unfolding result
  loads h = as-loaded (λ (p : Plain). Wp start Q (op p ∷ c) 0 k g f) m w d x h (λ l. subst (λ (v : ℕ). Wp start Q c 0 k (put g d v) f) (low l) h)
