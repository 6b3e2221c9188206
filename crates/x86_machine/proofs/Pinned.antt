-- The model leaves open what it has to leave open: were it narrower, demand 3 would be easier and would say less. For any value there is an
-- input that brings it about: in every register but RSP and in the flags behind a helper; in a register behind a load or a pop; in each flag
-- that the manual leaves undefined; as the address that a return pops; and any access to memory may fault.
use mathlib.Core.Path.{◌≡◌, refl, ap, ◌∙◌}
use mathlib.Core.Logic.{◌≢◌}
use mathlib.Core.Bool.{Bool, true, false}
use mathlib.Core.List.{[], ◌∷◌}
use Prim.Native.Nat.{ℕ, ◌%◌, ◌^◌, ◌<◌}
use native.Mathlib.Nat.{mod-eq_of_lt}
use lib.Dec.{T, eqb}
use Rattle.base.specs.Pick.{pick}
use Rattle.base.proofs.Tests.{T_true, eqb-false}
use Rattle.base.specs.declared.Width.{Width}
use Rattle.base.specs.declared.Size.{Size}
use Rattle.x86.specs.Registers.{RSP}
use Rattle.x86.specs.Instr.{Shift, MUL, DIV, Instr, pop, unary, load, call_reg, ret}
use Rattle.x86_machine.specs.Machine.{Regs, write, Status, Input, State, running, finished, faulted, moved, helped, effect, does, touches, writes_of}
use Rattle.x86_machine.specs.Machine.{status_of, size_bits, shift_status, rol_status, up}

abbrev given : (value back : ℕ) → Regs → Status → Input
given v b g f = record { allowed = true; value = v; back = b; regs = g; flags = f }

-- a helper: any registers but RSP, which it keeps, and any flags
pub record Helped (s t : State) (p : ℕ) (g : Regs) (f : Status) : Type 0 where
  pub at : t.pos ≡ p
  pub others : (r : ℕ) → r ≢ RSP → g r < 2 ^ 64 → t.regs r ≡ g r
  pub stack : t.regs RSP ≡ s.regs RSP
  pub flags : t.flags ≡ f
  pub calls : t.calls ≡ s.calls

pub helper-any : (r p : ℕ) (s : State) (g : Regs) (f : Status)
    → (u : Input) × ((t : State) × (does (call_reg r) p s u ≡ running t) × Helped s t p g f)
helper-any r p s g f =
    let u = given 0 0 g f in
    (u, (helped s u p, refl, record { at = refl; others = kept; stack = refl; flags = refl; calls = refl }))
  where
    kept : (q : ℕ) → q ≢ RSP → g q < 2 ^ 64 → (helped s (given 0 0 g f) p).regs q ≡ g q
    kept q n h = ap (λ (b : Bool). pick b (s.regs RSP) (g q % 2 ^ 64)) (eqb-false q RSP n) ∙ mod-eq_of_lt h

-- a load gives any value of its size, a pop any value
pub load-any : (z : Size) (b d x v : ℕ) (g : Regs) → v < 2 ^ size_bits z → (u : Input) × (writes_of (load z b d x) g u ≡ write d v ∷ [])
load-any z b d x v g h = (given v 0 g (record { CF = false; ZF = false; SF = false; OF = false }), ap (λ (n : ℕ). write d n ∷ []) (mod-eq_of_lt h))

pub pop-any : (r v : ℕ) (g : Regs) → v < 2 ^ 64 → (u : Input) × (writes_of (pop r) g u ≡ write RSP (up (g RSP)) ∷ write r v ∷ [])
pop-any r v g h = (given v 0 g (record { CF = false; ZF = false; SF = false; OF = false }), ap (λ (n : ℕ). write RSP (up (g RSP)) ∷ write r n ∷ []) (mod-eq_of_lt h))

-- undefined flags: all of DIV's, ZF and SF of MUL's, OF of a shift or a rotation by more than 1
pub div_any : (w : Width) (r : ℕ) (g : Regs) (f h : Status) → (u : Input) × (status_of (unary DIV w r) g f u ≡ h)
div_any w r g f h = (given 0 0 g h, refl)

pub mul-any : (w : Width) (r : ℕ) (g : Regs) (f h : Status)
    → (u : Input) × ((status_of (unary MUL w r) g f u).ZF ≡ h.ZF) × ((status_of (unary MUL w r) g f u).SF ≡ h.SF)
mul-any w r g f h = (given 0 0 g h, refl, refl)

pub shift-any : (o : Shift) (w : Width) (a c : ℕ) (f h : Status) → eqb c 0 ≡ false → eqb c 1 ≡ false
    → (u : Input) × ((shift_status o w a c f u).OF ≡ h.OF)
unfolding shift_status
shift-any o w a c f h z e = (given 0 0 (λ r. 0) h, rw (z, e))

pub rol_any : (a c : ℕ) (f h : Status) → eqb c 0 ≡ false → eqb c 1 ≡ false → (u : Input) × ((rol_status a c f u).OF ≡ h.OF)
unfolding rol_status
rol_any a c f h z e = (given 0 0 (λ r. 0) h, rw (z, e))

-- a return pops any address; with no call open it is the last
pub return-any : (p b : ℕ) (s : State) → s.calls ≡ [] → (u : Input) × ((t : State) × (does ret p s u ≡ finished t) × (t.pos ≡ b))
return-any p b s e =
    let u = given 0 b (λ r. 0) s.flags in
    (u, (moved s (effect {D = ℕ} ret s.regs s.flags u) b [], rw e, refl))

-- an access to memory may fault
pub fault-any : (i : Instr ℕ) (p : ℕ) (s : State) → T (touches i) → (u : Input) × (does i p s u ≡ faulted)
fault-any i p s t = (record { allowed = false; value = 0; back = 0; regs = λ r. 0; flags = s.flags }, rw (T_true (touches i) t))
