-- The laws of specs/Runs.antt: what is reached may be weakened; runs go on where others end; if inputs that are chosen by the instruction, the
-- words pushed and the state are fair, the run arrives; and there are fair inputs, whatever else they hold.
use mathlib.Core.Path.{◌≡◌, refl, ap, ◌∙◌}
use mathlib.Core.Bool.{Bool, true, ◌&&◌}
use mathlib.Core.List.{List, [], ◌∷◌}
use Prim.Native.Nat.{ℕ, suc}
use lib.Dec.{ltb, eqb}
use lib.ListN.{length}
use Rattle.base.specs.Pick.{pick}
use Rattle.base.proofs.Tests.{eqb-true, leb-true}
use Rattle.x86.specs.Registers.{RSP}
use Rattle.x86.specs.Instr.{Instr}
use Rattle.x86_machine.specs.Machine.{Input, State, Outcome, running, after, run}
use Rattle.jit_agrees.specs.Runs.{StackUse, pushes, pops, neither, use_of, lowered, most_pushed, Fair, Leads, there, onward}

-- where an instruction has to run, one may
pub sooner : {code : List ℕ} {P : State → Type 0} {start : ℕ} {b : Bool} {k : List ℕ} {s : State}
    → Leads code P start b k s → Leads code P start true k s
sooner (there p) = there p
sooner (onward i r e next a h) = onward i r e next a h

module _ {code : List ℕ} {P R : State → Type 0} {start : ℕ} where
  pub leads-on : ((t : State) → P t → R t) → {b : Bool} {k : List ℕ} {s : State} → Leads code P start b k s → Leads code R start b k s
  leads-on f (there p) = there (f _ p)
  leads-on f (onward i r e next a h) = onward i r e next a (λ u x. leads-on f (h u x))

  -- from where the first end, the others go on
  pub leads-then : ((t : State) → P t → Leads code R start true [] t) → {k : List ℕ} {s : State}
      → Leads code P start true k s → Leads code R start true k s
  leads-then f (there p) = f _ p
  leads-then f (onward i r e next a h) = onward i r e next a (λ u x. leads-then f (h u x))

-- inputs that are chosen by the instruction, the words pushed and the state, each of them fair
abbrev pub Chosen : (start : ℕ) → (Instr ℕ → List ℕ → State → Input) → Type 0
Chosen start choose = (i : Instr ℕ) (k : List ℕ) (s : State) → Fair (use_of i) start k (s.regs RSP) (choose i k s)

-- a run that arrives
pub record Arrives (code : List ℕ) (P : State → Type 0) (s : State) : Type 0 where
  pub inputs : List Input
  pub state : State
  pub comes : run code inputs s ≡ running state
  pub good : P state

pub arrives : {code : List ℕ} {P : State → Type 0} {start : ℕ} (choose : Instr ℕ → List ℕ → State → Input) → Chosen start choose
    → {b : Bool} {k : List ℕ} {s : State} → Leads code P start b k s → Arrives code P s
unfolding run
arrives choose fair (there p) = record { inputs = []; state = _; comes = refl; good = p }
arrives {code} choose fair (onward {k = k} {s = s} i r e next a b) =
    let u = choose i k s in
    let f = fair i k s in
    let v = arrives choose fair (b u f) in
    record {
      inputs = u ∷ v.inputs;
      state = v.state;
      comes = ap (λ (o : Outcome). after o (λ t. run code v.inputs t)) (a u f) ∙ v.comes;
      good = v.good;
    }

-- any input, with what is fair put into it: nothing but what has to be
abbrev allowing : (value : ℕ) → Input → Input
allowing v u = record { allowed = true; value = v; back = u.back; regs = u.regs; flags = u.flags }

abbrev pub fairly : StackUse → (start : ℕ) → (pushed : List ℕ) → (rsp : ℕ) → Input → Input
fairly (pushes r) start k rsp u = pick (eqb rsp (lowered start k) && ltb (length k) most_pushed) (allowing u.value u) u
fairly pops start [] rsp u = u
fairly pops start (v ∷ k) rsp u = pick (eqb rsp (lowered start (v ∷ k))) (allowing v u) u
fairly neither start k rsp u = u

abbrev pub behaving : (start : ℕ) → (State → Input) → Instr ℕ → List ℕ → State → Input
behaving start u i k s = fairly (use_of i) start k (s.regs RSP) (u s)

pub chosen : (start : ℕ) (u : State → Input) → Chosen start (behaving start u)
chosen start u i k s = by (use_of i) k (s.regs RSP) (u s)
  where
    by : (x : StackUse) (k : List ℕ) (p : ℕ) (u : Input) → Fair x start k p (fairly x start k p u)
    by (pushes r) k p u = λ e l. rw (eqb-true p (lowered start k) e, leb-true (suc (length k)) most_pushed l)
    by pops [] p u = tt
    by pops (v ∷ k) p u = λ e. rw (eqb-true p (lowered start (v ∷ k)) e) (refl, refl)
    by neither k p u = tt
