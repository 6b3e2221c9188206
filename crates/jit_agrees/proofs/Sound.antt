-- What is computed on a list (Lists.antt), the page does: the list's bytes, wherever they stand in it, lead where the list is left.
use mathlib.Core.Path.{◌≡◌, refl, ap, sym, ◌∙◌, subst}
use mathlib.Core.Bool.{Bool, true, false}
use mathlib.Core.List.{List, [], ◌∷◌, ◌++◌, append_assoc}
use Prim.Native.Nat.{ℕ, zero, suc, ◌+◌, ◌^◌, ◌<◌, ◌≤◌}
use native.Mathlib.Omega.{arith}
use Rattle.x86.specs.Registers.{RSP}
use Rattle.x86.specs.Instr.{Plain, push, pop, alu, alu_imm, shift_imm, shift_cl, unary, mov_imm, rol16, bswap, load, store, store_imm}
use Rattle.x86.specs.Instr.{jmp, call, jcc, Instr, op, jump, call_reg, ret}
use Rattle.x86.specs.Encode.{len}
use Rattle.x86.specs.Code.{Dest, near, to, size}
use Rattle.x86.specs.Lowered.{lower, lowered, bytes, code_of}
use Rattle.x86.proofs.CodeLaws.{size-append}
use Rattle.x86.proofs.ReadsLaws.{WfCode, wf-at, fetch-at, fetch-len}
use Rattle.code.proofs.LandingLaws.{follow-to, follow-near}
use Rattle.jit.specs.MulDivMod.{Code}
use Rattle.x86_machine.specs.Machine.{Regs, Status, Input, Frame, State, running, faults_of, effect, moved, does, step, follow, holds}
use Rattle.x86_machine.proofs.MachineWords.{stay-words}
use Rattle.jit_agrees.specs.Runs.{plain_use, use_of, left, Fair, Leads, there, onward}
use Rattle.jit_agrees.proofs.Lists.{Way, falls, jumps, Before, ahead, Ended, Leaves, First, Wp}

abbrev pub at : ℕ → Regs → Status → List Frame → State
at p g f cs = record { pos = p; regs = g; flags = f; calls = cs }

abbrev pub Words : Regs → Type 0
Words g = (r : ℕ) → g r < 2 ^ 64

-- where a list is left, its end being at e
abbrev pub Goes : (loc : ℕ → ℕ) → (e : ℕ) → Way → ℕ → Type 0
Goes loc e falls p = p ≡ e
Goes loc e (jumps t) p = p ≡ loc t

pub record Ends (Q : Way → Regs → Type 0) (loc : ℕ → ℕ) (e : ℕ) (cs : List Frame) (s : State) : Type 0 where
  pub way : Way
  pub place : Goes loc e way s.pos
  pub good : Q way s.regs
  pub framed : s.calls ≡ cs
  pub words : Words s.regs

-- One instruction that goes on: the state behind it, and that what was asked behind it holds there.
abbrev next_of : Plain → ℕ → Regs → Status → List Frame → Input → State
next_of p e g f cs u = moved (at e g f cs) (effect {D = ℕ} (op p) g f u) e cs

plain-does : (start : ℕ) (p : Plain) (q e : ℕ) (g : Regs) (f : Status) (cs : List Frame) (k : List ℕ) (K : List ℕ → Regs → Status → Type 0)
    → Before start p k g f K → (u : Input) → Fair (plain_use p) start k (g RSP) u
    → (does (op p) e (at q g f cs) u ≡ running (next_of p e g f cs u))
    × K (left (plain_use p) g k) (next_of p e g f cs u).regs (next_of p e g f cs u).flags
plain-does start (push r) q e g f cs k K b u h = let may : u.allowed ≡ true = h b.0 b.1.0 in (rw may, b.1.1)
plain-does start (pop r) q e g f cs [] K b u h = absurd b
plain-does start (pop r) q e g f cs (v ∷ k) K b u h =
    let may : u.allowed ≡ true = (h b.0).0 in
    let same : u.value ≡ v = (h b.0).1 in
    (rw may, rw same b.1)
plain-does start (alu o w s d) q e g f cs k K b u h = (refl, b)
plain-does start (alu_imm o w d i) q e g f cs k K b u h = (refl, b)
plain-does start (shift_imm o w d i) q e g f cs k K b u h = (refl, b _)
plain-does start (shift_cl o w d) q e g f cs k K b u h = (refl, b _)
plain-does start (unary o w r) q e g f cs k K b u h = (rw b.0, b.1 _)
plain-does start (mov_imm w d i) q e g f cs k K b u h = (refl, b)
plain-does start (rol16 d i) q e g f cs k K b u h = (refl, b _)
plain-does start (bswap w d) q e g f cs k K b u h = (refl, b)
plain-does start (load z b d x) q e g f cs k K y u h = absurd y
plain-does start (store z s b x) q e g f cs k K y u h = absurd y
plain-does start (store_imm z b x i) q e g f cs k K y u h = absurd y

no-fault : (start : ℕ) (p : Plain) (k : List ℕ) (g : Regs) (f : Status) (K : List ℕ → Regs → Status → Type 0) → Before start p k g f K
    → faults_of p g ≡ false
no-fault start (push r) k g f K b = refl
no-fault start (pop r) k g f K b = refl
no-fault start (alu o w s d) k g f K b = refl
no-fault start (alu_imm o w d i) k g f K b = refl
no-fault start (shift_imm o w d i) k g f K b = refl
no-fault start (shift_cl o w d) k g f K b = refl
no-fault start (unary o w r) k g f K b = b.0
no-fault start (mov_imm w d i) k g f K b = refl
no-fault start (rol16 d i) k g f K b = refl
no-fault start (bswap w d) k g f K b = refl
no-fault start (load z b d x) k g f K y = refl
no-fault start (store z s b x) k g f K y = refl
no-fault start (store_imm z b x i) k g f K y = refl

ahead-le : (m : ℕ) (c : Code) → ahead m c ≤ size c
ahead-le zero c = omega arith
ahead-le (suc m) [] = omega arith
ahead-le (suc m) (i ∷ c) = omega (arith, ahead-le m c)

-- a list that has to be run has an instruction
abbrev pub Runs : (at_once : Bool) → Code → Type 0
Runs true c = Unit {0}
Runs false [] = ⊥
Runs false (i ∷ c) = Unit {0}

-- The page.
module _ (is : Code) (loc : ℕ → ℕ) (wf : WfCode is) (small : size is < 2 ^ 31) (within : (t : ℕ) → loc t < 2 ^ 31) where
  abbrev code : List ℕ
  code = code_of loc is

  module _ (start : ℕ) (Q : Way → Regs → Type 0) (end : ℕ) (cs : List Frame) where
    abbrev Arrive : Bool → List ℕ → State → Type 0
    Arrive = Leads code (Ends Q loc end cs) start

    ended : (m : ℕ) (k : List ℕ) (g : Regs) (f : Status) (p : ℕ) → Words g → p ≡ end → Ended Q m k g → Arrive true k (at p g f cs)
    ended zero [] g f p w e h = there (record { way = falls; place = e; good = h; framed = refl; words = w })
    ended zero (v ∷ k) g f p w e h = absurd h
    ended (suc m) k g f p w e h = absurd h

    gone : (t : ℕ) (k : List ℕ) (g : Regs) (f : Status) → Words g → Leaves Q t k g → Arrive true k (at (loc t) g f cs)
    gone t [] g f w h = there (record { way = jumps t; place = refl; good = h; framed = refl; words = w })
    gone t (v ∷ k) g f w h = absurd h

    -- An instruction i in its place p, c being the rest of the list.
    module _ (pre : Code) (i : Instr Dest) (c post : Code) (p : ℕ) (e : is ≡ pre ++ i ∷ (c ++ post)) (z : size pre ≡ p) where
      abbrev fin : ℕ
      fin = p + len i

      bound : fin + size c < 2 ^ 31
      bound =
          let h : size is ≡ size pre + (len i + (size c + size post)) =
          ap size e ∙ size-append pre (i ∷ (c ++ post)) ∙ rw (size-append c post) in
          omega arith

      step-at : (g : Regs) (f : Status) (u : Input) → step code (at p g f cs) u ≡ does (lower loc p i) fin (at p g f cs) u
      unfolding step
      step-at g f u = rw (fetch-at loc is pre i (c ++ post) p e z wf, fetch-len loc is pre i (c ++ post) p e z)

      abbrev FairHere : List ℕ → Regs → Input → Type 0
      FairHere k g u = Fair (use_of (lower loc p i)) start k (g RSP) u

      by-step : {now : Bool} (k : List ℕ) (g : Regs) (f : Status) (next : Input → State)
          → ((u : Input) → FairHere k g u → does (lower loc p i) fin (at p g f cs) u ≡ running (next u))
          → ((u : Input) → FairHere k g u → Arrive true (left (use_of (lower loc p i)) g k) (next u)) → Arrive now k (at p g f cs)
      by-step k g f next a b =
          onward (lower loc p i) (bytes (lowered loc fin (c ++ post))) (fetch-at loc is pre i (c ++ post) p e z wf) next
          (λ u h. step-at g f u ∙ a u h) b

      over : (m x : ℕ) → ahead m c ≡ x → follow fin x ≡ fin + x
      over m x y = let b = bound in follow-near fin x (omega (arith, ahead-le m c))

      -- what comes behind: any part of the rest of the list
      abbrev Rest : (ℕ → List ℕ → Regs → Status → Type 0) → Type 0
      Rest K = (m : ℕ) (k : List ℕ) (g : Regs) (f : Status) (q : ℕ) → Words g → q ≡ fin + ahead m c → K m k g f → Arrive true k (at q g f cs)

    first : {now : Bool} (i : Instr Dest) (pre c post : Code) (p : ℕ) (e : is ≡ pre ++ i ∷ (c ++ post)) (z : size pre ≡ p)
        → (k : List ℕ) (g : Regs) (f : Status) → Words g → (K : ℕ → List ℕ → Regs → Status → Type 0) → Rest pre i c post p e z K
        → First start Q i c k g f K → Arrive now k (at p g f cs)
    first (op x) pre c post p e z k g f w K rest h =
        let end = p + len {D = Dest} (op x) in
        let wf-op = wf-at pre (op x) (c ++ post) (subst WfCode e wf) in
        let fine = no-fault start x k g f (λ k g f. K 0 k g f) h in
        by-step pre (op x) c post p e z k g f (next_of x end g f cs) (λ u a. (plain-does start x p end g f cs k (λ k g f. K 0 k g f) h u a).0)
        (λ u a. rest 0 _ _ _ end (stay-words x g u wf-op fine w) (omega arith) (plain-does start x p end g f cs k (λ k g f. K 0 k g f) h u a).1)
    first (jump jmp (near x)) pre c post p e z k g f w K rest (m, (y, h)) =
        let end = p + len {D = Dest} (jump jmp (near x)) in
        by-step pre (jump jmp (near x)) c post p e z k g f (λ u. at (follow end x) g f cs) (λ u a. refl)
        (λ u a. rest m k g f (follow end x) w (omega (arith, over pre (jump jmp (near x)) c post p e z m x y)) h)
    first (jump jmp (to t)) pre c post p e z k g f w K rest h =
        let end = p + len {D = Dest} (jump jmp (to t)) in
        let b = bound pre (jump jmp (to t)) c post p e z in
        let n = follow-to end (loc t) (omega arith) (within t) in
        by-step pre (jump jmp (to t)) c post p e z k g f (λ u. at (loc t) g f cs) (λ u a. rw n) (λ u a. gone t k g f w h)
    first (jump call d) pre c post p e z k g f w K rest h = absurd h
    first {now} (jump (jcc y) (near x)) pre c post p e z k g f w K rest h = go (holds y f) refl
      where
        fall : ℕ
        fall = p + len {D = Dest} (jump (jcc y) (near x))

        go : (b : Bool) → holds y f ≡ b → Arrive now k (at p g f cs)
        go true q =
            let v = h.0 q in
            let n = over pre (jump (jcc y) (near x)) c post p e z v.0 x v.1.0 in
            by-step pre (jump (jcc y) (near x)) c post p e z k g f (λ u. at (follow fall x) g f cs) (λ u a. rw q)
            (λ u a. rest v.0 k g f (follow fall x) w (omega (arith, n, v.1.0)) v.1.1)
        go false q =
            by-step pre (jump (jcc y) (near x)) c post p e z k g f (λ u. at fall g f cs) (λ u a. rw q)
            (λ u a. rest 0 k g f fall w (omega arith) (h.1 q))
    first {now} (jump (jcc y) (to t)) pre c post p e z k g f w K rest h = go (holds y f) refl
      where
        fall : ℕ
        fall = p + len {D = Dest} (jump (jcc y) (to t))

        go : (b : Bool) → holds y f ≡ b → Arrive now k (at p g f cs)
        go true q =
            let b = bound pre (jump (jcc y) (to t)) c post p e z in
            let n = follow-to fall (loc t) (omega arith) (within t) in
            by-step pre (jump (jcc y) (to t)) c post p e z k g f (λ u. at (loc t) g f cs) (λ u a. rw (q, n)) (λ u a. gone t k g f w (h.0 q))
        go false q =
            by-step pre (jump (jcc y) (to t)) c post p e z k g f (λ u. at fall g f cs) (λ u a. rw q)
            (λ u a. rest 0 k g f fall w (omega arith) (h.1 q))
    first (call_reg r) pre c post p e z k g f w K rest h = absurd h
    first ret pre c post p e z k g f w K rest h = absurd h

    -- the list c from its m-th instruction on, between pre and post
    onwards : (c : Code) (m : ℕ) (pre post : Code) (p q : ℕ) → is ≡ pre ++ (c ++ post) → size pre ≡ p → p + size c ≡ end → q ≡ p + ahead m c
        → (k : List ℕ) (g : Regs) (f : Status) → Words g → Wp start Q c m k g f → Arrive true k (at q g f cs)
    onwards [] zero pre post p q e z y j k g f w h = ended zero k g f q w (omega arith) h
    onwards [] (suc m) pre post p q e z y j k g f w h = ended (suc m) k g f q w (omega arith) h
    onwards (i ∷ c) zero pre post p q e z y j k g f w h =
        let r : q ≡ p = omega arith in
        rw r
        (first i pre c post p e z k g f w (λ m k g f. Wp start Q c m k g f)
        (λ m k g f q w j h. onwards c m (pre ++ (i ∷ [])) post (p + len i) q (e ∙ sym (append_assoc pre (i ∷ []) (c ++ post)))
        (size-append pre (i ∷ []) ∙ omega arith) (omega arith) j k g f w h) h)
    onwards (i ∷ c) (suc m) pre post p q e z y j k g f w h =
        onwards c m (pre ++ (i ∷ [])) post (p + len i) q (e ∙ sym (append_assoc pre (i ∷ []) (c ++ post)))
        (size-append pre (i ∷ []) ∙ omega arith) (omega arith) (omega arith) k g f w h

    -- SOUND
    pub leads : (now : Bool) (c : Code) → Runs now c → (pre post : Code) (p : ℕ) → is ≡ pre ++ (c ++ post) → size pre ≡ p → p + size c ≡ end
        → (g : Regs) (f : Status) → Words g → Wp start Q c 0 [] g f → Arrive now [] (at p g f cs)
    leads true c o pre post p e z y g f w h = onwards c 0 pre post p p e z y (omega arith) [] g f w h
    leads false [] o pre post p e z y g f w h = absurd o
    leads false (i ∷ c) o pre post p e z y g f w h =
        first i pre c post p e z [] g f w (λ m k g f. Wp start Q c m k g f)
        (λ m k g f q w j h. onwards c m (pre ++ (i ∷ [])) post (p + len i) q (e ∙ sym (append_assoc pre (i ∷ []) (c ++ post)))
        (size-append pre (i ∷ []) ∙ omega arith) (omega arith) j k g f w h) h
