-- The first check: control flow and division. Where notes pass it, no run leaves the starts of the instructions before its last return,
-- and no division faults, whatever the registers, the flags, and what memory and helpers give.
use mathlib.Core.Path.{◌≡◌, refl, ◌∙◌, subst}
use mathlib.Core.Bool.{Bool, true, false, not, ◌&&◌}
use mathlib.Core.List.{List, [], ◌∷◌}
use Prim.Native.Nat.{ℕ, ◌+◌, ◌^◌, ◌<◌}
use lib.Dec.{T, eqb}
use Rattle.base.specs.Pick.{pick}
use Rattle.base.proofs.Tests.{and_l, and_r}
use Rattle.x86.specs.Instr.{jmp, call, jcc, Instr, op, jump, call_reg, ret}
use Rattle.x86.proofs.WellFormed.{Wf}
use Rattle.x86.specs.Encode.{len}
use Rattle.x86.specs.Code.{Dest, near, to}
use Rattle.x86.specs.Lowered.{code_of}
use Rattle.x86_machine.specs.Machine.{Input, State, Frame, Outcome, running, finished, faulted, unbalanced, divided, astray, holds, Effect, effect}
use Rattle.x86_machine.specs.Machine.{moved, returned, land, touches, step, after, run}
use Rattle.code.proofs.Placed.{Want, want, fits, skip, met, passes, passes_at}
use Rattle.x86.proofs.ReadsLaws.{WfCode, wf-lower, wf-at, fetch-at, fetch-len}
use Rattle.x86.specs.Lowered.{lower}
use Rattle.jit_safety.proofs.Facts.{Fact, Known, leaves, needs, no-fault, leaves-known, branch, branch-known, covers, covers-known}
use Rattle.jit_safety.proofs.Cells.{Cell, cell_len, instrs, extent, Place, size-instrs, split-instrs, StandsIn, Leads, leads}

-- what is known covers what the instruction's note says
abbrev pub asks : List Fact → Cell → Bool
asks F c = covers F c.facts

abbrev pub safe_at : List Fact → Instr Dest → Bool
safe_at F (op p) = covers F (needs p)
safe_at F (jump j d) = true
safe_at F (call_reg r) = true
safe_at F ret = true

-- behind a call nothing is known
abbrev pub flows : List Fact → Instr Dest → List (Want cell_len)
flows F (op p) = want cell_len 0 (asks (leaves p F)) ∷ []
flows F (jump jmp (near k)) = want cell_len k (asks F) ∷ []
flows F (jump jmp (to t)) = []
flows F (jump call (near k)) = want cell_len 0 (asks []) ∷ want cell_len k (asks []) ∷ []
flows F (jump call (to t)) = want cell_len 0 (asks []) ∷ []
flows F (jump (jcc c) (near k)) = want cell_len 0 (asks (branch c false F)) ∷ want cell_len k (asks (branch c true F)) ∷ []
flows F (jump (jcc c) (to t)) = want cell_len 0 (asks (branch c false F)) ∷ []
flows F (call_reg r) = want cell_len 0 (asks []) ∷ []
flows F ret = []

abbrev pub safe_cell : Cell → Bool
safe_cell c = safe_at c.facts c.instr

abbrev pub flows_of : Cell → List (Want cell_len)
flows_of c = flows c.facts c.instr

abbrev pub flowing : List Cell → Bool
flowing = passes cell_len safe_cell flows_of

-- where each open call comes back to
abbrev pub Backs : List Cell → List Frame → Type 0
Backs cells [] = Unit {0}
Backs cells (f ∷ k) = Place cells f.back (asks []) × Backs cells k

pub record Inv (cells : List Cell) (s : State) : Type 0 where
  pub facts : List Fact
  pub place : Place cells s.pos (asks facts)
  pub known : Known facts s.regs s.flags
  pub backs : Backs cells s.calls

abbrev pub Safe : List Cell → Outcome → Type 0
Safe cells (running s) = Inv cells s
Safe cells (finished s) = Unit {0}
Safe cells faulted = Unit {0}
Safe cells unbalanced = Unit {0}
Safe cells divided = ⊥
Safe cells astray = ⊥

safe-pick : (cells : List Cell) (b : Bool) (x y : Outcome) → Safe cells x → Safe cells y → Safe cells (pick b x y)
safe-pick cells true x y p q = p
safe-pick cells false x y p q = q

module _ (cells : List Cell) (loc : ℕ → ℕ) (good : T (flowing cells)) (wfs : WfCode (instrs cells)) (small : extent cells < 2 ^ 31)
    (labels : (t : ℕ) → Place cells (loc t) (asks [])) where
  ret-safe : (s : State) (e : Effect ℕ) (b : ℕ) (k : List Frame) → Backs cells k → Safe cells (returned s e b k)
  ret-safe s e b [] v = tt
  ret-safe s e b (f ∷ k) v =
      safe-pick cells (eqb b f.back) (running (moved s e f.back k)) unbalanced (record { facts = []; place = v.0; known = tt; backs = v.1 }) tt

  -- one instruction in its place
  module _ (pre : List Cell) (F : List Fact) (n : ℕ) (g : Bool) (post : List Cell) (s : State) (u : Input)
      (k : Known F s.regs s.flags) (b : Backs cells s.calls) where
    abbrev end : Instr Dest → ℕ
    end i = extent pre + len i

    abbrev Stands : Instr Dest → Type 0
    Stands = StandsIn cells loc pre F n g post

    leading : Leads cells loc pre F n g post
    leading = leads cells loc pre F n g post small

    abbrev Lands : Instr Dest → Type 0
    Lands i =
        let x = effect (lower loc (extent pre) i) s.regs s.flags u in
        Safe cells (land (end i) s u x x.control)

    lands : (i : Instr Dest) → Stands i → Wf (lower loc (extent pre) i) → T (safe_at F i) → T (met cell_len (flows F i) post) → Lands i
    lands (op p) e w t m =
        rw (no-fault p s.regs s.flags (covers-known F (needs p) s.regs s.flags t k))
        (record {
          facts = leaves p F;
          place = leading.falls (op p) (asks (leaves p F)) e (and_l (fits cell_len (asks (leaves p F)) (skip cell_len 0 post)) true m);
          known = leaves-known p s.regs s.flags u F w k;
          backs = b;
        })
    lands (jump jmp (near x)) e w t m =
        record { facts = F; place = leading.skips (jump jmp (near x)) x (asks F) e (and_l (fits cell_len (asks F) (skip cell_len x post)) true m); known = k; backs = b }
    lands (jump jmp (to x)) e w t m = record { facts = []; place = leading.jumps (jump jmp (to x)) x (asks []) e (labels x); known = tt; backs = b }
    lands (jump call (near x)) e w t m =
        let first = fits cell_len (asks []) (skip cell_len 0 post) in
        let second = fits cell_len (asks []) (skip cell_len x post) in
        record {
          facts = [];
          place = leading.skips (jump call (near x)) x (asks []) e (and_l second true (and_r first (second && true) m));
          known = tt;
          backs = (leading.falls (jump call (near x)) (asks []) e (and_l first (second && true) m), b);
        }
    lands (jump call (to x)) e w t m =
        record {
          facts = [];
          place = leading.jumps (jump call (to x)) x (asks []) e (labels x);
          known = tt;
          backs = (leading.falls (jump call (to x)) (asks []) e (and_l (fits cell_len (asks []) (skip cell_len 0 post)) true m), b);
        }
    lands (jump (jcc c) (near x)) e w t m = go (holds c s.flags) refl
      where
        first : Bool
        first = fits cell_len (asks (branch c false F)) (skip cell_len 0 post)

        second : Bool
        second = fits cell_len (asks (branch c true F)) (skip cell_len x post)

        go : (z : Bool) → holds c s.flags ≡ z → Lands (jump (jcc c) (near x))
        go true y =
            rw y
            (record {
              facts = branch c true F;
              place = leading.skips (jump (jcc c) (near x)) x (asks (branch c true F)) e (and_l second true (and_r first (second && true) m));
              known = branch-known c true F s.regs s.flags y k;
              backs = b;
            })
        go false y =
            rw y
            (record {
              facts = branch c false F;
              place = leading.falls (jump (jcc c) (near x)) (asks (branch c false F)) e (and_l first (second && true) m);
              known = branch-known c false F s.regs s.flags y k;
              backs = b;
            })
    lands (jump (jcc c) (to x)) e w t m = go (holds c s.flags) refl
      where
        go : (z : Bool) → holds c s.flags ≡ z → Lands (jump (jcc c) (to x))
        go true y = rw y (record { facts = []; place = leading.jumps (jump (jcc c) (to x)) x (asks []) e (labels x); known = tt; backs = b })
        go false y =
            rw y
            (record {
              facts = branch c false F;
              place = leading.falls (jump (jcc c) (to x)) (asks (branch c false F)) e (and_l (fits cell_len (asks (branch c false F)) (skip cell_len 0 post)) true m);
              known = branch-known c false F s.regs s.flags y k;
              backs = b;
            })
    lands (call_reg r) e w t m =
        record {
          facts = [];
          place = leading.falls (call_reg r) (asks []) e (and_l (fits cell_len (asks []) (skip cell_len 0 post)) true m);
          known = tt;
          backs = b;
        }
    lands ret e w t m = ret-safe s (effect {D = ℕ} ret s.regs s.flags u) u.back s.calls b

  step-safe : (s : State) (u : Input) → Inv cells s → Safe cells (step (code_of loc (instrs cells)) s u)
  unfolding step
  step-safe s u v =
      let p = v.place in
      let c = p.cell in
      let i = c.instr in
      let x = lower loc s.pos i in
      let e = split-instrs cells p.pre c p.post p.split in
      let z = size-instrs p.pre ∙ p.at in
      let ok = passes_at cell_len safe_cell flows_of p.pre c p.post (rw p.split at good) in
      let w : Wf (lower loc (extent p.pre) i) = wf-lower loc _ i (wf-at (instrs p.pre) i (instrs p.post) (rw e at wfs)) in
      let l =
      lands p.pre c.facts c.depth c.gate p.post s u (covers-known v.facts c.facts s.regs s.flags p.fit v.known) v.backs i p.split w ok.0 ok.1 in
      let y = effect x s.regs s.flags u in
      rw (fetch-at loc (instrs cells) (instrs p.pre) i (instrs p.post) s.pos e z wfs, fetch-len loc (instrs cells) (instrs p.pre) i (instrs p.post) s.pos e z)
      (safe-pick cells (touches x && not u.allowed) faulted (land (s.pos + len i) s u y y.control) tt
      (subst (λ (m : ℕ). let y = effect (lower loc m i) s.regs s.flags u in Safe cells (land (m + len i) s u y y.control)) p.at l))

  pub run-safe : (us : List Input) (s : State) → Inv cells s → Safe cells (run (code_of loc (instrs cells)) us s)
  unfolding run
  run-safe [] s v = v
  run-safe (u ∷ us) s v = go (step (code_of loc (instrs cells)) s u) (step-safe s u v) (λ t w. run-safe us t w)
    where
      go : (o : Outcome) → Safe cells o → ((t : State) → Inv cells t → Safe cells (run (code_of loc (instrs cells)) us t))
          → Safe cells (after o (λ t. run (code_of loc (instrs cells)) us t))
      go (running t) w h = h t w
      go (finished t) w h = tt
      go faulted w h = tt
      go unbalanced w h = tt
      go divided w h = w
      go astray w h = w
