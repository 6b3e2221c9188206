-- The registers behind a slot's code: dst has the result, RCX anything, every other register and RSP what they had. And how that comes about
-- where RAX and RDX were saved on the stack, as in multiplication, division and modulo: dst is RAX, RDX or another register of the program.
use mathlib.Core.Path.{◌≡◌, refl, ap, sym, ◌∙◌}
use mathlib.Core.Bool.{Bool, true, false, not}
use mathlib.Core.List.{List, [], ◌∷◌, ◌++◌}
use Prim.Native.Nat.{ℕ, ◌+◌, ◌%◌, ◌^◌, ◌<◌}
use native.Mathlib.Omega.{arith}
use lib.Dec.{eqb, eqb→eq}
use Rattle.base.specs.Pick.{pick}
use Rattle.base.proofs.Tests.{true-T, eqb-true}
use Rattle.jit_safety.proofs.Facts.{memb}
use Rattle.base.specs.declared.Width.TheVariants.{W64}
use Rattle.x86.specs.Registers.{RAX, RCX, RDX, RSP}
use Rattle.x86.specs.Instr.{pop, alu, op, MOV}
use Rattle.jit.specs.MulDivMod.{when, restored}
use Rattle.x86_machine.specs.Machine.{Regs, rd, put, Status, result, up, down}
use Rattle.jit_agrees.specs.Runs.{lowered}
use Rattle.jit_agrees.proofs.Lists.{Way, falls, jumps, Wp}

-- dst has v; registers other than dst and RCX, and RSP, have what they had
pub record Wrote (g : Regs) (d v : ℕ) (g' : Regs) : Type 0 where
  pub here : g' d ≡ v
  pub others : (m : ℕ) → eqb m RCX ≡ false → eqb m RSP ≡ false → eqb m d ≡ false → g' m ≡ g m
  pub stack : g' RSP ≡ g RSP

-- left behind the last instruction, or by a jump to the next slot
abbrev pub Next : (slot : ℕ) → Way → Type 0
Next slot falls = Unit {0}
Next slot (jumps t) = t ≡ slot + 1

abbrev pub Writes : (slot : ℕ) → Regs → (d v : ℕ) → Way → Regs → Type 0
Writes slot g d v e g' = Next slot e × Wrote g d v g'

-- a register that is neither RCX nor RSP
pub record Apart (r : ℕ) : Type 0 where
  pub rcx : eqb r RCX ≡ false
  pub rsp : eqb r RSP ≡ false
  pub psr : eqb RSP r ≡ false

-- .. the same from registers that differ in RCX and dst
pub wrote-from : (g g₁ : Regs) (d v : ℕ) → ((m : ℕ) → eqb m RCX ≡ false → eqb m d ≡ false → g₁ m ≡ g m) → g₁ RSP ≡ g RSP
    → (g' : Regs) → Wrote g₁ d v g' → Wrote g d v g'
wrote-from g g₁ d v same e g' h = record { here = h.here; others = λ m x y z. h.others m x y z ∙ same m x z; stack = h.stack ∙ e }

-- What was saved comes back. While it does, the registers are the old ones but for RCX, dst and those that are still `gone`, and RSP is at sp.
pub record Kept (g : Regs) (d sp : ℕ) (gone : List ℕ) (g' : Regs) : Type 0 where
  pub others : (m : ℕ) → eqb m RCX ≡ false → eqb m RSP ≡ false → eqb m d ≡ false → memb m gone ≡ false → g' m ≡ g m
  pub rsp : g' RSP ≡ sp

-- RSP begins at `start`.
module _ (slot start : ℕ) (g : Regs) (begun : g RSP ≡ start) (words : (r : ℕ) → g r < 2 ^ 64) (v : ℕ) (hv : v < 2 ^ 64) (d : ℕ) (p : Apart d) where
  -- dst itself need not come back
  dst-kept : (r sp : ℕ) (gone : List ℕ) (g' : Regs) → eqb d r ≡ true → Kept g d sp (r ∷ gone) g' → Kept g d sp gone g'
  dst-kept r sp gone g' e h =
      let same : d ≡ r = eqb→eq d r (true-T _ e) in
      record { others = λ m x y z w. h.others m x y z (rw (← same, z) w); rsp = h.rsp }

  moved-kept : (sp x : ℕ) (gone : List ℕ) (g' : Regs) → Kept g d sp gone g' → Kept g d sp gone (put g' d x)
  moved-kept sp x gone g' h = record { others = λ m x y z w. rw z (h.others m x y z w); rsp = rw p.psr h.rsp }

  -- behind POP r
  abbrev popped : (r : ℕ) → Regs → Regs
  popped r g' = put (put g' RSP (up (g' RSP))) r (g r % 2 ^ 64)

  popped-kept : (r sp : ℕ) (gone : List ℕ) (g' : Regs) → eqb RSP r ≡ false → Kept g d sp (r ∷ gone) g' → Kept g d (up sp) gone (popped r g')
  popped-kept r sp gone g' q h = record { others = λ m x y z w. by m x y z w (eqb m r) refl; rsp = rw (q, h.rsp) }
    where
      by : (m : ℕ) → eqb m RCX ≡ false → eqb m RSP ≡ false → eqb m d ≡ false → memb m gone ≡ false → (t : Bool) → eqb m r ≡ t
          → popped r g' m ≡ g m
      by m x y z w true e = rw e (rw (eqb→eq m r (true-T _ e)) (omega (arith, words r)))
      by m x y z w false e = rw (e, y) (h.others m x y z (rw e w))

  -- the words that were saved, the last first
  abbrev pub on_stack : (is_rax is_rdx : Bool) → List ℕ
  on_stack true b = g RDX ∷ []
  on_stack false true = g RAX ∷ []
  on_stack false false = g RDX ∷ g RAX ∷ []

  small : start < 2 ^ 64
  small = omega (arith, words RSP, begun)

  back : up (down start) ≡ start
  back = omega (arith, small)

  back-once : up (down (down start)) ≡ down start
  back-once = omega arith

  done : (sp : ℕ) (g' : Regs) → Kept g d sp [] g' → sp ≡ start → g' d ≡ v → Writes slot g d v falls g'
  done sp g' h e x = (tt, record { here = x; others = λ m a b c. h.others m a b c refl; stack = h.rsp ∙ e ∙ sym begun })

  -- dst is RAX, RDX or another; the result is in RAX or in RDX
  module _ (g' : Regs) (f : Status) where
    abbrev Restores : (is_rax is_rdx from_rax : Bool) → Type 0
    Restores a b t =
        Wp start (Writes slot g d v)
        (pick b [] (when (not t) (op (alu MOV W64 RDX d) ∷ []) ++ (op (pop RDX) ∷ []))
        ++ pick a [] (when t (op (alu MOV W64 RAX d) ∷ []) ++ (op (pop RAX) ∷ [])))
        0 (on_stack a b) g' f

    abbrev still : List ℕ
    still = RDX ∷ RAX ∷ []

    restores-by : (a b t : Bool) → eqb d RAX ≡ a → eqb d RDX ≡ b → g' (pick t RAX RDX) ≡ v → Kept g d (lowered start (on_stack a b)) still g'
        → Restores a b t
    unfolding result rd
    restores-by true true t x y out h = let z : RAX ≡ RDX = sym (eqb→eq d RAX (true-T _ x)) ∙ eqb→eq d RDX (true-T _ y) in absurd (omega arith)
    restores-by true false true x y out h =
        let k = dst-kept RAX _ [] _ x (popped-kept RDX _ (RAX ∷ []) g' refl h) in
        (h.rsp, done _ _ k back (rw (y, p.rsp, eqb→eq d RAX (true-T _ x)) out))
    restores-by true false false x y out h =
        let moved = moved-kept _ (g' RDX % 2 ^ 64) still g' h in
        let k = dst-kept RAX _ [] _ x (popped-kept RDX _ (RAX ∷ []) _ refl moved) in
        (moved.rsp, done _ _ k back (rw (y, p.rsp, eqb-true d d refl) (omega (arith, out))))
    restores-by false true true x y out h =
        let moved = moved-kept _ (g' RAX % 2 ^ 64) (RAX ∷ []) g' (dst-kept RDX _ (RAX ∷ []) g' y h) in
        let k = popped-kept RAX _ [] _ refl moved in
        (moved.rsp, done _ _ k back (rw (x, p.rsp, eqb-true d d refl) (omega (arith, out))))
    restores-by false true false x y out h =
        let k = popped-kept RAX _ [] _ refl (dst-kept RDX _ (RAX ∷ []) g' y h) in
        (h.rsp, done _ _ k back (rw (x, p.rsp, eqb→eq d RDX (true-T _ y)) out))
    restores-by false false true x y out h =
        let moved = moved-kept _ (g' RAX % 2 ^ 64) (RAX ∷ []) _ (popped-kept RDX _ (RAX ∷ []) g' refl h) in
        let k = popped-kept RAX _ [] _ refl moved in
        (h.rsp, (moved.rsp ∙ back-once, done _ _ k (ap up back-once ∙ back) (rw (x, p.rsp, eqb-true d d refl) (omega (arith, out)))))
    restores-by false false false x y out h =
        let moved = moved-kept _ (g' RDX % 2 ^ 64) still g' h in
        let once = popped-kept RDX _ (RAX ∷ []) _ refl moved in
        let k = popped-kept RAX _ [] _ refl once in
        (moved.rsp, (once.rsp ∙ back-once, done _ _ k (ap up back-once ∙ back) (rw (x, p.rsp, y, eqb-true d d refl) (omega (arith, out)))))

    pub restoring : (t : Bool) → g' (pick t RAX RDX) ≡ v → Kept g d (lowered start (on_stack (eqb d RAX) (eqb d RDX))) still g'
        → Wp start (Writes slot g d v) (restored d RDX (not t) ++ restored d RAX t) 0 (on_stack (eqb d RAX) (eqb d RDX)) g' f
    restoring t out h = restores-by (eqb d RAX) (eqb d RDX) t refl refl out h
