-- Multiplication, division and modulo on the processor: the second operand is brought to RCX, dst to RAX, and what is left is Restoring.antt's;
-- by a register, whose test for zero comes first, and by an immediate.
use mathlib.Core.Path.{◌≡◌, refl, ap, sym, ◌∙◌, subst}
use mathlib.Core.Logic.{◌≢◌}
use mathlib.Core.Bool.{Bool, true, false, not}
use mathlib.Core.List.{List, [], ◌∷◌, ◌++◌}
use Prim.Native.Nat.{ℕ, ◌+◌, ◌-◌, ◌/◌, ◌%◌, ◌^◌, ◌<◌}
use native.Mathlib.Omega.{arith}
use native.Mathlib.Nat.{div-le_self, mul-zero}
use lib.Bits.{xor_self, and_self}
use lib.Dec.{ltb, eqb, eqb→eq}
use Rattle.base.specs.Pick.{pick}
use Rattle.base.proofs.Tests.{true-T, eqb-true, eqb-false, leb-false, or-false-l, or-false-r}
use Rattle.jit_safety.proofs.Facts.{memb}
use Rattle.base.specs.declared.Width.{Width}
use Rattle.base.specs.declared.Width.TheVariants.{W32, W64}
use Rattle.ebpf.specs.declared.kind.MulOp.{MulOp}
use Rattle.ebpf.specs.declared.kind.MulOp.TheVariants.{Mul, Div, Mod}
use Rattle.x86.specs.Registers.{RAX, RCX, RDX, RSP}
use Rattle.x86.specs.Instr.{Plain, push, alu, alu_imm, unary, op, jump, jcc, MOV, XOR, TEST, DIV, JE, JNE}
use Rattle.x86.specs.Code.{near, to, size}
use Rattle.jit.specs.declared.Mode.{Mode}
use Rattle.jit.specs.Constants.{loaded}
use Rattle.jit.specs.MulDivMod as jit
use Rattle.jit.specs.MulDivMod.{Code, div_by_zero, operate, from_rax, restores, computed, mul_div_mod_reg, mul_div_mod_imm}
use Rattle.x86_machine.specs.Machine.{Regs, bits, extended, rd, put, Status, result, divides, dividend, down}
use Rattle.code.proofs.LandingLaws.{never}
use Rattle.ebpf_meaning.specs.Values.{immediate, mul_value}
use Rattle.ebpf_meaning.proofs.MeaningLaws.{cut-lt, immediate-lt, mul-lt}
use Rattle.jit_agrees.specs.Runs.{lowered}
use Rattle.jit_agrees.proofs.Arithmetic.{cut-64, cut_imm, mod-zero, lt-word}
use Rattle.jit_agrees.proofs.Lists.{Way, Wp, mono, loads}
use Rattle.jit_agrees.proofs.Restoring.{Writes, Apart, wrote-from, on_stack, restoring}

-- Behind the operation: the result is in RAX or RDX, and nothing else has changed.
pub record Operated (o : MulOp) (w : Width) (a b : ℕ) (g g' : Regs) : Type 0 where
  pub out : g' (pick (from_rax o) RAX RDX) ≡ mul_value o w a b
  pub rest : (m : ℕ) → eqb m RAX ≡ false → eqb m RDX ≡ false → g' m ≡ g m

-- a divisor is not 0
abbrev pub Fits : MulOp → ℕ → Type 0
Fits Mul b = Unit {0}
Fits Div b = b ≢ 0
Fits Mod b = b ≢ 0

module _ (start : ℕ) (Q : Way → Regs → Type 0) (w : Width) (c : Code) (k : List ℕ) (g : Regs) (f : Status) (a b : ℕ) (ha : rd w g RAX ≡ a)
    (hb : rd w g RCX ≡ b) where
  mul-operated : ((g' : Regs) (f : Status) → Operated Mul w a b g g' → Wp start Q c 0 k g' f) → Wp start Q (operate Mul w ++ c) 0 k g f
  unfolding mul_value
  mul-operated h = (refl, λ f'. h _ f' (record { out = rw (ha, hb); rest = λ m p q. rw (p, q) }))

  -- DIV, its upper half cleared before it
  cleared : dividend w (put g RDX 0) ≡ a
  unfolding rd
  cleared = rw (mod-zero w) (omega (arith, ha))

  no-fault : b ≢ 0 → divides w (put g RDX 0) RCX ≡ false
  unfolding divides rd
  no-fault n =
      rw (cleared, hb, eqb-false b 0 n, leb-false (2 ^ bits w) (a / b) (omega (arith, div-le_self a b, ha, cut-lt w (g RAX))))

  div-operated : (o : MulOp) → (from_rax o ≡ true → mul_value o w a b ≡ a / b) → (from_rax o ≡ false → mul_value o w a b ≡ a % b) → b ≢ 0
      → ((g' : Regs) (f : Status) → Operated o w a b g g' → Wp start Q c 0 k g' f)
      → Wp start Q (op (alu XOR W32 RDX RDX) ∷ op (unary DIV w RCX) ∷ c) 0 k g f
  unfolding result rd
  div-operated o x y n h =
      rw (xor_self (rd W32 g RDX))
      (no-fault n, λ f'. h _ f' (record { out = by (from_rax o) x y; rest = λ m p q. rw (p, q) }))
    where
      clear : Regs
      clear = put g RDX 0

      quotient : ℕ
      quotient = dividend w clear / rd w clear RCX

      remainder : ℕ
      remainder = dividend w clear % rd w clear RCX

      by : (t : Bool) → (t ≡ true → mul_value o w a b ≡ a / b) → (t ≡ false → mul_value o w a b ≡ a % b)
          → put (put clear RAX quotient) RDX remainder (pick t RAX RDX) ≡ mul_value o w a b
      by true x y = rw (x refl, cleared) (ap (λ (z : ℕ). a / z) hb)
      by false x y = rw (y refl, cleared) (ap (λ (z : ℕ). a % z) hb)

  operated : (o : MulOp) → Fits o b → ((g' : Regs) (f : Status) → Operated o w a b g g' → Wp start Q c 0 k g' f) → Wp start Q (operate o w ++ c) 0 k g f
  unfolding mul_value
  operated Mul n h = mul-operated h
  operated Div n h = div-operated Div (λ e. rw (eqb-false b 0 n)) (λ e. never e) n h
  operated Mod n h = div-operated Mod (λ e. never (sym e)) (λ e. rw (eqb-false b 0 n)) n h

-- The whole: the second operand, b at the operation's width, is brought to RCX, and the rest is the same for a register and an immediate.
-- RSP begins at `start`.
module _ (slot start : ℕ) (g : Regs) (begun : g RSP ≡ start) (words : (r : ℕ) → g r < 2 ^ 64) (o : MulOp) (w : Width) (d : ℕ) (p : Apart d)
    (operand : Plain) (b : ℕ) (fit : Fits o b) where
  abbrev a : ℕ
  a = rd w g d

  abbrev v : ℕ
  v = mul_value o w a b

  abbrev Want : Way → Regs → Type 0
  Want = Writes slot g d v

  -- the operand's instruction brings b to RCX, and leaves all else
  abbrev Brings : Type 0
  Brings = (k : List ℕ) (g₁ : Regs) (f : Status) → ((m : ℕ) → eqb m RSP ≡ false → g₁ m ≡ g m)
      → ((g₂ : Regs) (f : Status) → g₂ RCX % 2 ^ bits w ≡ b → ((m : ℕ) → eqb m RCX ≡ false → g₂ m ≡ g₁ m)
      → Wp start Want (jit.operated o w d) 0 k g₂ f)
      → Wp start Want (op operand ∷ jit.operated o w d) 0 k g₁ f

  v-word : v < 2 ^ 64
  unfolding rd
  v-word = lt-word w v (mul-lt o w a b (cut-lt w (g d)))

  -- from the operand on
  onward : (k : List ℕ) → on_stack slot start g begun words v v-word d p (eqb d RAX) (eqb d RDX) ≡ k
      → (g₂ : Regs) (f : Status) → ((m : ℕ) → eqb m RCX ≡ false → eqb m RSP ≡ false → g₂ m ≡ g m) → g₂ RCX % 2 ^ bits w ≡ b
      → g₂ RSP ≡ lowered start k → Wp start Want (jit.operated o w d) 0 k g₂ f
  unfolding rd result
  onward k saved g₂ f same y z =
      let x : g₂ d ≡ g d = same d p.rcx p.rsp in
      let rsp = z ∙ ap (λ (k : List ℕ). lowered start k) (sym saved) in
      operated start Want w (restores o d) k (put g₂ RAX (g₂ d % 2 ^ 64)) f a b (cut-64 w (g₂ d) ∙ rw x) y o fit
      (λ g' f r. subst (λ (k : List ℕ). Wp start Want (restores o d) 0 k g' f) saved
      (restoring slot start g begun words v v-word d p g' f (from_rax o) r.out
      (record { others = λ m x y z w. kept g' m r x y w; rsp = r.rest RSP refl refl ∙ rsp })))
    where
      kept : (g' : Regs) (m : ℕ) → Operated o w a b (put g₂ RAX (g₂ d % 2 ^ 64)) g' → eqb m RCX ≡ false → eqb m RSP ≡ false
          → memb m (RDX ∷ RAX ∷ []) ≡ false → g' m ≡ g m
      kept g' m r x y w =
          let not-rdx = or-false-l (eqb m RDX) _ w in
          let not-rax = or-false-l (eqb m RAX) _ (or-false-r (eqb m RDX) _ w) in
          r.rest m not-rax not-rdx ∙ rw not-rax (same m x y)

  -- RSP behind one push
  once : down (g RSP) ≡ down start
  once = rw begun

  pub computes : Brings → (f : Status) → Wp start Want (computed o w (op operand ∷ []) d) 0 [] g f
  computes brings f = by (eqb d RAX) (eqb d RDX) refl refl
    where
      by : (s t : Bool) → eqb d RAX ≡ s → eqb d RDX ≡ t
          → Wp start Want ((pick s [] (op (push RAX) ∷ []) ++ pick t [] (op (push RDX) ∷ [])) ++ (op operand ∷ jit.operated o w d)) 0 [] g f
      by true true x y = let z : RAX ≡ RDX = sym (eqb→eq d RAX (true-T _ x)) ∙ eqb→eq d RDX (true-T _ y) in absurd (omega arith)
      by true false x y = (
        begun,
        (
          omega arith,
          brings (g RDX ∷ []) _ f (λ m e. rw e) (λ g₂ f z h. onward _ (rw x) g₂ f (λ m e r. h m e ∙ rw r) z (h RSP refl ∙ once)),
        ),
      )
      by false true x y = (
        begun,
        (
          omega arith,
          brings (g RAX ∷ []) _ f (λ m e. rw e) (λ g₂ f z h. onward _ (rw (x, y)) g₂ f (λ m e r. h m e ∙ rw r) z (h RSP refl ∙ once)),
        ),
      )
      by false false x y = (
        begun,
        (
          omega arith,
          (
            once,
            (
              omega arith,
              brings (g RDX ∷ g RAX ∷ []) _ f (λ m e. rw e)
                  (λ g₂ f z h. onward _ (rw (x, y)) g₂ f (λ m e r. h m e ∙ rw r) z (h RSP refl ∙ rw once)),
            ),
          ),
        ),
      )

-- The second operand: a register, or an immediate.
module _ (mode : Mode) (slot start : ℕ) (g : Regs) (begun : g RSP ≡ start) (words : (r : ℕ) → g r < 2 ^ 64) (o : MulOp) (w : Width) (d : ℕ)
    (p : Apart d) where
  reg-brings : (s : ℕ) → Apart s → (fit : Fits o (rd w g s)) → Brings slot start g begun words o w d p (alu MOV W64 s RCX) (rd w g s) fit
  unfolding rd result
  reg-brings s q fit k g₁ f same h = h (put g₁ RCX (g₁ s % 2 ^ 64)) f (cut-64 w (g₁ s) ∙ rw (same s q.rsp)) (λ m e. rw e)

  imm-brings : (x : ℕ) → x < 2 ^ 32 → (fit : Fits o (immediate w x))
      → Brings slot start g begun words o w d p (loaded mode (alu_imm MOV W64 RCX x)) (immediate w x) fit
  unfolding rd result
  imm-brings x small fit k g₁ f same h =
      loads start (Writes slot g d (mul_value o w (rd w g d) (immediate w x))) mode W64 RCX x (jit.operated o w d) k g₁ f (h (put g₁ RCX (extended W64 x)) f (cut_imm w x small) (λ m e. rw e))

-- By a register: the slot's number goes to RCX, and the divisor is tested.
module _ (mode : Mode) (slot : ℕ) (small : slot < 2 ^ 32) (start : ℕ) (g : Regs) (begun : g RSP ≡ start) (words : (r : ℕ) → g r < 2 ^ 64)
    (w : Width) (s d : ℕ) (q : Apart s) (p : Apart d) where
  abbrev g₁ : Regs
  g₁ = put g RCX (extended W64 slot)

  abbrev Value : MulOp → Way → Regs → Type 0
  Value o = Writes slot g d (mul_value o w (rd w g d) (rd w g s))

  kept : (r : ℕ) → Apart r → rd w g₁ r ≡ rd w g r
  unfolding rd
  kept r h = rw h.rcx

  words₁ : (r : ℕ) → g₁ r < 2 ^ 64
  words₁ r = by (eqb r RCX)
    where
      by : (t : Bool) → pick t (extended W64 slot) (g r) < 2 ^ 64
      by true = immediate-lt W64 slot small
      by false = words r

  tests : eqb (result TEST w (rd w g₁ s) (rd w g₁ s)) 0 ≡ eqb (rd w g s) 0
  unfolding result
  tests = ap (λ (x : ℕ). eqb x 0) (and_self (rd w g₁ s) ∙ kept s q)

  back : (o : MulOp) (e : Way) (g' : Regs) → Writes slot g₁ d (mul_value o w (rd w g₁ d) (rd w g₁ s)) e g' → Value o e g'
  back o e g' h =
      (h.0, wrote-from g g₁ d (mul_value o w (rd w g d) (rd w g s)) (λ m x y. rw x) refl g' (rw (kept d p, kept s q) at h.1))

  from : (o : MulOp) → Fits o (rd w g₁ s) → (f : Status) → Wp start (Value o) (computed o w (op (alu MOV W64 s RCX) ∷ []) d) 0 [] g₁ f
  from o fit f =
      mono start (Writes slot g₁ d (mul_value o w (rd w g₁ d) (rd w g₁ s))) (Value o) (back o) (computed o w (op (alu MOV W64 s RCX) ∷ []) d) 0 [] g₁ f
      (computes slot start g₁ begun words₁ o w d p (alu MOV W64 s RCX) (rd w g₁ s) fit (reg-brings mode slot start g₁ begun words₁ o w d p s q fit) f)

  not-zero : (t : Bool) → eqb (rd w g s) 0 ≡ t → not t ≡ true → rd w g₁ s ≢ 0
  not-zero true e n z = never (sym n)
  not-zero false e n z = never (sym (eqb-true (rd w g s) 0 (sym (kept s q) ∙ z)) ∙ e)

  unnot : (t : Bool) → not t ≡ false → t ≡ true
  unnot true e = refl
  unnot false e = sym e

  pub mul-reg : (f : Status) → Wp start (Value Mul) (mul_div_mod_reg mode Mul slot w s d) 0 [] g f
  mul-reg f = computes slot start g begun words Mul w d p (alu MOV W64 s RCX) (rd w g s) tt (reg-brings mode slot start g begun words Mul w d p s q tt) f

  -- behind the load of the slot's number
  abbrev div_rest : Code
  div_rest =
      op (alu TEST w s s)
      ∷ jump (jcc JNE) (near (size (div_by_zero slot d)))
      ∷ (div_by_zero slot d ++ computed Div w (op (alu MOV W64 s RCX) ∷ []) d)

  abbrev mod_rest : Code
  mod_rest = op (alu TEST w s s) ∷ jump (jcc JE) (to (slot + 1)) ∷ computed Mod w (op (alu MOV W64 s RCX) ∷ []) d

  pub div-reg : (f : Status) → Wp start (Value Div) (mul_div_mod_reg mode Div slot w s d) 0 [] g f
  unfolding result mul_value
  div-reg f = loads start (Value Div) mode W64 RCX slot div_rest [] g f (
    λ e. (2, (refl, from Div (not-zero _ refl (ap not (sym tests) ∙ e)) _)),
    λ e. (
      refl,
      record {
        here = rw (eqb-true d d refl, xor_self (rd W32 g₁ d), sym tests ∙ unnot _ e);
        others = λ m x y z. rw (z, x);
        stack = rw p.psr;
      },
    ),
  )

  -- MOD by zero leaves dst: that is the RFC's value where dst has no more bits than the operation
  pub mod-reg : rd w g d ≡ g d → (f : Status) → Wp start (Value Mod) (mul_div_mod_reg mode Mod slot w s d) 0 [] g f
  unfolding result mul_value
  mod-reg whole f = loads start (Value Mod) mode W64 RCX slot mod_rest [] g f (
    λ e. (refl, record { here = rw (p.rcx, sym tests ∙ e) (sym whole); others = λ m x y z. rw x; stack = refl }),
    λ e. from Mod (not-zero _ refl (ap not (sym tests ∙ e))) _,
  )

-- By an immediate.
module _ (mode : Mode) (slot start : ℕ) (g : Regs) (begun : g RSP ≡ start) (words : (r : ℕ) → g r < 2 ^ 64) (w : Width) (d x : ℕ) (p : Apart d)
    (small : x < 2 ^ 32) where
  abbrev Product : MulOp → Way → Regs → Type 0
  Product o = Writes slot g d (mul_value o w (rd w g d) (immediate w x))

  pub imm-zero : eqb x 0 ≡ true → immediate w x ≡ 0
  imm-zero e = ap (immediate w) (eqb→eq x 0 (true-T _ e))

  pub imm-some : eqb x 0 ≡ false → immediate w x ≢ 0
  imm-some e = by w (ltb x (2 ^ 31)) refl (λ z. never (sym (eqb-true x 0 z) ∙ e))
    where
      by : (w : Width) (t : Bool) → ltb x (2 ^ 31) ≡ t → x ≢ 0 → pick t x (x + (2 ^ bits w - 2 ^ 32)) ≢ 0
      by W32 true q n z = n z
      by W64 true q n z = n z
      by W32 false q n z = omega arith
      by W64 false q n z = omega arith

  cleared-dst : (o : MulOp) → mul_value o w (rd w g d) (immediate w x) ≡ 0 → (f : Status) → Wp start (Product o) (op (alu XOR W32 d d) ∷ []) 0 [] g f
  unfolding result
  cleared-dst o e f = (tt, record { here = rw (eqb-true d d refl, e) (xor_self (rd W32 g d)); others = λ m x y z. rw z; stack = rw p.psr })

  abbrev load : Plain
  load = loaded mode (alu_imm MOV W64 RCX x)

  pub by-nonzero : (o : MulOp) → Fits o (immediate w x) → (f : Status) → Wp start (Product o) (computed o w (op load ∷ []) d) 0 [] g f
  by-nonzero o fit f = computes slot start g begun words o w d p load (immediate w x) fit (imm-brings mode slot start g begun words o w d p x small fit) f

  pub imm-wp : (o : MulOp) → (o ≡ Mod → rd w g d ≡ g d) → (f : Status) → Wp start (Product o) (mul_div_mod_imm mode o w d x) 0 [] g f
  unfolding mul_value
  imm-wp Mul whole f = by (eqb x 0) refl
    where
      by : (t : Bool) → eqb x 0 ≡ t → Wp start (Product Mul) (mul_div_mod_imm mode Mul w d x) 0 [] g f
      by true e = rw e (cleared-dst Mul (rw (imm-zero e, mul-zero (rd w g d)) (mod-zero w)) f)
      by false e = rw e (by-nonzero Mul tt f)
  imm-wp Div whole f = by (eqb x 0) refl
    where
      by : (t : Bool) → eqb x 0 ≡ t → Wp start (Product Div) (mul_div_mod_imm mode Div w d x) 0 [] g f
      by true e = rw e (cleared-dst Div (rw (imm-zero e)) f)
      by false e = rw e (by-nonzero Div (imm-some e) f)
  imm-wp Mod whole f = by (eqb x 0) refl
    where
      by : (t : Bool) → eqb x 0 ≡ t → Wp start (Product Mod) (mul_div_mod_imm mode Mod w d x) 0 [] g f
      by true e = rw e (tt, record { here = rw (imm-zero e) (sym (whole refl)); others = λ m x y z. refl; stack = refl })
      by false e = rw e (by-nonzero Mod (imm-some e) f)
