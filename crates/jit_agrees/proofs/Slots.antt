-- Every kind of slot to which RFC 9669 gives a meaning by registers alone: its list of instructions in standard mode, compact or not, does what
-- the slot says.
use mathlib.Core.Path.{◌≡◌, refl, ap, sym, ◌∙◌, subst}
use mathlib.Core.Logic.{◌≢◌}
use mathlib.Core.Bool.{Bool, true, false, not, ◌&&◌}
use mathlib.Core.List.{List, [], ◌∷◌}
use Prim.Native.Nat.{ℕ, ◌%◌, ◌^◌, ◌<◌}
use native.Mathlib.Omega.{arith}
use lib.Bits.{and_mask}
use lib.Dec.{T, eqb, eqb→eq}
use lib.ListN.{get_or}
use Rattle.base.specs.Pick.{pick}
use Rattle.base.proofs.Tests.{true-T, and_l, and_r, eqb-true}
use Rattle.base.specs.declared.Width.{Width}
use Rattle.base.specs.declared.Width.TheVariants.{W32, W64}
use Rattle.ebpf.specs.declared.insn.Insn.{Insn}
use Rattle.ebpf.specs.declared.kind.Source.{Source}
use Rattle.ebpf.specs.declared.kind.Source.TheVariants.{Imm, Reg}
use Rattle.ebpf.specs.declared.kind.AluOp.{AluOp}
use Rattle.ebpf.specs.declared.kind.AluOp.TheVariants.{Add, Sub, Or, And, Xor}
use Rattle.ebpf.specs.declared.kind.ShiftOp.{ShiftOp}
use Rattle.ebpf.specs.declared.kind.MulOp.{MulOp}
use Rattle.ebpf.specs.declared.kind.MulOp.TheVariants.{Mul, Div, Mod}
use Rattle.ebpf.specs.declared.kind.Condition.{Condition}
use Rattle.ebpf.specs.declared.kind.Condition.TheVariants.{Jeq, Jgt, Jge, Jset, Jne, Jsgt, Jsge, Jlt, Jle, Jslt, Jsle}
use Rattle.ebpf.specs.declared.kind.Kind.{Kind}
use Rattle.ebpf.specs.declared.kind.Kind.TheVariants.{LdAbs, LdInd, LdDwImm, LdReg, StImm, StReg, Alu, Shift, Neg, MulDivMod, Mov, Le, Be, Ja, Jump, Call, Exit}
use Rattle.x86.specs.Registers.{RCX, RSP}
use Rattle.x86.specs.Instr.{op, alu_imm, unary, MOV, NEG}
use Rattle.jit.specs.declared.Mode.{Mode}
use Rattle.jit.specs.Constants.{loaded}
use Rattle.jit.specs.MulDivMod.{Code, computed, mul_div_mod_imm, mul_div_mod_reg}
use Rattle.jit.specs.Slots.{reg_of, target_of, alu_of, cond_of, test_of, truncated, alu_code, shift_code, mov_code, jump_code, swap, slot_code}
use Rattle.jit.specs.Translation.{swap_bits}
use Rattle.x86_machine.specs.Machine.{Regs, bits, rd, put, write, Status, result, extended, alu_writes, alu_status, holds, kept_above16, rolled, swapped}
use Rattle.x86_machine.proofs.MachineWords.{rd-lt}
use Rattle.jit_safety.proofs.Facts.{not-false}
use Rattle.jit_safety.proofs.Checked.{register}
use Rattle.ebpf_meaning.specs.Values.{cut, immediate, alu_value, shift_value, mul_value, neg_value, le_value, met}
use Rattle.ebpf_meaning.specs.Step.{dst_of, src_of, Act, writes, branches, other, act}
use Rattle.jit_agrees.specs.Agrees.{Mapped}
use Rattle.jit_agrees.proofs.Arithmetic.{alu-value, shift-value, count-reg, count-imm, cut-64, swap-16, swap_32, swap_64, condition}
use Rattle.ebpf_meaning.proofs.MeaningLaws.{immediate-lt}
use Rattle.jit_agrees.proofs.Lists.{Way, falls, jumps, Wp, mono, loads}
use Rattle.jit_agrees.proofs.Restoring.{Wrote, Writes, Apart, wrote-from}
use Rattle.jit_agrees.proofs.Dividing.{mul-reg, div-reg, mod-reg, imm-wp, imm-some, by-nonzero}

-- A register of the program is neither RCX nor RSP.
apart-test : (r : ℕ) → Bool
apart-test r = not (eqb r RCX) && (not (eqb r RSP) && not (eqb RSP r))

pub apart : (n : ℕ) → Apart (reg_of n)
unfolding apart-test
apart n =
    let r = reg_of n in
    let a = not (eqb r RCX) in
    let b = not (eqb r RSP) in
    let c = not (eqb RSP r) in
    let t : T (apart-test r) = register apart-test tt n in
    record {
      rcx = not-false _ (and_l a (b && c) t);
      rsp = not-false _ (and_l b c (and_r a (b && c) t));
      psr = not-false _ (and_r b c (and_r a (b && c) t));
    }

-- what is wanted of a slot's list: what its act says
abbrev pub Fulfils : (slot : ℕ) → Regs → (d : ℕ) → Act → Way → Regs → Type 0
Fulfils slot g d (writes v) e g' = Writes slot g d v e g'
Fulfils slot g d (branches t x) e g' = (e ≡ pick t (jumps (target_of slot x)) falls) × (g' ≡ g)
Fulfils slot g d other e g' = ⊥

alu_sets : (o : AluOp) (d v : ℕ) → alu_writes (alu_of o) d v ≡ write d v ∷ []
alu_sets Add d v = refl
alu_sets Sub d v = refl
alu_sets Or d v = refl
alu_sets And d v = refl
alu_sets Xor d v = refl

test-sets : (c : Condition) (d v : ℕ) → alu_writes (test_of c) d v ≡ []
test-sets Jeq d v = refl
test-sets Jgt d v = refl
test-sets Jge d v = refl
test-sets Jset d v = refl
test-sets Jne d v = refl
test-sets Jsgt d v = refl
test-sets Jsge d v = refl
test-sets Jlt d v = refl
test-sets Jle d v = refl
test-sets Jslt d v = refl
test-sets Jsle d v = refl

-- standard mode, compact or not
abbrev pub standard_with : (compact : Bool) → Mode
standard_with c = record { standard = true; compact = c }

module _ (compact : Bool) (slot : ℕ) (small : slot < 2 ^ 32) (i : Insn) (imm32 : i.imm < 2 ^ 32) (dst11 : i.dst < 11) (src11 : i.src < 11)
    (r : List ℕ) (g : Regs) (m : Mapped r g) where
  abbrev start : ℕ
  start = g RSP

  abbrev mode : Mode
  mode = standard_with compact

  abbrev d : ℕ
  d = reg_of i.dst

  abbrev s : ℕ
  s = reg_of i.src

  abbrev Want : Act → Way → Regs → Type 0
  Want a = Fulfils slot g d a

  reads : (w : Width) (k : ℕ) → k < 11 → rd w g (reg_of k) ≡ cut w (get_or r k 0)
  unfolding rd
  reads w k h = rw (m.each k h)

  one : (v x : ℕ) → x ≡ v → Wrote g d v (put g d x)
  one v x e = record { here = rw (eqb-true d d refl) e; others = λ m x y z. rw z; stack = rw (apart i.dst).psr }

  -- ADD, SUB, OR, AND, XOR
  alu-does : (o : AluOp) (w : Width) (x : Source) (f : Status) → Wp start (Want (act (Alu o w x) i r)) (alu_code o w x i) 0 [] g f
  alu-does o w Imm f =
      let value = alu-value o w (rd w g d) (extended w i.imm) in
      rw (alu_sets o d (result (alu_of o) w (rd w g d) (extended w i.imm)))
      (tt, one _ _ (value ∙ ap (λ (x : ℕ). alu_value o w x (immediate w i.imm)) (reads w i.dst dst11)))
  alu-does o w Reg f =
      rw (alu_sets o d (result (alu_of o) w (rd w g d) (rd w g s)))
      (tt, one _ _ (alu-value o w (rd w g d) (rd w g s) ∙ rw (reads w i.dst dst11, reads w i.src src11)))

  -- shifts
  shift-does : (o : ShiftOp) (w : Width) (x : Source) (f : Status) → Wp start (Want (act (Shift o w x) i r)) (shift_code o w x i) 0 [] g f
  unfolding rd result
  shift-does o w Imm f =
      let value = shift-value o w (rd w g d) (i.imm % 256) (immediate w i.imm) (count-imm w i.imm) in
      λ f'. (tt, one _ _ (value ∙ ap (λ (x : ℕ). shift_value o w x (immediate w i.imm)) (reads w i.dst dst11)))
  shift-does o w Reg f =
      let value = shift-value o w (rd w g d) (g s % 2 ^ 64 % 2 ^ 8) (rd w g s) (count-reg w (g s)) in
      λ f'. (
        tt,
        record {
          here = rw (eqb-true d d refl, (apart i.dst).rcx) (value ∙ rw (m.each i.dst dst11, m.each i.src src11));
          others = λ m x y z. rw (z, x);
          stack = rw (apart i.dst).psr;
        },
      )

  neg_does : (w : Width) (f : Status) → Wp start (Want (act (Neg w) i r)) (op (unary NEG w d) ∷ []) 0 [] g f
  unfolding neg_value
  neg_does w f = (refl, λ f'. (tt, one _ _ (rw (reads w i.dst dst11))))

  mov-does : (w : Width) (x : Source) (f : Status) → Wp start (Want (act (Mov w x) i r)) (mov_code mode w x i) 0 [] g f
  unfolding result
  mov-does w Imm f = loads start (Want (act (Mov w Imm) i r)) mode w d i.imm [] [] g f (tt, one _ _ refl)
  mov-does w Reg f = (tt, one _ _ (reads w i.src src11))

  -- MUL, DIV, MOD
  half : (x : ℕ) → x % 2 ^ 32 % 2 ^ 32 ≡ x % 2 ^ 32
  half x = omega arith

  -- the upper half of dst cleared before MOD at 32 bits
  abbrev h : Regs
  h = put g d (g d % 2 ^ 32)

  halved : (n : ℕ) → rd W32 h n ≡ rd W32 g n
  unfolding rd
  halved n = by (eqb n d) refl
    where
      by : (t : Bool) → eqb n d ≡ t → pick t (g d % 2 ^ 32) (g n) % 2 ^ 32 ≡ g n % 2 ^ 32
      by true e = rw (eqb→eq n d (true-T _ e)) (half (g d))
      by false e = refl

  h-words : (n : ℕ) → h n < 2 ^ 64
  h-words n = by (eqb n d)
    where
      by : (t : Bool) → pick t (g d % 2 ^ 32) (g n) < 2 ^ 64
      by true = omega arith
      by false = m.words n

  h-rsp : h RSP ≡ start
  h-rsp = rw (apart i.dst).psr

  h-whole : rd W32 h d ≡ h d
  unfolding rd
  h-whole = rw (eqb-true d d refl) (half (g d))

  whole : rd W64 g d ≡ g d
  unfolding rd
  whole = omega (arith, m.words d)

  abbrev Value : MulOp → Width → Source → Way → Regs → Type 0
  Value o w x = Want (act (MulDivMod o w x) i r)

  -- the value in the RFC's words, and the list begun at h or at g
  since : (g₁ : Regs) → ((n : ℕ) → eqb n d ≡ false → g₁ n ≡ g n) → (u v : ℕ) → u ≡ v → (c : Code) (f : Status)
      → Wp start (Writes slot g₁ d u) c 0 [] g₁ f → Wp start (Writes slot g d v) c 0 [] g₁ f
  since g₁ same u v e c f =
      mono start (Writes slot g₁ d u) (Writes slot g d v)
      (λ w g' x.
      let wrote = subst (λ (u : ℕ). Wrote g₁ d u g') e x.1 in
      (x.0, wrote-from g g₁ d v (λ n a b. same n b) (same RSP (apart i.dst).psr) g' wrote))
      c 0 [] g₁ f

  abbrev Same : Regs → MulOp → Width → Source → Type 0
  Same g₁ o w Imm = mul_value o w (rd w g₁ d) (immediate w i.imm) ≡ mul_value o w (dst_of w i r) (src_of w Imm i r)
  Same g₁ o w Reg = mul_value o w (rd w g₁ d) (rd w g₁ s) ≡ mul_value o w (dst_of w i r) (src_of w Reg i r)

  same-g : (o : MulOp) (w : Width) (x : Source) → Same g o w x
  same-g o w Imm = rw (reads w i.dst dst11)
  same-g o w Reg = rw (reads w i.dst dst11, reads w i.src src11)

  same-h : Same h Mod W32 Reg
  same-h = rw (halved d, halved s, reads W32 i.dst dst11, reads W32 i.src src11)

  abbrev q : Apart s
  q = apart i.src

  abbrev p : Apart d
  p = apart i.dst

  by-imm : (o : MulOp) (w : Width) → (o ≡ Mod → rd w g d ≡ g d) → (f : Status) → Wp start (Value o w Imm) (mul_div_mod_imm mode o w d i.imm) 0 [] g f
  by-imm o w e f =
      since g (λ n a. refl) _ _ (same-g o w Imm) (mul_div_mod_imm mode o w d i.imm) f
      (imm-wp mode slot start g refl m.words w d i.imm p imm32 o e f)

  mul-does : (value : ℕ) (o : MulOp) (w : Width) (x : Source) (f : Status)
      → Wp start (Value o w x) (slot_code mode (MulDivMod o w x) slot i value) 0 [] g f
  unfolding rd result mul_value
  mul-does value Mul w Imm f = by-imm Mul w (λ e. let z : ◌≡◌ {A = ℕ} 0 1 = cc in absurd (omega arith)) f
  mul-does value Mul w Reg f =
      since g (λ n a. refl) _ _ (same-g Mul w Reg) (mul_div_mod_reg mode Mul slot w s d) f (mul-reg mode slot small start g refl m.words w s d q p f)
  mul-does value Div w Imm f = by-imm Div w (λ e. let z : ◌≡◌ {A = ℕ} 0 1 = cc in absurd (omega arith)) f
  mul-does value Div w Reg f =
      since g (λ n a. refl) _ _ (same-g Div w Reg) (mul_div_mod_reg mode Div slot w s d) f (div-reg mode slot small start g refl m.words w s d q p f)
  mul-does value Mod W64 Imm f = by-imm Mod W64 (λ e. whole) f
  mul-does value Mod W64 Reg f =
      since g (λ n a. refl) _ _ (same-g Mod W64 Reg) (mul_div_mod_reg mode Mod slot W64 s d) f
      (mod-reg mode slot small start g refl m.words W64 s d q p whole f)
  mul-does value Mod W32 Imm f = by (eqb i.imm 0) refl
    where
      by : (t : Bool) → eqb i.imm 0 ≡ t → Wp start (Value Mod W32 Imm) (slot_code mode (MulDivMod Mod W32 Imm) slot i value) 0 [] g f
      by true e = rw e (tt, one _ _ (rw (eqb→eq i.imm 0 (true-T _ e), m.each i.dst dst11)))
      by false e =
          rw e
          (since g (λ n a. refl) _ _ (same-g Mod W32 Imm) (computed Mod W32 (op (loaded mode (alu_imm MOV W64 RCX i.imm)) ∷ []) d) f
          (by-nonzero mode slot start g refl m.words W32 d i.imm p imm32 Mod (imm-some mode slot start g refl m.words W32 d i.imm p imm32 e) f))
  mul-does value Mod W32 Reg f =
      since h (λ n a. rw a) _ _ same-h (mul_div_mod_reg mode Mod slot W32 s d) f (mod-reg mode slot small start h h-rsp h-words W32 s d q p h-whole f)

  -- byte swaps: 16, 32 or 64
  module _ (fine : T (swap_bits i.imm)) where
    le-does : (f : Status) → Wp start (Want (act Le i r)) (truncated d i.imm) 0 [] g f
    unfolding rd result le_value
    le-does f = by (eqb i.imm 16) (eqb i.imm 32) refl refl
      where
        by : (a b : Bool) → eqb i.imm 16 ≡ a → eqb i.imm 32 ≡ b → Wp start (Want (act Le i r)) (truncated d i.imm) 0 [] g f
        by true b e x =
            rw (eqb→eq i.imm 16 (true-T _ e))
            (tt, one _ _ (and_mask (g d % 2 ^ 32) 16 ∙ rw (m.each i.dst dst11) (omega arith)))
        by false true e x = rw (eqb→eq i.imm 32 (true-T _ x)) (tt, one _ _ (rw (m.each i.dst dst11) (omega arith)))
        by false false e x =
            let y : i.imm ≡ 64 = eqb→eq i.imm 64 (rw (e, x) at fine) in
            let here = m.each i.dst dst11 in
            rw y (tt, record { here = here ∙ omega (arith, m.words d, here); others = λ m x y z. refl; stack = refl })

    be-does : (f : Status) → Wp start (Want (act Be i r)) (swap d i.imm) 0 [] g f
    unfolding rd result
    be-does f = by (eqb i.imm 16) (eqb i.imm 32) refl refl
      where
        by : (a b : Bool) → eqb i.imm 16 ≡ a → eqb i.imm 32 ≡ b → Wp start (Want (act Be i r)) (swap d i.imm) 0 [] g f
        by true b e x =
            rw (eqb→eq i.imm 16 (true-T _ e))
            (λ f'. (
              tt,
              let low = and_mask (kept_above16 (g d % 2 ^ 64) (rolled (g d % 2 ^ 64) 8) % 2 ^ 32) 16 in
                  record {
                    here = rw (eqb-true d d refl) (low ∙ swap-16 (g d % 2 ^ 64) ∙ rw (m.each i.dst dst11));
                    others = λ m x y z. rw z;
                    stack = rw (apart i.dst).psr;
                  },
            ))
        by false true e x =
            rw (eqb→eq i.imm 32 (true-T _ x))
            (tt, one _ _ (ap (swapped 4) (sym (cut-64 W32 (g d))) ∙ swap_32 (g d % 2 ^ 64) ∙ rw (m.each i.dst dst11)))
        by false false e x =
            let y : i.imm ≡ 64 = eqb→eq i.imm 64 (rw (e, x) at fine) in
            rw y (tt, one _ _ (swap_64 (g d % 2 ^ 64) ∙ rw (m.each i.dst dst11)))

  -- conditional jumps
  module _ (c : Condition) (w : Width) (f : Status) where
    taken : (x : Source) (b : ℕ) → b < 2 ^ bits w → b ≡ src_of w x i r
        → holds (cond_of c) (alu_status (test_of c) w (rd w g d) b f) ≡ met c w (dst_of w i r) (src_of w x i r)
    taken x b l e =
        condition (rd w g d) b w (rd-lt w g d) l c f ∙ rw (reads w i.dst dst11, e)

  jump-does : (c : Condition) (w : Width) (x : Source) (f : Status) → Wp start (Want (act (Jump c w x) i r)) (jump_code c w x slot i) 0 [] g f
  jump-does c w Imm f =
      let y = taken c w f Imm (extended w i.imm) (immediate-lt w i.imm imm32) refl in
      rw (test-sets c d (result (test_of c) w (rd w g d) (extended w i.imm))) (λ e. (rw (sym y ∙ e), refl), λ e. (rw (sym y ∙ e), refl))
  jump-does c w Reg f =
      let y = taken c w f Reg (rd w g s) (rd-lt w g s) (reads w i.src src11) in
      rw (test-sets c d (result (test_of c) w (rd w g d) (rd w g s))) (λ e. (rw (sym y ∙ e), refl), λ e. (rw (sym y ∙ e), refl))

  -- ALL KINDS that have a meaning by registers alone
  pub fulfils : (k : Kind) (value : ℕ) → act k i r ≢ other → (k ≡ Le → T (swap_bits i.imm)) → (k ≡ Be → T (swap_bits i.imm)) → (f : Status)
      → Wp start (Want (act k i r)) (slot_code mode k slot i value) 0 [] g f
  fulfils (LdAbs z) value a le be f = absurd (a refl)
  fulfils (LdInd z) value a le be f = absurd (a refl)
  fulfils LdDwImm value a le be f = absurd (a refl)
  fulfils (LdReg z) value a le be f = absurd (a refl)
  fulfils (StImm z) value a le be f = absurd (a refl)
  fulfils (StReg z) value a le be f = absurd (a refl)
  fulfils (Alu o w x) value a le be f = alu-does o w x f
  fulfils (Shift o w x) value a le be f = shift-does o w x f
  fulfils (Neg w) value a le be f = neg_does w f
  fulfils (MulDivMod o w x) value a le be f = mul-does value o w x f
  fulfils (Mov w x) value a le be f = mov-does w x f
  fulfils Le value a le be f = le-does (le refl) f
  fulfils Be value a le be f = be-does (be refl) f
  fulfils Ja value a le be f = (refl, refl)
  fulfils (Jump c w x) value a le be f = jump-does c w x f
  fulfils Call value a le be f = absurd (a refl)
  fulfils Exit value a le be f = absurd (a refl)
