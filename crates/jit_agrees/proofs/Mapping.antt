-- REGISTER_MAP is one to one, so that what a slot writes is what the RFC's step writes, in the RFC's order; and any registers have their place.
use mathlib.Core.Path.{◌≡◌, refl, ap, sym, ◌∙◌}
use mathlib.Core.Bool.{Bool, true, false}
use mathlib.Core.List.{List, [], ◌∷◌}
use Prim.Native.Nat.{ℕ, ◌^◌, ◌<◌}
use native.Mathlib.Omega.{arith}
use lib.Dec.{eqb, eqb→eq}
use lib.ListN.{get_or, set, length-set}
use lib.Seq.{get_or-set_same, get_or-set_other}
use Rattle.base.specs.Table.{values}
use Rattle.base.proofs.Table.{agree}
use Rattle.base.proofs.Tests.{true-T, eqb-true, eqb-false}
use Rattle.ebpf_meaning.specs.Step.{Registers}
use Rattle.code.proofs.LandingLaws.{never}
use Rattle.jit.specs.Slots.{reg_of}
use Rattle.x86_machine.specs.Machine.{Regs}
use Rattle.jit_agrees.specs.Agrees.{Mapped}
use Rattle.jit_agrees.proofs.Restoring.{Wrote}
use Rattle.jit_agrees.proofs.Slots.{apart}

-- the program's register that a machine register holds; RCX, RSP, R10, R11 and R12 hold none, and 11 is none
abbrev pub unmapped : ℕ → ℕ
unmapped m = get_or (0 ∷ 11 ∷ 3 ∷ 6 ∷ 11 ∷ 10 ∷ 2 ∷ 1 ∷ 5 ∷ 4 ∷ 11 ∷ 11 ∷ 11 ∷ 7 ∷ 8 ∷ 9 ∷ []) m 11

pub mapped-back : (k : ℕ) → k < 11 → unmapped (reg_of k) ≡ k
unfolding reg_of
mapped-back k h = agree (λ k. unmapped (reg_of k)) (λ k. k) 11 refl k h

distinct : (j k : ℕ) → j < 11 → k < 11 → eqb j k ≡ false → eqb (reg_of j) (reg_of k) ≡ false
distinct j k h g e =
    eqb-false (reg_of j) (reg_of k)
    (λ z. let q : j ≡ k = sym (mapped-back j h) ∙ ap unmapped z ∙ mapped-back k g in never (sym (eqb-true j k q) ∙ e))

pub wrote-mapped : (r : List ℕ) (g g' : Regs) (d v : ℕ) → d < 11 → Mapped r g → Wrote g (reg_of d) v g' → ((m : ℕ) → g' m < 2 ^ 64)
    → Mapped (set r d v) g'
wrote-mapped r g g' d v h m w b = record { eleven = length-set r d v ∙ m.eleven; each = λ k l. by k l (eqb k d) refl; words = b }
  where
    by : (k : ℕ) → k < 11 → (t : Bool) → eqb k d ≡ t → g' (reg_of k) ≡ get_or (set r d v) k 0
    by k l true e = let q = eqb→eq k d (true-T _ e) in rw q (w.here ∙ sym (get_or-set_same r d v 0 (omega (arith, m.eleven))))
    by k l false e =
        w.others (reg_of k) (apart k).rcx (apart k).rsp (distinct k d l h e)
        ∙ m.each k l
        ∙ sym (get_or-set_other r d k v 0 (λ z. never (sym (eqb-true k d z) ∙ e)))

-- Every RFC machine's registers can be those of a processor, and whatever words a processor has in its registers are some RFC machine's.
pub mapped_in : (r : List ℕ) → Registers r → Mapped r (λ m. get_or r (unmapped m) 0)
mapped_in r h =
    record {
      eleven = h.eleven;
      each = λ k l. ap (λ (j : ℕ). get_or r j 0) (mapped-back k l);
      words = λ m. h.words (unmapped m);
    }

pub mapped-of : (g : Regs) → ((m : ℕ) → g m < 2 ^ 64) → Mapped (values (λ k. g (reg_of k)) 0 11) g
unfolding reg_of
mapped-of g words =
    record {
      eleven = refl;
      each = agree (λ k. g (reg_of k)) (λ k. get_or (values (λ k. g (reg_of k)) 0 11) k 0) 11 refl;
      words = words;
    }
