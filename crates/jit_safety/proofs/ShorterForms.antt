-- The shorter form of a constant's load (jit/specs/Constants.antt) does what the load does: it writes the same register with the same value,
-- leaves the flags, and neither faults nor touches memory. So it is for every instruction, since the others are their own.
use mathlib.Core.Path.{◌≡◌, ◌∙◌, refl, ap, sym}
use mathlib.Core.Bool.{Bool, true, false}
use mathlib.Core.List.{[], ◌∷◌}
use Prim.Native.Nat.{ℕ, ◌%◌, ◌^◌}
use native.Mathlib.Omega.{arith}
use lib.Dec.{ltb}
use borrow.Author.Tests.{ltb-true}
use Rattle.base.specs.Pick.{pick}
use Rattle.base.specs.declared.Width.{Width}
use Rattle.base.specs.declared.Width.TheVariants.{W32, W64}
use Rattle.x86.specs.Instr.{Alu, ADD, OR, AND, SUB, XOR, CMP, MOV, TEST}
use Rattle.x86.specs.Instr.{Plain, push, pop, alu, alu_imm, shift_imm, shift_cl, unary, mov_imm, rol16, bswap, load, store, store_imm}
use Rattle.x86_machine.specs.Machine.{Regs, Status, Input, write, extended, result, writes_of, status_of, faults_of, plain_touches}
use Rattle.jit.specs.Constants.{shorter}

-- p does what q does, from any registers and flags, whatever loads give
pub record Alike (p q : Plain) : Type 0 where
  pub writes : (g : Regs) (u : Input) → writes_of p g u ≡ writes_of q g u
  pub flags : (g : Regs) (f : Status) (u : Input) → status_of p g f u ≡ status_of q g f u
  pub faults : (g : Regs) → faults_of p g ≡ faults_of q g
  pub touches : plain_touches p ≡ plain_touches q

itself : (p : Plain) → Alike p p
itself p = record { writes = λ g u. refl; flags = λ g f u. refl; faults = λ g. refl; touches = refl }

-- C7 /0 of a number that is not negative
extended-load : (d x : ℕ) (t : Bool) → ltb x (2 ^ 31) ≡ t → Alike (pick t (mov_imm W32 d x) (alu_imm MOV W64 d x)) (alu_imm MOV W64 d x)
unfolding result
extended-load d x false e = itself (alu_imm MOV W64 d x)
extended-load d x true e =
    let low : x % 2 ^ 32 ≡ x = omega (arith, ltb-true x (2 ^ 31) e) in
    let whole : extended W64 x ≡ x = rw e in
    record { writes = λ g u. ap (λ (v : ℕ). write d v ∷ []) (low ∙ sym whole); flags = λ g f u. refl; faults = λ g. refl; touches = refl }

-- B8+r with eight bytes of a number that has four
whole-load : (d x : ℕ) (t : Bool) → ltb x (2 ^ 32) ≡ t → Alike (pick t (mov_imm W32 d x) (mov_imm W64 d x)) (mov_imm W64 d x)
whole-load d x false e = itself (mov_imm W64 d x)
whole-load d x true e =
    let low : x % 2 ^ 32 ≡ x % 2 ^ 64 = omega (arith, ltb-true x (2 ^ 32) e) in
    record { writes = λ g u. ap (λ (v : ℕ). write d v ∷ []) low; flags = λ g f u. refl; faults = λ g. refl; touches = refl }

immediate : (o : Alu) (w : Width) (d x : ℕ) → Alike (shorter (alu_imm o w d x)) (alu_imm o w d x)
immediate ADD w d x = itself (alu_imm ADD w d x)
immediate OR w d x = itself (alu_imm OR w d x)
immediate AND w d x = itself (alu_imm AND w d x)
immediate SUB w d x = itself (alu_imm SUB w d x)
immediate XOR w d x = itself (alu_imm XOR w d x)
immediate CMP w d x = itself (alu_imm CMP w d x)
immediate MOV W32 d x = itself (alu_imm MOV W32 d x)
immediate MOV W64 d x = extended-load d x (ltb x (2 ^ 31)) refl
immediate TEST w d x = itself (alu_imm TEST w d x)

pub shorter-alike : (p : Plain) → Alike (shorter p) p
shorter-alike (push r) = itself (push r)
shorter-alike (pop r) = itself (pop r)
shorter-alike (alu o w s d) = itself (alu o w s d)
shorter-alike (alu_imm o w d x) = immediate o w d x
shorter-alike (shift_imm o w d x) = itself (shift_imm o w d x)
shorter-alike (shift_cl o w d) = itself (shift_cl o w d)
shorter-alike (unary o w r) = itself (unary o w r)
shorter-alike (mov_imm W32 d x) = itself (mov_imm W32 d x)
shorter-alike (mov_imm W64 d x) = whole-load d x (ltb x (2 ^ 32)) refl
shorter-alike (rol16 d x) = itself (rol16 d x)
shorter-alike (bswap w d) = itself (bswap w d)
shorter-alike (load z b d x) = itself (load z b d x)
shorter-alike (store z s b x) = itself (store z s b x)
shorter-alike (store_imm z b x i) = itself (store_imm z b x i)
