-- What specs/Extensions.antt says is the definition's: it goes on with what reg says, or refuses.
use mathlib.Core.Path.{◌≡◌, refl}
use mathlib.Core.Bool.{Bool, true, false}
use mathlib.Core.List.{List}
use Prim.Native.Nat.{ℕ, ◌%◌}
use lib.Dec.{eqb}
use Rattle.std.specs.Prelude.{Option, Some, None}
use Rattle.base.specs.Pick.{pick}
use Rattle.x86.specs.Instr as I
use Rattle.x86.specs.Decode.{bad, Next}
use Rattle.x86_instructions.specs.declared.Alu.{Alu}
use Rattle.x86_instructions.specs.declared.Shift.{Shift}
use Rattle.x86_instructions.specs.declared.Unary.{Unary}
use Rattle.x86_instructions.specs.Instructions.{alu_of, shift_of, unary_of}
use Rattle.x86_forms.proofs.Chosen.{chosen, arm}
use Rattle.x86_reader.specs.Extensions.{group1_of, group2_of, group3_of}

pub group1 : (k : I.Alu → Next) (n : ℕ) (l : List ℕ) {r : Option Alu} → r ≡ group1_of n
    → pick (eqb (n % 8) 0) (k I.ADD)
    (pick (eqb (n % 8) 1) (k I.OR)
    (pick (eqb (n % 8) 4) (k I.AND)
    (pick (eqb (n % 8) 5) (k I.SUB)
    (pick (eqb (n % 8) 6) (k I.XOR)
    (pick (eqb (n % 8) 7) (k I.CMP) (λ r. bad)))))) l
    ≡ chosen (λ o. k (alu_of o)) r l
group1 k n l e =
    rw e
    (arm _ (eqb (n % 8) 0) _ _ _ l
    (arm _ (eqb (n % 8) 1) _ _ _ l
    (arm _ (eqb (n % 8) 4) _ _ _ l (arm _ (eqb (n % 8) 5) _ _ _ l (arm _ (eqb (n % 8) 6) _ _ _ l (arm _ (eqb (n % 8) 7) _ _ _ l refl))))))

pub group2 : (k : I.Shift → Next) (n : ℕ) (l : List ℕ) {r : Option Shift} → r ≡ group2_of n
    → pick (eqb (n % 8) 4) (k I.SHL) (pick (eqb (n % 8) 5) (k I.SHR) (pick (eqb (n % 8) 7) (k I.SAR) (λ r. bad))) l
    ≡ chosen (λ o. k (shift_of o)) r l
group2 k n l e = rw e (arm _ (eqb (n % 8) 4) _ _ _ l (arm _ (eqb (n % 8) 5) _ _ _ l (arm _ (eqb (n % 8) 7) _ _ _ l refl)))

pub group3 : (k : I.Unary → Next) (n : ℕ) (l : List ℕ) {r : Option Unary} → r ≡ group3_of n
    → pick (eqb (n % 8) 3) (k I.NEG) (pick (eqb (n % 8) 4) (k I.MUL) (pick (eqb (n % 8) 6) (k I.DIV) (λ r. bad))) l
    ≡ chosen (λ o. k (unary_of o)) r l
group3 k n l e = rw e (arm _ (eqb (n % 8) 3) _ _ _ l (arm _ (eqb (n % 8) 4) _ _ _ l (arm _ (eqb (n % 8) 6) _ _ _ l refl)))
