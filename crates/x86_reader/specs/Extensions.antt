-- What reg's low three bits say in the groups 1, 2 and 3 (table A-6): as the definition's group1, group2 and group3.
use Rattle.std.specs.Prelude.{[], ◌∷◌, ℕ, ◌%◌, Option, Some, None}
use Rattle.base.specs.Cases.{cases, ◌⇒◌}
use Rattle.x86_instructions.specs.declared.Alu.{Alu}
use Rattle.x86_instructions.specs.declared.Shift.{Shift}
use Rattle.x86_instructions.specs.declared.Unary.{Unary}

abbrev pub group1_of : ℕ → Option Alu
group1_of reg =
    cases (0 ⇒ Some Alu.Add ∷ 1 ⇒ Some Alu.Or ∷ 4 ⇒ Some Alu.And ∷ 5 ⇒ Some Alu.Sub ∷ 6 ⇒ Some Alu.Xor ∷ 7 ⇒ Some Alu.Cmp ∷ []) None (reg % 8)

abbrev pub group2_of : ℕ → Option Shift
group2_of reg = cases (4 ⇒ Some Shift.Shl ∷ 5 ⇒ Some Shift.Shr ∷ 7 ⇒ Some Shift.Sar ∷ []) None (reg % 8)

abbrev pub group3_of : ℕ → Option Unary
group3_of reg = cases (3 ⇒ Some Unary.Neg ∷ 4 ⇒ Some Unary.Mul ∷ 6 ⇒ Some Unary.Div ∷ []) None (reg % 8)
