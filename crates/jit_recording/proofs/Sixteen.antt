-- The last arm of a match of sixteen over a number of four bits.
use Rattle.std.proofs.Common.{◌≡◌, ℕ, zero, suc, ◌<◌, List, [], ◌∷◌, sym, refl, ◌∙◌}
use Rattle.base.specs.Cases.{Arm, ◌⇒◌, cases}
use Rattle.base.proofs.CasesLaws.{None, rest}
use Rattle.base.proofs.Table.{agree}

-- an arm for each of the first n numbers
abbrev pub firsts : ℕ → List (Arm ℕ)
firsts zero = []
firsts (suc n) = n ⇒ n ∷ firsts n

pub last : (k : ℕ) → k < 16 → None (firsts 15) k → k ≡ 15
last k h none = sym (rest (firsts 15) 15 k none ∙ agree (cases (firsts 15) 15) (λ k. k) 16 refl k h)
