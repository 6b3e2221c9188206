-- Where the definition has arms that go on with a choice, and the code makes the choice first: it goes on with it, or refuses.
use mathlib.Core.Path.{◌≡◌, refl}
use mathlib.Core.Bool.{Bool, true, false}
use mathlib.Core.List.{List}
use Prim.Native.Nat.{ℕ}
use lib.Dec.{eqb}
use Rattle.std.specs.Prelude.{Option, Some, None}
use Rattle.base.specs.Pick.{pick}
use Rattle.x86.specs.Instr as I
use Rattle.x86.specs.Decode.{bad, Next}
use Rattle.x86_instructions.specs.Instructions.{cond_of}
use Rattle.x86_instructions.specs.declared.Cond.{Cond}
use Rattle.x86_forms.specs.Forms.{condition_of}

abbrev pub chosen : {A : Type 0} → (A → Next) → Option A → Next
chosen k None l = bad
chosen k (Some a) l = k a l

-- an arm of the definition against one of the choice
pub arm : {A : Type 0} (k : A → Next) (b : Bool) (x : A) (y : Option A) (f : Next) (l : List ℕ)
    → f l ≡ chosen k y l → pick b (k x) f l ≡ chosen k (pick b (Some x) y) l
arm k true x y f l e = refl
arm k false x y f l e = e

pub conditions : (k : I.Cond → Next) (n : ℕ) (l : List ℕ) {r : Option Cond} → r ≡ condition_of n
    → pick (eqb n 2) (k I.JB)
    (pick (eqb n 3) (k I.JAE)
    (pick (eqb n 4) (k I.JE)
    (pick (eqb n 5) (k I.JNE)
    (pick (eqb n 6) (k I.JBE)
    (pick (eqb n 7) (k I.JA)
    (pick (eqb n 12) (k I.JL)
    (pick (eqb n 13) (k I.JGE)
    (pick (eqb n 14) (k I.JLE)
    (pick (eqb n 15) (k I.JG)
    (λ r. bad)))))))))) l
    ≡ chosen (λ c. k (cond_of c)) r l
conditions k n l e =
    rw e
    (arm _ (eqb n 2) _ _ _ l (arm _ (eqb n 3) _ _ _ l (arm _ (eqb n 4) _ _ _ l (arm _ (eqb n 5) _ _ _ l (arm _ (eqb n 6) _ _ _ l (arm _ (eqb n 7) _ _ _ l (arm _ (eqb n 12) _ _ _ l (arm _ (eqb n 13) _ _ _ l (arm _ (eqb n 14) _ _ _ l (arm _ (eqb n 15) _ _ _ l refl))))))))))
