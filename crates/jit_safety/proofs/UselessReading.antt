-- What READING rules out by itself: of any code and instructions, not only of those that `translation_of` gives.
use mathlib.Core.Path.{◌≡◌, sym, ◌∙◌}
use mathlib.Core.Logic.{◌≢◌}
use mathlib.Core.List.{List, [], ◌∷◌, ◌++◌}
use Prim.Native.Nat.{ℕ, zero, suc}
use native.Mathlib.Omega.{arith}
use lib.ListN.{length, length-append, replicate}
use Rattle.x86.specs.Registers.{RBP}
use Rattle.x86.specs.Instr.{Instr, op, push, ret}
use Rattle.x86.specs.Decode.{decode, got, with_rex, opcode}
use Rattle.jit.specs.Frame.{saves, prologue}
use Rattle.jit.specs.Translation.{Inputs}
use Rattle.x86.specs.Decode.{read_all, torn, all}
use Rattle.x86.proofs.ReadsLaws.{first_read}
use Rattle.jit_safety.specs.Demand3.{instructions_of, Reading}

-- Code that is read as other instructions, as those with more behind them, and code with a byte that starts none.
pub other-instructions : (code : List ℕ) (is js : List (Instr ℕ)) → read_all code ≡ all js → js ≢ is → Reading code is → ⊥
other-instructions code is js e n r = n (let q = sym e ∙ r.read in cc)

pub more-behind : (code : List ℕ) (is : List (Instr ℕ)) (i : Instr ℕ) (more : List (Instr ℕ)) → read_all code ≡ all (is ++ i ∷ more)
    → Reading code is → ⊥
more-behind code is i more e r =
    other-instructions code is (is ++ i ∷ more) e (λ q. let n = length-append is (i ∷ more) in let m : length (is ++ i ∷ more) ≡ length is = rw q in omega (arith, n, m)) r

pub torn-code : (code : List ℕ) (is : List (Instr ℕ)) → read_all code ≡ torn → Reading code is → ⊥
torn-code code is e r = let q : torn ≡ all is = sym e ∙ r.read in let z : ◌≡◌ {A = ℕ} 0 1 = cc in omega arith

-- Instructions the last of which is no return, and none at all.
pub no_return : (code : List ℕ) (is before : List (Instr ℕ)) (i : Instr ℕ) → is ≡ before ++ (i ∷ []) → i ≢ ret → Reading code is → ⊥
no_return code is before i e n r = n (last before r.others (sym e ∙ r.last))
  where
    last : (a b : List (Instr ℕ)) → a ++ (i ∷ []) ≡ b ++ (ret ∷ []) → i ≡ ret
    last [] [] e = cc
    last [] (y ∷ []) e = let z : ◌≡◌ {A = ℕ} 0 1 = cc in absurd (omega arith)
    last [] (y ∷ w ∷ b) e = let z : ◌≡◌ {A = ℕ} 0 1 = cc in absurd (omega arith)
    last (x ∷ []) [] e = let z : ◌≡◌ {A = ℕ} 0 1 = cc in absurd (omega arith)
    last (x ∷ w ∷ a) [] e = let z : ◌≡◌ {A = ℕ} 0 1 = cc in absurd (omega arith)
    last (x ∷ a) (y ∷ b) e = last a b (cc)

pub no-instructions : (code : List ℕ) → Reading code [] → ⊥
no-instructions code r = by r.others r.last
  where
    by : (others : List (Instr ℕ)) → [] ≡ others ++ (ret ∷ []) → ⊥
    by [] e = let z : ◌≡◌ {A = ℕ} 0 1 = cc in omega arith
    by (i ∷ others) e = let z : ◌≡◌ {A = ℕ} 0 1 = cc in omega arith

-- A page on which a translator writes nothing. Whatever stood there, it is not the code of two programs whose instructions differ; and it is
-- no program's code unless its first bytes are read as `push RBP`, the prologue's first instruction. A page of zeros is not.
pub one-page-for-two : (code : List ℕ) (x y : Inputs) → instructions_of x ≢ instructions_of y → Reading code (instructions_of x)
    → Reading code (instructions_of y) → ⊥
one-page-for-two code x y n r s = other-instructions code (instructions_of y) (instructions_of x) r.read n s

pub nothing_written : (code : List ℕ) → ((r : List ℕ) → decode code ≢ got (op (push RBP)) r) → (x : Inputs) → Reading code (instructions_of x) → ⊥
unfolding saves prologue
nothing_written code n x r = let d = first_read code (op (push RBP)) _ r.read in n d.0 d.1

pub zeros-left : (n : ℕ) (x : Inputs) → Reading (replicate n 0) (instructions_of x) → ⊥
unfolding decode with_rex opcode
zeros-left zero x r = nothing_written [] (λ r e. let z : ◌≡◌ {A = ℕ} 0 1 = cc in omega arith) x r
zeros-left (suc n) x r = nothing_written (replicate (suc n) 0) (λ r e. let z : ◌≡◌ {A = ℕ} 0 1 = cc in omega arith) x r
