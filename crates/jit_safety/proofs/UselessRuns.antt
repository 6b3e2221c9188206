-- What STAYING and THE STACK POINTER rule out by themselves, of any code and instructions, not only of those that `translation_of` gives.
use mathlib.Core.Path.{◌≡◌, refl, sym, ◌∙◌}
use mathlib.Core.Logic.{◌≢◌}
use mathlib.Core.Bool.{Bool, true, not, ◌&&◌, ◌||◌}
use mathlib.Core.List.{List, [], ◌∷◌, ◌++◌}
use Prim.Native.Nat.{ℕ, ◌+◌, ◌-◌, ◌%◌, ◌^◌, ◌<◌}
use native.Mathlib.Omega.{arith}
use lib.Dec.{T, T_not, eqb, eqb→eq}
use lib.ListN.{length, get_or, drop, replicate}
use Rattle.base.proofs.Tests.{true-T, and_l, and_r, or_elim, eqb-true}
use Rattle.x86.specs.Registers.{RSP}
use Rattle.x86.specs.Instr.{Instr, ret}
use Rattle.x86.specs.Encode.{len}
use Rattle.x86.specs.Decode.{decode, got, with_rex, rex_of, opcode, opcode16, with_modrm, reg_number, low_number, number}
use Rattle.x86_machine.specs.Machine.{State, Input, Outcome, running, finished, faulted, unbalanced, divided, astray, rd, result, follow, step, run, top_of, Entry, EntersFrom}
use Rattle.code.specs.Code.{span}
use Rattle.jit_safety.specs.Demand3.{Stands, Begins, Staying, StackPointer}
use Rattle.x86_machine.proofs.WorkedRun.{page_adding, start, input}

-- No run of code that stays raises #DE, comes to a place where no instruction can be read, or to one within an instruction.
module _ (code : List ℕ) (is : List (Instr ℕ)) (stays : Staying code is) (us : List Input) (s : State) (b : Begins s) where
  pub never-divided : run code us s ≡ divided → ⊥
  never-divided e = rw e at (stays us s b)

  pub never-astray : run code us s ≡ astray → ⊥
  never-astray e = rw e at (stays us s b)

  pub never-within : (t : State) (p : ℕ) (i : Instr ℕ) → run code us s ≡ running t → Stands is p i → p < t.pos → t.pos < p + len i → ⊥
  never-within t p i e v h g = by (rw e at (stays us s b))
    where
      apart : (pre qre : List (Instr ℕ)) (j : Instr ℕ) (post qost : List (Instr ℕ)) → pre ++ i ∷ post ≡ qre ++ j ∷ qost → span len pre < span len qre
          → span len qre < span len pre + len i → ⊥
      apart [] [] j post qost q a c = omega arith
      apart [] (y ∷ qre) j post qost q a c = let z : len i ≡ len y = cc in omega (arith, z, c)
      apart (y ∷ pre) [] j post qost q a c = omega arith
      apart (y ∷ pre) (w ∷ qre) j post qost q a c =
          let z : len y ≡ len w = cc in
          apart pre qre j post qost (cc) (omega (arith, z, a)) (omega (arith, z, c))

      by : (j : Instr ℕ) × Stands is t.pos j → ⊥
      by w =
          let r = w.1 in
          apart v.before r.before w.0 v.behind r.behind (sym v.split ∙ r.split) (omega (arith, v.place, r.place, h)) (omega (arith, v.place, r.place, g))

-- A return that finds RSP elsewhere than its call left it; and a run that ends with RSP elsewhere than 8 above where it began.
module _ (code fields : List ℕ) (p : StackPointer code fields) (us : List Input) (s t : State) (b : Begins s)
    (enters : EntersFrom code (length code - 16) (get_or fields 0 0 - 1) us s) where
  pub uneven-return : (r : List ℕ) → run code us s ≡ running t → decode (drop t.pos code) ≡ got ret r
      → t.regs RSP % 2 ^ 64 ≢ top_of (s.regs RSP) t.calls % 2 ^ 64 → ⊥
  uneven-return r e d n = n (p.each us s t r b enters e d)

  pub uneven-end : run code us s ≡ finished t → t.regs RSP ≢ (s.regs RSP + 8) % 2 ^ 64 → ⊥
  uneven-end e n = n (p.final us s t b enters e)

-- The page of EXIT alone with an epilogue that adds 504: its last return finds RSP 8 too low, and so does the end.
abbrev page504 : List ℕ
page504 = page_adding 0xf8 0x01

abbrev inputs : ℕ → List Input
inputs n = replicate n (input true 29)

-- that a run comes to x only from j, by computing it
module _ (code : List ℕ) (x j : ℕ) where
  abbrev pub comes_by : ℕ → Outcome → (State → Bool) → Bool
  comes_by p (running t) k = (not (eqb t.pos x) || eqb p j) && k t
  comes_by p (finished t) k = true
  comes_by p faulted k = true
  comes_by p unbalanced k = true
  comes_by p divided k = true
  comes_by p astray k = true

  abbrev pub runs_by : List Input → State → Bool
  runs_by [] s = true
  runs_by (u ∷ us) s = comes_by s.pos (step code s u) (λ t. runs_by us t)

  comes : (p q : ℕ) → T (not (eqb q x) || eqb p j) → q ≡ x → p ≡ j
  comes p q h e = or_elim (not (eqb q x)) (eqb p j) h (λ n. absurd (T_not (eqb q x) n (true-T _ (eqb-true q x e)))) (λ y. eqb→eq p j y)

  pub runs_by_lem : (us : List Input) (s : State) → T (runs_by us s) → EntersFrom code x j us s
  unfolding EntersFrom
  runs_by_lem [] s h = tt
  runs_by_lem (u ∷ us) s h = by (step code s u) h (λ t g. runs_by_lem us t g)
    where
      by : (o : Outcome) → T (comes_by s.pos o (λ t. runs_by us t)) → ((t : State) → T (runs_by us t) → EntersFrom code x j us t)
          → Entry x j s.pos o (λ t. EntersFrom code x j us t)
      by (running t) h ih = (comes s.pos t.pos (and_l (not (eqb t.pos x) || eqb s.pos j) (runs_by us t) h), ih t (and_r (not (eqb t.pos x) || eqb s.pos j) (runs_by us t) h))
      by (finished t) h ih = tt
      by faulted h ih = tt
      by unbalanced h ih = tt
      by divided h ih = tt
      by astray h ih = tt

by-the-jump : (n : ℕ) → T (runs_by page504 35 29 (inputs n) start) → EntersFrom page504 35 29 (inputs n) start
by-the-jump n h = runs_by_lem page504 35 29 (inputs n) start h

pub return-by-504 : StackPointer page504 (30 ∷ []) → ⊥
unfolding decode with_rex rex_of opcode opcode16 with_modrm reg_number low_number number rd result follow step run
return-by-504 p = uneven-return page504 (30 ∷ []) p (inputs 18) start _ (refl, refl) (by-the-jump 18 tt) [] refl refl (omega arith)

pub end-by-504 : StackPointer page504 (30 ∷ []) → ⊥
unfolding decode with_rex rex_of opcode opcode16 with_modrm reg_number low_number number rd result follow step run
end-by-504 p = uneven-end page504 (30 ∷ []) p (inputs 19) start _ (refl, refl) (by-the-jump 19 tt) refl (omega arith)
