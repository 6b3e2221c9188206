-- What the promise and the theorem rule out by themselves, so that none of their parts says nothing: of any program, buffers and answer.
use mathlib.Core.Path.{◌≡◌, refl, ap}
use mathlib.Core.Logic.{◌≢◌}
use mathlib.Core.List.{List}
use mathlib.Core.Bool.{true}
use Prim.Native.Nat.{ℕ}
use Rattle.std.specs.Prelude.{Ok, Err}
use lib.ListN.{take}
use Rattle.x86.specs.Decode.{read_all, all}
use Rattle.x86_machine.specs.Machine.{State, Input, divided, run}
use Rattle.jit.specs.declared.Refusal.{Refusal}
use Rattle.jit.specs.Translation.{Inputs, no, translation_of}
use Rattle.base.specs.Lists.{over}
use Rattle.jit.specs.JumpTables.{kinds_in, makers_in}
use Rattle.jit_safety.specs.Demand3.{Given, instructions_of, Begins}
use Rattle.jit_agrees.specs.Agrees.{Agrees}
use Rattle.jit_translate.specs.Translated.{Answer, answer_of}
use Rattle.jit_theorem.specs.Theorem.{Buffers, locations_of, Promise}
use Rattle.jit_theorem.proofs.Proved.{theorem}

module _ {x : Inputs} {before after : Buffers} where
  -- demand 1: a refusal that is not the definition's; one that leaves something changed
  pub refusal-made-up : {q : Refusal} → translation_of x ≢ no q → Promise x before after (Err q) → ⊥
  refusal-made-up n p = n (p.refusal _ refl).0

  pub refusal-changes : {q : Refusal} → after ≢ before → Promise x before after (Err q) → ⊥
  refusal-changes n p = n (p.refusal _ refl).1

  -- .. such as a kind that is left behind, or a maker
  pub kind-left-behind : {q : Refusal} → after.kinds ≢ before.kinds → Promise x before after (Err q) → ⊥
  kind-left-behind n p = n (ap (λ (b : Buffers). b.kinds) (p.refusal _ refl).1)

  pub maker-left-behind : {q : Refusal} → after.makers ≢ before.makers → Promise x before after (Err q) → ⊥
  maker-left-behind n p = n (ap (λ (b : Buffers). b.makers) (p.refusal _ refl).1)

  -- demand 2: another answer than the definition's
  pub another-answer : {r : Answer} → r ≢ answer_of (translation_of x) → Promise x before after r → ⊥
  another-answer n p = n p.bytes.answer

  -- kinds that are written as makers; a kind, or a maker, that is left as it was
  pub kinds-otherwise : {r : Answer} → after.kinds ≢ over (kinds_in x (translation_of x)) before.kinds → Promise x before after r → ⊥
  kinds-otherwise n p = n p.names.kinds

  pub makers-otherwise : {r : Answer} → after.makers ≢ over (makers_in x (translation_of x)) before.makers → Promise x before after r → ⊥
  makers-otherwise n p = n p.names.makers

  -- demand 3: a page that is read as other instructions; one that divides by zero
  pub read-otherwise : {L J : ℕ} → read_all (take L after.code) ≢ all (instructions_of x) → Promise x before after (Ok (record { length = L; jumps = J })) → ⊥
  read-otherwise n p = n (p.safe _ _ refl).reading.read

  pub raises : {L J : ℕ} (us : List Input) (s : State) → Begins s → run (take L after.code) us s ≡ divided
      → Promise x before after (Ok (record { length = L; jumps = J })) → ⊥
  raises us s b e p = p.division _ _ refl us s b e

  -- in standard mode: a page on which a slot's code does something else
  pub does-otherwise : {L J : ℕ} → x.filter.mode.standard ≡ true
      → (Agrees x.filter.program (take L after.code) (locations_of x after) → ⊥)
      → Promise x before after (Ok (record { length = L; jumps = J })) → ⊥
  does-otherwise std n p = n (p.agrees _ _ refl std)

-- the theorem: something that has no answer; two answers to one question; the same answer with other buffers
pub unanswered : (x : Inputs) → Given x → (before : Buffers) → ((r : Answer) (after : Buffers) → Promise x before after r → ⊥) → ⊥
unanswered x given before n = let a = theorem.answered x given before in n a.0 a.1.0 a.1.1

module _ {x : Inputs} {before after other : Buffers} {r s : Answer} where
  pub two-answers : r ≢ s → Promise x before after r → Promise x before other s → ⊥
  two-answers n p q = n (theorem.only x before after other r s p q).0

  pub other-buffers : after ≢ other → Promise x before after r → Promise x before other s → ⊥
  other-buffers n p q = n (theorem.only x before after other r s p q).1
