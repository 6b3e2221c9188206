-- What the translator decides and answers, and what it leaves in what it was lent.
use Rattle.std.specs.Prelude.{◌≡◌, List, [], ℕ, length, Result, Ok, Err}
use Rattle.base.specs.Lists.{over}
use Rattle.jit.specs.declared.Refusal.{Refusal}
use Rattle.jit.specs.Translation.{Inputs, Outcome, no, yes, translation_of}
use Rattle.jit.specs.JumpTables.{kinds_in, makers_in}
use Rattle.jit_translate.specs.declared.translate.Accepted.{Accepted}

-- what `translate` answers
abbrev pub Answer : Type 0
Answer = Result Accepted Refusal

-- the answer to an outcome, and what it writes at the head of the code buffer and of each table
abbrev pub answer_of : Outcome → Answer
answer_of (no r) = Err r
answer_of (yes c l f t) = Ok (record { length = length c; jumps = length f })

abbrev pub code_in : Outcome → List ℕ
code_in (no r) = []
code_in (yes c l f t) = c

abbrev pub locations_in : Outcome → List ℕ
locations_in (no r) = []
locations_in (yes c l f t) = l

abbrev pub fields_in : Outcome → List ℕ
fields_in (no r) = []
fields_in (yes c l f t) = f

abbrev pub targets_in : Outcome → List ℕ
targets_in (no r) = []
targets_in (yes c l f t) = t

-- the verdict on an outcome
abbrev pub verdict_in : Outcome → Result (Unit {0}) Refusal
verdict_in (no r) = Err r
verdict_in (yes c l f t) = Ok tt

-- THE CONTRACT of `decide`, which writes nothing: the verdict on what is asked.
pub record Decided (x : Inputs) (r : Result (Unit {0}) Refusal) : Type 0 where
  pub verdict : r ≡ verdict_in (translation_of x)

-- THE CONTRACT of `translate`: the answer, and the page and the tables at exit (₁) from those at entry (₀): what the outcome holds stands at
-- the head, and everything behind it is as it was. `over ys l` is ys ++ drop (length ys) l.
pub record Translated (o : Outcome) (c₀ c₁ l₀ l₁ f₀ f₁ t₀ t₁ : List ℕ) (r : Answer) : Type 0 where
  pub answer : r ≡ answer_of o
  pub code : c₁ ≡ over (code_in o) c₀
  pub locations : l₁ ≡ over (locations_in o) l₀
  pub fields : f₁ ≡ over (fields_in o) f₀
  pub targets : t₁ ≡ over (targets_in o) t₀

-- .. and what it says of each jump, in the two further tables: what demand 2's part of the contract, above, does not know of.
pub record Named (x : Inputs) (k₀ k₁ m₀ m₁ : List ℕ) : Type 0 where
  pub kinds : k₁ ≡ over (kinds_in x (translation_of x)) k₀
  pub makers : m₁ ≡ over (makers_in x (translation_of x)) m₀
