-- What demand 3 rules out by itself, whatever demand 2 says: each of its four statements shuts out a translator that demand 2 would shut out
-- too. UselessReading, UselessLanding, UselessJumps and UselessRuns do the same for every part of every statement, of any code and
-- tables, so that no part can be made to say nothing: its lemma would no longer hold.
use mathlib.Core.Path.{◌≡◌}
use mathlib.Core.Logic.{◌≢◌}
use mathlib.Core.List.{List}
use Prim.Native.Nat.{ℕ, ◌+◌, ◌-◌, ◌%◌, ◌^◌, ◌<◌}
use lib.ListN.{length, get_or, take, drop}
use Rattle.base.specs.Bytes.{le32}
use Rattle.x86.specs.Registers.{RSP, RBP}
use Rattle.x86.specs.Instr.{op, push}
use Rattle.x86.specs.Decode.{decode, got}
use Rattle.jit.specs.Translation.{Inputs, place_of, yes, translation_of}
use Rattle.x86_machine.specs.Machine.{State, Input, finished, divided, run, EntersFrom}
use Rattle.jit_safety.specs.Demand3.{Given, instructions_of, Begins, Demand3}
use Rattle.jit_safety.proofs.Proved.{demand3}
use Rattle.jit_safety.proofs.UselessReading.{nothing_written}
use Rattle.jit_safety.proofs.UselessLanding as landing
use Rattle.jit_safety.proofs.UselessRuns.{never-divided, uneven-end}

module _ (x : Inputs) (code locs fields targets kinds makers : List ℕ) (d : Demand3 x code locs fields targets kinds makers) where
  -- one that answers success and writes nothing, on a page whose first bytes are not read as `push RBP`
  pub page-left : ((r : List ℕ) → decode code ≢ got (op (push RBP)) r) → ⊥
  page-left n = nothing_written code n x d.reading

  -- one that leaves a field unfilled
  pub field-left : (k : ℕ) → k < length fields → get_or fields k 0 + 4 < 2 ^ 64
      → place_of locs (length code - 16) (get_or targets k 0) ≢ get_or fields k 0 + 4 → take 4 (drop (get_or fields k 0) code) ≡ le32 0 → ⊥
  field-left k h = landing.unfilled x code (instructions_of x) locs fields targets kinds makers d.landing k h

  -- one whose code divides by zero
  pub division-raises : (us : List Input) (s : State) → Begins s → run code us s ≡ divided → ⊥
  division-raises = never-divided code (instructions_of x) d.staying

  -- one whose code comes back with RSP elsewhere
  pub stack-lost : (us : List Input) (s t : State) → Begins s → EntersFrom code (length code - 16) (get_or fields 0 0 - 1) us s
      → run code us s ≡ finished t → t.regs RSP ≢ (s.regs RSP + 8) % 2 ^ 64 → ⊥
  stack-lost = uneven-end code fields d.stack

-- and `translation_of` itself gives no such page
pub page-never-left : (x : Inputs) → Given x → (code locs fields targets : List ℕ) → translation_of x ≡ yes code locs fields targets
    → ((r : List ℕ) → decode code ≢ got (op (push RBP)) r) → ⊥
page-never-left x given code locs fields targets e = page-left x code locs fields targets _ _ (demand3 x given code locs fields targets e)
