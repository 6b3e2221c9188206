-- The laws of specs/Agrees.antt: a slot that begins somewhere is where the run goes, and what each of two slots leaves as it was both do.
use mathlib.Core.Path.{◌≡◌, refl, ◌∙◌}
use mathlib.Core.Logic.{◌≢◌}
use mathlib.Core.List.{List}
use Prim.Native.Nat.{ℕ}
use Rattle.x86_machine.specs.Machine.{State}
use Rattle.jit_agrees.specs.Agrees.{Unchanged, GoesTo, at_location, at_epilogue}

pub goes-to-start : {code : List ℕ} {location place : ℕ} → GoesTo code location place → location ≢ 0 → place ≡ location
goes-to-start (at_location e) n = e
goes-to-start (at_epilogue z e) n = absurd (n z)

pub unchanged-here : (s : State) → Unchanged s s
unchanged-here s = record { stack = refl; others = λ m a b c. refl; calls = refl }

pub unchanged-then : {s t v : State} → Unchanged s t → Unchanged t v → Unchanged s v
unchanged-then a b =
    record {
      stack = b.stack ∙ a.stack;
      others = λ m x y z. b.others m x y z ∙ a.others m x y z;
      calls = b.calls ∙ a.calls;
    }
