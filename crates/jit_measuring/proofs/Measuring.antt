-- What holds at the head of the measuring loop, how a slot takes it on or ends it, and what it comes to.
use Rattle.std.proofs.Common.{Option, Some, None, Result, Ok, Err}
use Rattle.std.specs.Option.{option_or}
use Rattle.base.specs.declared.Slot.{Slot}
use mathlib.Core.Path.{◌≡◌, refl, sym}
use mathlib.Core.List.{List, [], ◌∷◌, ◌++◌}
use Prim.Native.Nat.{ℕ, ◌+◌, ◌*◌, ◌<◌, ◌≤◌}
use lib.ListN.{length}
use Rattle.jit.specs.declared.Refusal.{Refusal}
use Rattle.jit.specs.Translation.{Filter, at, Block, stop, step_at, slots_of, slots_wide, or_else, first_bad}
use Rattle.jit.specs.Passes.{walk_from}
use Rattle.jit_walk.proofs.Sofar.{Sofar, begins, stops, too_long, goes_on, ends, bad-on}
use Rattle.jit_measuring.specs.declared.measure.Look.{Look}
use Rattle.jit_measuring.specs.declared.measure.Measured.{Measured}
use Rattle.jit_measuring.specs.Looks.{wide_of, bad_of}
use Rattle.jit_measuring.specs.Measures.{Answers}
use Rattle.jit_measuring.proofs.LooksLaws.{Went}
use Rattle.jit_measuring.proofs.Seen.{step-torn}

-- at the head of the loop
pub record Measuring (filter : Filter) (page start n slot place : ℕ) (bad : Option Slot) : Type 0 where
  pub bs : List Block
  pub sofar : Sofar filter page start (walk_from filter page start) bs slot place
  pub bad-is : bad ≡ first_bad n 0 bs

pub measuring-begins : (filter : Filter) (page start n : ℕ) → start ≤ page → Measuring filter page start n 0 start None
measuring-begins filter page start n h = record { bs = []; sofar = begins filter page start h; bad-is = refl }

or-none : (b : Option Slot) → or_else b None ≡ b
or-none None = refl
or-none (Some s) = refl

-- the library's `or` is the definition's
pub or_is : (b c : Option Slot) → option_or b c ≡ or_else b c
or_is None c = refl
or_is (Some s) c = refl

module _ {filter : Filter} {page start n slot place : ℕ} {bad : Option Slot} (m : Measuring filter page start n slot place bad) where
  abbrev Answer : (r : Result Measured Refusal) → Type 0
  Answer r = Answers n page start (walk_from filter page start) r

  pub measuring-stops : (r : Refusal) → 8 * slot < length filter.program → stop r ≡ step_at filter slot → Answer (Err r)
  measuring-stops r h e = record { answer = rw (stops m.sofar r h e); within = tt }

  -- bytes are left that are no slot
  pub measuring-torn : 8 * slot < length filter.program → length filter.program < 8 * slot + 8 → Answer (Err (Refusal.Torn (at slot)))
  measuring-torn h g = measuring-stops (Refusal.Torn (at slot)) h (sym (step-torn filter slot g))

  module _ (x : Look) (g : Went n slot (step_at filter slot) x) (h : 8 * slot < length filter.program) where
    pub measuring-full : page < place + x.size → Answer (Err (Refusal.NoRoom (at slot)))
    measuring-full f = record { answer = rw (too_long m.sofar g.block h g.step (rw (← g.size_is) f)); within = tt }

    pub measuring-on : place + x.size ≤ page
        → Measuring filter page start n (slot + slots_wide (wide_of x.next)) (place + x.size) (or_else bad (bad_of x.next slot))
    measuring-on f =
        let b = g.block in
        rw (← g.wide, ← g.bad, g.size_is)
        (record {
          bs = m.bs ++ (b ∷ []);
          sofar = goes_on m.sofar b h g.step (rw (← g.size_is) f);
          bad-is = bad-on m.sofar b n m.bad-is;
        })

  -- where the target is good, `bad` is as it was
  pub as_before : {s p : ℕ} → Measuring filter page start n s p (or_else bad None) → Measuring filter page start n s p bad
  as_before r = rw (or-none bad) at r

  pub measuring-ends : length filter.program ≤ 8 * slot → n ≡ slots_of filter.program → Answer (Ok (record { end = record { offset = place }; bad = bad }))
  measuring-ends h e = record { answer = rw (ends m.sofar h, m.sofar.place_is, m.bad-is); within = m.sofar.room }
