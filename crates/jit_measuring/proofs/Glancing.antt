-- What holds at the head of the quick check's loop, how a slot takes it on, and what it comes to.
use Rattle.std.proofs.Common.{None}
use mathlib.Core.Path.{◌≡◌, ◌∙◌, refl, sym}
use mathlib.Core.Bool.{Bool}
use mathlib.Core.List.{List, [], ◌∷◌, ◌++◌}
use Prim.Native.Nat.{ℕ, ◌+◌, ◌*◌, ◌<◌, ◌≤◌}
use native.Mathlib.Omega.{arith}
use lib.ListN.{length}
use Rattle.jit.specs.declared.Refusal.{Refusal}
use Rattle.x86.specs.Code.{size}
use Rattle.jit.specs.Room.{short_slot, epilogue_size}
use Rattle.jit.specs.Translation.{Filter, at, Block, first_bad, slots_wide, stop, step_at, refused}
use Rattle.jit.specs.Passes.{walk_from}
use Rattle.jit.proofs.Bounds.{wide-some}
use Rattle.jit_walk.specs.Acceptable.{Acceptable}
use Rattle.jit_walk.proofs.Sofar.{Sofar, begins, stops, goes_on, ends, bad-on}
use Rattle.jit_measuring.specs.Fits.{Goes}
use Rattle.jit_measuring.proofs.Seen.{step-torn}

-- at the head of the loop: `short_slot` bytes are kept for each slot that is left, and `spare` is what is free beyond them
pub record Glancing (filter : Filter) (page start n slot spare : ℕ) : Type 0 where
  pub bs : List Block
  pub place : ℕ
  pub sofar : Sofar filter page start (walk_from filter page start) bs slot place
  pub room : place + spare + short_slot * n + epilogue_size ≤ page + short_slot * slot
  pub good : first_bad n 0 bs ≡ None

pub glancing-begins : (filter : Filter) (page start n spare : ℕ) → start + spare + short_slot * n + epilogue_size ≤ page
    → Glancing filter page start n 0 spare
glancing-begins filter page start n spare h =
    record { bs = []; place = start; sofar = begins filter page start (omega (arith, h)); room = omega (arith, h); good = refl }

module _ {filter : Filter} {page start n slot spare : ℕ} (m : Glancing filter page start n slot spare) where
  -- what a slot has beyond `short_slot` bytes comes from what is spare
  pub glancing-on : (w : Bool) {most left : ℕ} → slot < n → 8 * n ≤ length filter.program → left + most ≤ spare + short_slot
      → Goes n slot (step_at filter slot) w most → Glancing filter page start n (slot + slots_wide w) left
  glancing-on w h all fit g =
      let b = g.block in
      rw (← g.wide)
      (record {
        bs = m.bs ++ (b ∷ []);
        place = m.place + size b.code;
        sofar = goes_on m.sofar b (omega (arith, all)) g.step (omega (arith, m.room, g.short, fit, h));
        room = omega (arith, m.room, g.short, fit, wide-some b.wide);
        good = sym (bad-on m.sofar b n (sym m.good)) ∙ g.good;
      })

  pub glancing-stops : (r : Refusal) → 8 * slot < length filter.program → stop r ≡ step_at filter slot → walk_from filter page start ≡ refused r
  glancing-stops r h e = stops m.sofar r h e

  -- bytes are left that are no slot
  pub glancing-torn : 8 * slot < length filter.program → length filter.program < 8 * slot + 8
      → walk_from filter page start ≡ refused (Refusal.Torn (at slot))
  glancing-torn h g = glancing-stops (Refusal.Torn (at slot)) h (sym (step-torn filter slot g))

  pub glancing-ends : n ≤ slot → 8 * n ≡ length filter.program → Acceptable n page start (walk_from filter page start)
  glancing-ends h all =
      record {
        bs = m.bs;
        walk = ends m.sofar (omega (arith, all));
        room = omega (arith, m.room, m.sofar.place_is, m.sofar.inside, all);
        targets = m.good;
      }
