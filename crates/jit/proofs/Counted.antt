-- The blocks of an accepted program are all its slots: as many locations as slots, and one.
use mathlib.Core.Path.{◌≡◌, refl}
use mathlib.Core.Bool.{Bool, true, false}
use mathlib.Core.List.{List, []}
use Prim.Native.Nat.{ℕ, zero, suc, ◌+◌, ◌*◌, ◌≤◌}
use native.Mathlib.Omega.{arith}
use lib.Dec.{leb, ltb}
use lib.ListN.{length}
use borrow.Author.Tests.{ltb-false}
use Rattle.base.specs.Pick.{pick}
use Rattle.jit.specs.declared.Flags.{Flags}
use Rattle.x86.specs.Code.{size}
use Rattle.x86.specs.Encode.{isa}
use Rattle.code.proofs.PageLaws as pages
use Rattle.jit.specs.Frame.{prologue}
use Rattle.jit.proofs.Bounds.{Good, rest-good, sounds-inside, wide-some}
use Rattle.jit.specs.Translation.{Inputs, slots_of, Block, Step, stop, go, step_at, Walk, refused, done, slots_wide, within, after, rest, locations, page_of, slots_in, walk_of}

-- The blocks are all the slots that the program has: the walk ends where no byte is left, and each block's bytes are there.
abbrev Spans : ℕ → ℕ → Walk → Type 0
Spans n slot (refused r) = Unit {0}
Spans n slot (done bs) = n ≤ 8 * (slot + slots_in bs)

module _ (x : Inputs) where
  abbrev n : ℕ
  n = length x.filter.program

  spans-within : (t : Bool) (slot : ℕ) (b : Block) (w : Walk) → Spans n (slot + slots_wide b.wide) w → Spans n slot (within t slot b w)
  spans-within true slot b (refused r) h = tt
  spans-within true slot b (done bs) h = omega (arith, h)
  spans-within false slot b w h = tt

  spans-after : (slot place fuel : ℕ) (s : Step) (k : ℕ → ℕ → Walk) → n ≤ 8 * (slot + suc fuel)
      → ((t p : ℕ) → n ≤ 8 * (t + fuel) → Spans n t (k t p))
      → Spans n slot (after x.page slot place s k)
  spans-after slot place fuel (stop r) k h g = tt
  spans-after slot place fuel (go b) k h g =
      let next = slot + slots_wide b.wide in
      let p = place + size b.code in
      spans-within (leb p x.page) slot b (k next p) (g next p (omega (arith, wide-some b.wide)))

  spans-rest : (fuel slot place : ℕ) → n ≤ 8 * (slot + fuel)
      → Spans n slot (rest fuel x.filter x.page slot place)
  unfolding rest
  spans-rest zero slot place h = omega arith
  spans-rest (suc fuel) slot place h = by (ltb (8 * slot) n) refl (λ t p g. spans-rest fuel t p g)
    where
      more : ℕ → ℕ → Walk
      more s p = rest fuel x.filter x.page s p

      by : (t : Bool) → ltb (8 * slot) n ≡ t → ((t p : ℕ) → n ≤ 8 * (t + fuel) → Spans n t (more t p))
          → Spans n slot (pick t (after x.page slot place (step_at x.filter slot) more) (done []))
      by true e ih = spans-after slot place fuel (step_at x.filter slot) more h ih
      by false e ih = omega (arith, ltb-false (8 * slot) n e)

  counted : (w : Walk) → Spans n 0 w → Good x.filter.program 0 w → (bs : List Block) → w ≡ done bs → slots_in bs ≡ slots_of x.filter.program
  counted (refused r) h g bs e = let z : ◌≡◌ {A = ℕ} 0 1 = cc in absurd (omega arith)
  counted (done cs) h g bs e =
      let q : cs ≡ bs = cc in
      rw (← q) (omega (arith, h, sounds-inside x.filter.program 0 cs g (omega arith)))

  pub all_slots : (bs : List Block) → walk_of x ≡ done bs → slots_in bs ≡ slots_of x.filter.program
  all_slots bs e =
      let fuel = suc (slots_of x.filter.program) in
      let start = size (prologue x.flags) in
      counted (walk_of x) (spans-rest fuel 0 start (omega arith)) (rest-good x.filter x.page fuel 0 start) bs e

-- as many locations as slots, and one
pub length-locations : (f : Flags) (bs : List Block) → length (locations f bs) ≡ slots_in bs + 1
length-locations f bs = pages.length-locations isa (page_of f bs)
