-- What a verdict means: good, the walk is accepted; not, its refusal is the outcome under any flags whose prologue ends where the slots begin.
-- And how it is found.
use Rattle.std.proofs.Common.{Option, Some, None, Result, Ok, Err}
use mathlib.Core.Path.{◌≡◌, ◌∙◌, refl, ap, sym}
use mathlib.Core.Bool.{Bool, true, false}
use Prim.Native.Nat.{ℕ, ◌+◌, ◌<◌, ◌≤◌}
use native.Mathlib.Omega.{arith}
use lib.Dec.{leb, leb→le}
use borrow.Author.Tests.{lt-leb, le-leb}
use Rattle.base.specs.Pick.{pick}
use Rattle.base.proofs.Tests.{true-T}
use Rattle.base.specs.declared.Slot.{Slot}
use Rattle.jit.specs.declared.Flags.{Flags}
use Rattle.jit.specs.declared.Refusal.{Refusal}
use Rattle.x86.specs.Code.{size}
use Rattle.jit.specs.Frame.{prologue}
use Rattle.jit.specs.Room.{epilogue_size}
use Rattle.jit.proofs.Bounds.{whole-size}
use Rattle.jit.specs.Translation.{Filter, at, slots_of, Walk, refused, done, flat, whole, first_bad, unless_bad, finish, no}
use Rattle.jit.specs.Passes.{walk_from}
use Rattle.jit.specs.Translation as jit
use Rattle.jit_walk.specs.Acceptable.{Acceptable}
use Rattle.jit_measuring.specs.Measures.{measured_is}
use Rattle.jit_measuring.specs.declared.measure.Measured.{Measured}
use Rattle.jit_judging.specs.Judged.{targets_good, verdict_of}

-- what a verdict means to the definition
module _ (n page : ℕ) where
  pub is-good : (start : ℕ) (w : Walk) {r : Result (Unit {0}) Refusal} → r ≡ verdict_of n page start w → r ≡ Ok tt → Acceptable n page start w
  is-good start (refused s) e g = let q : Ok tt ≡ Err s = sym g ∙ e in let z : ◌≡◌ {A = ℕ} 0 1 = cc in absurd (omega arith)
  is-good start (done bs) e g = by (leb (start + size (flat bs) + epilogue_size) page) refl (first_bad n 0 bs) refl (sym g ∙ e)
    where
      by : (t : Bool) → leb (start + size (flat bs) + epilogue_size) page ≡ t → (b : Option Slot) → first_bad n 0 bs ≡ b
          → Ok tt ≡ pick t (targets_good b) (Err (Refusal.NoRoom (at n))) → Acceptable n page start (done bs)
      by true f None x q = record { bs = bs; walk = refl; room = leb→le _ _ (true-T _ f); targets = x }
      by true f (Some s) x q = let z : ◌≡◌ {A = ℕ} 0 1 = cc in absurd (omega arith)
      by false f b x q = let z : ◌≡◌ {A = ℕ} 0 1 = cc in absurd (omega arith)

  pub is-not : (g : Flags) (w : Walk) {start : ℕ} {r : Result (Unit {0}) Refusal} {s : Refusal} → start ≡ size (prologue g) → r ≡ verdict_of n page start w
      → r ≡ Err s → finish g n page w ≡ no s
  is-not g (refused t) {s = s} p e q = let i : Err s ≡ Err t = sym q ∙ e in cc
  is-not g (done bs) {start} {r} {s} p e q = rw (long) (by (leb (start + size (flat bs) + epilogue_size) page) (first_bad n 0 bs) (sym q ∙ e))
    where
      long : size (whole g bs) ≡ start + size (flat bs) + epilogue_size
      long = omega (arith, whole-size g bs, p)

      by : (t : Bool) (b : Option Slot) → Err s ≡ pick t (targets_good b) (Err (Refusal.NoRoom (at n)))
          → pick t (unless_bad b (jit.accepted g bs)) (no (Refusal.NoRoom (at n))) ≡ no s
      by true None i = cc
      by true (Some x) i = cc
      by false b i = cc

-- the parts of what the measuring pass answers
abbrev end_of : Result Measured Refusal → ℕ
end_of (Ok m) = m.end.offset
end_of (Err r) = 0

abbrev bad_of : Result Measured Refusal → Option Slot
bad_of (Ok m) = m.bad
bad_of (Err r) = None

-- what is found settles the verdict, whatever the walk
module _ (n page start : ℕ) where
  pub accepts : {w : Walk} → Acceptable n page start w → Ok tt ≡ verdict_of n page start w
  accepts a = rw (a.walk, le-leb _ _ a.room, a.targets)

  pub refuses-at : {w : Walk} {r : Refusal} → w ≡ refused r → Err r ≡ verdict_of n page start w
  refuses-at e = rw e

  refuses-walk : (w : Walk) {r : Refusal} → Err r ≡ measured_is n start w → Err r ≡ verdict_of n page start w
  refuses-walk (refused s) {r} e = let i : Err r ≡ Err s = e in cc
  refuses-walk (done bs) e = let z : ◌≡◌ {A = ℕ} 0 1 = cc in absurd (omega arith)

  no-room-walk : (w : Walk) {m : Measured} → Ok m ≡ measured_is n start w → page < m.end.offset + epilogue_size
      → Err (Refusal.NoRoom (at n)) ≡ verdict_of n page start w
  no-room-walk (refused s) q h = let z : ◌≡◌ {A = ℕ} 0 1 = cc in absurd (omega arith)
  no-room-walk (done bs) {m} q h =
      let d : m.end.offset ≡ start + size (flat bs) = ap end_of q in
      rw (← d, lt-leb _ _ h)

  bad-jump-walk : (w : Walk) {m : Measured} {s : Slot} → Ok m ≡ measured_is n start w → m.bad ≡ Some s → m.end.offset + epilogue_size ≤ page
      → Err (Refusal.BadTarget s) ≡ verdict_of n page start w
  bad-jump-walk (refused r) q f h = let z : ◌≡◌ {A = ℕ} 0 1 = cc in absurd (omega arith)
  bad-jump-walk (done bs) {m} q f h =
      let d : m.end.offset ≡ start + size (flat bs) = ap end_of q in
      let x : m.bad ≡ first_bad n 0 bs = ap bad_of q in
      rw (← d, le-leb _ _ h, ← x, f)

  all-good-walk : (w : Walk) {m : Measured} → Ok m ≡ measured_is n start w → m.bad ≡ None → m.end.offset + epilogue_size ≤ page
      → Ok tt ≡ verdict_of n page start w
  all-good-walk (refused r) q f h = let z : ◌≡◌ {A = ℕ} 0 1 = cc in absurd (omega arith)
  all-good-walk (done bs) {m} q f h =
      let d : m.end.offset ≡ start + size (flat bs) = ap end_of q in
      let x : m.bad ≡ first_bad n 0 bs = ap bad_of q in
      rw (← d, le-leb _ _ h, ← x, f)

-- The same of the walk through a filter's slots, by what the measuring pass answers.
module _ (filter : Filter) (page start : ℕ) where
  abbrev n : ℕ
  n = slots_of filter.program

  abbrev w : Walk
  w = walk_from filter page start

  pub refuses : {r : Refusal} → Err r ≡ measured_is n start w → Err r ≡ verdict_of n page start w
  refuses e = refuses-walk n page start w e

  module _ {m : Measured} (q : Ok m ≡ measured_is n start w) where
    pub no_room : page < m.end.offset + epilogue_size → Err (Refusal.NoRoom (at n)) ≡ verdict_of n page start w
    no_room h = no-room-walk n page start w q h

    pub bad-jump : {s : Slot} → m.bad ≡ Some s → m.end.offset + epilogue_size ≤ page → Err (Refusal.BadTarget s) ≡ verdict_of n page start w
    bad-jump f h = bad-jump-walk n page start w q f h

    pub all-good : m.bad ≡ None → m.end.offset + epilogue_size ≤ page → Ok tt ≡ verdict_of n page start w
    all-good f h = all-good-walk n page start w q f h
