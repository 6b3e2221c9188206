-- Whether there is a map (src/mapped.rt): the code's length as it is measured, and the tests on it.
use Rattle.std.proofs.Common.{Result, Ok, Err, IsOk}
use mathlib.Core.Path.{◌≡◌, ◌∙◌, refl, ap, sym}
use mathlib.Core.Bool.{Bool, true, false}
use Prim.Native.Nat.{ℕ, ◌+◌, ◌-◌, ◌≤◌, ◌<◌, ◌^◌}
use native.Mathlib.Omega.{arith}
use lib.Dec.{leb, ltb, leb→le}
use lib.ListN.{length}
use borrow.Author.Tests.{lt-ltb, le-ltb, le-leb, ltb-true}
use Rattle.base.proofs.Tests.{true-T, leb_no}
use Rattle.base.specs.declared.Slot.{Slot}
use Rattle.x86.specs.Code.{size}
use Rattle.jit.specs.declared.Refusal.{Refusal}
use Rattle.jit.specs.declared.Flags.{Flags}
use Rattle.jit.specs.Frame.{prologue}
use Rattle.jit.specs.Limits.{longest_program, longest_page}
use Rattle.jit.specs.Passes.{walk_from}
use Rattle.jit.specs.Room.{epilogue_size}
use Rattle.map.specs.MapText.{text_of}
use Rattle.jit.specs.JumpTables.{blocks_in}
use Rattle.jit.specs.Translation.{Filter, slots_of, Walk, flat}
use Rattle.jit_walk.specs.Acceptable.{Acceptable}
use Rattle.jit_measuring.specs.declared.measure.Measured.{Measured}
use Rattle.jit_measuring.specs.Measures.{measured_is}
use Rattle.jit_mapping.specs.declared.Refusal.TheVariants.{BaseTooHigh, TextTooShort}
use Rattle.jit_mapping.specs.Walked.{Fit, walk_lines, Accepted, fit_at, Judging}

-- measuring comes to the end of the slots
abbrev end_in : Result Measured Refusal → ℕ
end_in (Err r) = 0
end_in (Ok m) = m.end.offset

module _ {n page start : ℕ} {w : Walk} (a : Acceptable n page start w) where
  pub low-page : start + size (flat (blocks_in w)) + epilogue_size ≤ page
  low-page = rw a.walk a.room

  pub ends_at : {m : Measured} → Ok m ≡ measured_is n start w → m.end.offset ≡ start + size (flat (blocks_in w))
  ends_at e = rw a.walk (ap end_in (e ∙ ap (measured_is n start) a.walk))

  pub never-refused : {r : Result Measured Refusal} → r ≡ measured_is n start w → IsOk r
  never-refused e = rw (e, a.walk)

-- no address behind the code is above the largest one
pub low-is : (base n : ℕ) → n < 2 ^ 64 → leb base (2 ^ 64 - 1 - n) ≡ ltb (base + n) (2 ^ 64)
low-is base n h = by (leb base (2 ^ 64 - 1 - n)) refl
  where
    by : (t : Bool) → leb base (2 ^ 64 - 1 - n) ≡ t → t ≡ ltb (base + n) (2 ^ 64)
    by true e = let g = leb→le base (2 ^ 64 - 1 - n) (true-T _ e) in sym (lt-ltb (base + n) (2 ^ 64) (omega arith))
    by false e = let g = leb_no base (2 ^ 64 - 1 - n) e in sym (le-ltb (base + n) (2 ^ 64) (omega arith))

pub low-sure : {base length page : ℕ} → length ≤ page → page < 2 ^ 64 → base ≤ 2 ^ 64 - 1 - page → true ≡ ltb (base + length) (2 ^ 64)
low-sure {base} {length} {page} h s g = sym (lt-ltb (base + length) (2 ^ 64) (omega arith))

-- what is below what there is room for has room
pub room-sure : {length most room : ℕ} → length ≤ most → most ≤ room → true ≡ leb length room
room-sure {length} {most} {room} h g = sym (le-leb length room (omega arith))

-- `judge_map`: `start` is the prologue's length
module _ {filter : Filter} {flags : Flags} {page start : ℕ} (j : Judging filter flags page) (e : start ≡ size (prologue flags)) where
  pub walk_at : Acceptable (slots_of filter.program) page start (walk_from filter page start)
  walk_at = rw e j.walk

  pub limits : (length filter.program ≤ longest_program)
      × ((page ≤ longest_page) × ((start ≤ page) × (length filter.ids ≡ length filter.addresses)))
  limits = (j.program, (j.page_is, (omega (arith, walk_at.room), j.helpers)))

  module _ (base : ℕ) where
    abbrev low : Bool
    low = ltb (base + (start + size (flat (blocks_in (walk_from filter page start))) + epilogue_size)) (2 ^ 64)

    pub accepted-at : low ≡ true → Accepted (slots_of filter.program) page start base (walk_from filter page start)
    accepted-at t =
        let below : base + (start + size (flat (blocks_in (walk_from filter page start))) + epilogue_size) < 2 ^ 64 = ltb-true _ _ t in
        record { walk = walk_at; low = omega (arith, rw walk_at.walk at below) }

    module _ (room : ℕ) where
      abbrev verdict : Fit
      verdict = fit_at base room (size (prologue flags)) (blocks_in (walk_from filter page (size (prologue flags))))

      pub too-high : low ≡ false → Err BaseTooHigh ≡ verdict
      too-high t = rw (rw e at t)

      pub too_short : low ≡ true → leb (length (text_of (walk_lines base start (blocks_in (walk_from filter page start))))) room ≡ false
          → Err TextTooShort ≡ verdict
      too_short t f = rw (rw e at t, rw e at f)

      pub fits : low ≡ true → leb (length (text_of (walk_lines base start (blocks_in (walk_from filter page start))))) room ≡ true → Ok tt ≡ verdict
      fits t f = rw (rw e at t, rw e at f)
