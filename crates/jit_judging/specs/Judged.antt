-- The verdict on the slots: the walk's refusal; or 13 at n, where the epilogue has no room; or 14 at the first bad target; or good.
use Rattle.std.specs.Prelude.{ℕ, ◌+◌, leb, Option, Some, None, Result, Ok, Err}
use Rattle.base.specs.Pick.{pick}
use Rattle.base.specs.declared.Slot.{Slot}
use Rattle.jit.specs.declared.Refusal.{Refusal}
use Rattle.x86.specs.Code.{size}
use Rattle.jit.specs.Room.{epilogue_size}
use Rattle.jit.specs.Translation.{at, Walk, refused, done, flat, first_bad}

-- a target that goes nowhere is refused
abbrev pub targets_good : Option Slot → Result (Unit {0}) Refusal
targets_good None = Ok tt
targets_good (Some s) = Err (Refusal.BadTarget s)

-- THE CONTRACT of `judge`, by an equation; `start` is where the first slot's code begins
abbrev pub verdict_of : (n page start : ℕ) → Walk → Result (Unit {0}) Refusal
verdict_of n page start (refused r) = Err r
verdict_of n page start (done bs) =
    pick (leb (start + size (flat bs) + epilogue_size) page) (targets_good (first_bad n 0 bs)) (Err (Refusal.NoRoom (at n)))
