-- What measuring the whole program finds: its refusal, or its end and the first bad jump.
use Rattle.std.specs.Prelude.{◌≡◌, ℕ, ◌+◌, ◌≤◌, Result, Ok, Err}
use Rattle.jit.specs.declared.Refusal.{Refusal}
use Rattle.x86.specs.Code.{size}
use Rattle.jit.specs.Translation.{Walk, refused, done, flat, first_bad}
use Rattle.jit_measuring.specs.declared.measure.Measured.{Measured}

-- what measuring the whole answers
abbrev pub measured_is : (n start : ℕ) → Walk → Result Measured Refusal
measured_is n start (refused r) = Err r
measured_is n start (done bs) = Ok (record { end = record { offset = start + size (flat bs) }; bad = first_bad n 0 bs })

-- and how far it can get
abbrev pub Within : (page : ℕ) → Result Measured Refusal → Type 0
Within page (Err r) = Unit {0}
Within page (Ok m) = m.end.offset ≤ page

pub record Answers (n page start : ℕ) (w : Walk) (r : Result Measured Refusal) : Type 0 where
  pub answer : r ≡ measured_is n start w
  pub within : Within page r
