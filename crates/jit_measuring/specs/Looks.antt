-- What a look at a slot finds, against the definition's step of that slot (jit/specs/Translation.antt).
use Rattle.std.specs.Prelude.{◌≡◌, Bool, true, false, ℕ, ◌≤◌, Option, Some, None, Result, Ok, Err}
use Rattle.base.specs.Pick.{pick}
use Rattle.base.specs.declared.Slot.{Slot}
use Rattle.jit.specs.declared.Refusal.{Refusal}
use Rattle.x86.specs.Code.{size, targets_of}
use Rattle.jit.specs.Translation.{at, Step, stop, go, bad_in, good_target}
use Rattle.jit_measuring.specs.declared.measure.Look.{Look}
use Rattle.jit_measuring.specs.declared.measure.Next.{Next}
use Rattle.jit_measuring.specs.declared.measure.Next.TheVariants.{Following, Wide, Lost}

-- a slot that lists no jump, and one that lists a jump to a target
abbrev pub plainly : (bytes : ℕ) → Look
plainly bytes = record { size = bytes; next = Following }

abbrev pub jumping : (bytes n target : ℕ) → Look
jumping bytes n target = record { size = bytes; next = pick (good_target n target) Following Lost }

-- what `next` says of a slot: whether it has a second half, and whether its target is bad
abbrev pub wide_of : Next → Bool
wide_of Following = false
wide_of Wide = true
wide_of Lost = false

abbrev pub bad_of : Next → (slot : ℕ) → Option Slot
bad_of Following slot = None
bad_of Wide slot = None
bad_of Lost slot = Some (at slot)

-- the step's refusal; or that it has none, how long its code is, and what comes behind it
abbrev pub Finds : (n slot : ℕ) → Step → Result Look Refusal → Type 0
Finds n slot (stop r) x = x ≡ Err r
Finds n slot (go b) (Err r) = ⊥
Finds n slot (go b) (Ok x) = (x.size ≡ size b.code) × ((b.wide ≡ wide_of x.next) × (bad_in n slot (targets_of b.code) ≡ bad_of x.next slot))

-- no slot's code is longer
abbrev pub Short : Result Look Refusal → Type 0
Short (Err r) = Unit {0}
Short (Ok x) = x.size ≤ 107
