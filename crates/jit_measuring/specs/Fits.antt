-- What the quick check promises: where it is sure, the walk is accepted, or refused as it says. Where it is not, nothing.
use Rattle.std.specs.Prelude.{◌≡◌, Bool, true, false, List, ℕ, ◌≤◌, leb, eqb, Option, Some, None, Result, Ok, Err}
use Rattle.base.specs.Pick.{pick}
use Rattle.jit.specs.declared.Refusal.{Refusal}
use Rattle.x86.specs.Code.{size, targets_of}
use Rattle.jit.specs.Room.{short_slot, long_slot}
use Rattle.jit.specs.Slots.{target_of}
use Rattle.jit.specs.Translation.{at, Block, helper_of, bad_in, Step, stop, go, Walk, refused}
use Rattle.jit_walk.specs.Acceptable.{Acceptable}
use Rattle.jit_measuring.specs.declared.fits.Glance.{Glance}
use Rattle.jit_measuring.specs.declared.fits.Glance.TheVariants.{Narrow, Long, Wide, Lost}
use Rattle.jit_measuring.specs.declared.fits.Fit.{Fit}
use Rattle.jit_measuring.specs.declared.fits.Fit.TheVariants.{Sure, Unsure}

-- the tests
abbrev pub is_address : Option ℕ → Bool
is_address (Some a) = true
is_address None = false

abbrev pub call_seen : (ids addresses : List ℕ) → (n slot src imm : ℕ) → Result Glance Refusal
call_seen ids addresses n slot src imm =
    pick (eqb src 0) (pick (is_address (helper_of ids addresses imm)) (Ok Long) (Err (Refusal.UnknownHelper (at slot))))
    (pick (eqb src 1) (Ok (pick (leb (target_of slot imm) n) Long Lost)) (Err (Refusal.BadCall (at slot))))

-- a slot that is translated, and whose jump, if it lists one, has a good target; its code has `most` bytes at most
pub record Goes (n slot : ℕ) (s : Step) (w : Bool) (most : ℕ) : Type 0 where
  pub block : Block
  pub step : go block ≡ s
  pub wide : block.wide ≡ w
  pub short : size block.code ≤ most
  pub good : bad_in n slot (targets_of block.code) ≡ None

abbrev pub Sees : (n slot : ℕ) → Step → Result Glance Refusal → Type 0
Sees n slot s (Err r) = stop r ≡ s
Sees n slot s (Ok Narrow) = Goes n slot s false short_slot
Sees n slot s (Ok Long) = Goes n slot s false long_slot
Sees n slot s (Ok Wide) = Goes n slot s true short_slot
Sees n slot s (Ok Lost) = Unit {0}

abbrev pub Settles : (n page start : ℕ) → Walk → Result Fit Refusal → Type 0
Settles n page start w (Ok Sure) = Acceptable n page start w
Settles n page start w (Ok Unsure) = Unit {0}
Settles n page start w (Err r) = w ≡ refused r
