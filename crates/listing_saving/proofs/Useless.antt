-- Wrong answers that the contracts of this crate shut out.
use mathlib.Core.Path.{◌≡◌, ap}
use mathlib.Core.Bool.{true, false}
use mathlib.Core.List.{List}
use Prim.Native.Nat.{ℕ}
use native.Mathlib.Omega.{arith}
use Rattle.std.specs.Prelude.{Err}
use lib.ListN.{length, get_or}
use Rattle.jit.specs.declared.Mode.{Mode}
use Rattle.jit.specs.declared.Refusal.TheVariants.{TableTooShort, NoRoom}
use Rattle.jit.specs.Translation.{at}
use Rattle.text.specs.Text.{ascii}
use Rattle.text.specs.Numerals.{decimal}
use Rattle.listing_saving.specs.Saving.{turned, saved_line, way_of, is_said}

-- put_saved: the longer code taken for the shorter; what is saved said as what would be; the code's own length said
pub lengths-exchanged : saved_line true 136 143 ≡ ascii "--compact saves 0 bytes: without it the code has 143" → ⊥
unfolding saved_line decimal
lengths-exchanged e = omega (arith, ap (λ (t : List ℕ). get_or t 16 0) e)

pub saved-as-would-be : saved_line true 136 143 ≡ ascii "--compact would save 7 bytes: with it the code has 143" → ⊥
unfolding saved_line decimal
saved-as-would-be e = omega (arith, ap (λ (t : List ℕ). length t) e)

pub own-length : saved_line false 143 136 ≡ ascii "--compact would save 7 bytes: with it the code has 143" → ⊥
unfolding saved_line decimal
own-length e = omega (arith, ap (λ (t : List ℕ). get_or t 52 0) e)

-- put_way: the flag's two ways exchanged
pub ways-exchanged : way_of true ≡ ascii "with --compact it is refused: " → ⊥
unfolding way_of
ways-exchanged e = omega (arith, ap (λ (t : List ℕ). length t) e)

-- is_said: a line below a refusal that is not for want of room; none below one that is
pub said-of-a-table : is_said false (Err TableTooShort) ≡ true → ⊥
said-of-a-table e = let z : ◌≡◌ {A = ℕ} 0 1 = cc in omega arith

pub no-room-unsaid : is_said false (Err (NoRoom (at 96))) ≡ false → ⊥
no-room-unsaid e = let z : ◌≡◌ {A = ℕ} 0 1 = cc in omega arith

-- other_answer: asked in the same mode again; in standard mode too
abbrev plain : Mode
plain = record { standard = false; compact = false }

pub not-turned : (turned plain).compact ≡ false → ⊥
not-turned e = let z : ◌≡◌ {A = ℕ} 0 1 = cc in omega arith

pub standard-turned : (turned plain).standard ≡ true → ⊥
standard-turned e = let z : ◌≡◌ {A = ℕ} 0 1 = cc in omega arith
