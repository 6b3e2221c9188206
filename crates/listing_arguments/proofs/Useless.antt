-- Wrong answers that the contracts of this crate shut out, each on one word.
use Rattle.std.specs.Prelude.{Option, Some, None}
use mathlib.Core.Path.{◌≡◌, ap}
use Prim.Native.Nat.{ℕ}
use native.Mathlib.Omega.{arith}
use Rattle.text.specs.Text.{ascii}
use Rattle.listing_arguments.specs.declared.Word.TheVariants.{File, Help, Standard}
use Rattle.listing_arguments.specs.Arguments.{word_of, digit_of, grown, digits, prefixed, number_of, base_of, address_of, index_of, helper_of}

-- word_of: an option that is not known taken for a file; an option known by its first letters; one flag of the mode taken for the other
pub option-a-file : word_of (ascii "--hlep") ≡ File → ⊥
unfolding word_of
option-a-file e = let z : ◌≡◌ {A = ℕ} 0 1 = cc in omega arith

pub by-first-letters : word_of (ascii "--helpless") ≡ Help → ⊥
unfolding word_of
by-first-letters e = let z : ◌≡◌ {A = ℕ} 0 1 = cc in omega arith

pub compact-as-standard : word_of (ascii "--compact") ≡ Standard → ⊥
unfolding word_of
compact-as-standard e = let z : ◌≡◌ {A = ℕ} 0 1 = cc in omega arith

-- number_of: hexadecimal read as decimal; a number that wraps; no digit at all, as 0
pub hexadecimal-as-decimal : number_of (ascii "0x10") ≡ Some 10 → ⊥
unfolding prefixed digits grown digit_of
hexadecimal-as-decimal e = let z : ◌≡◌ {A = ℕ} 16 10 = cc in omega (arith, z)

pub wrapped : number_of (ascii "18446744073709551616") ≡ Some 0 → ⊥
unfolding prefixed digits grown digit_of
wrapped e = let z : ◌≡◌ {A = ℕ} 0 1 = cc in omega arith

pub nothing-as-zero : number_of (ascii "0x") ≡ Some 0 → ⊥
unfolding prefixed digits grown digit_of
nothing-as-zero e = let z : ◌≡◌ {A = ℕ} 0 1 = cc in omega arith

-- base_of: a number read as decimal; `0x` not skipped, so that its x is no digit; a capital digit turned down; a number that wraps; no digit at
-- all, as 0
pub base-as-decimal : base_of (ascii "10") ≡ Some 10 → ⊥
unfolding prefixed digits grown digit_of
base-as-decimal e = let z : ◌≡◌ {A = ℕ} 16 10 = cc in omega (arith, z)

pub prefix-kept : base_of (ascii "0x10") ≡ None → ⊥
unfolding prefixed digits grown digit_of
prefix-kept e = let z : ◌≡◌ {A = ℕ} 0 1 = cc in omega arith

pub capital-turned-down : base_of (ascii "7F") ≡ None → ⊥
unfolding prefixed digits grown digit_of
capital-turned-down e = let z : ◌≡◌ {A = ℕ} 0 1 = cc in omega arith

pub base-wrapped : base_of (ascii "10000000000000000") ≡ Some 0 → ⊥
unfolding prefixed digits grown digit_of
base-wrapped e = let z : ◌≡◌ {A = ℕ} 0 1 = cc in omega arith

pub no-base-as-zero : base_of (ascii "0x") ≡ Some 0 → ⊥
unfolding prefixed digits grown digit_of
no-base-as-zero e = let z : ◌≡◌ {A = ℕ} 0 1 = cc in omega arith

-- helper_of: id and address exchanged; an id that is cut to 32 bits
pub exchanged : helper_of (ascii "6=7") ≡ Some (7, 6) → ⊥
unfolding helper_of address_of prefixed digits grown digit_of index_of
exchanged e =
    let s : ◌≡◌ {A = ℕ × ℕ} (6, 7) (7, 6) = cc in
    omega (arith, ap (λ (p : ℕ × ℕ). p.0) s)

pub id-cut : helper_of (ascii "4294967302") ≡ Some (6, 0x7f0000000000) → ⊥
unfolding helper_of address_of prefixed digits grown digit_of index_of
id-cut e = let z : ◌≡◌ {A = ℕ} 0 1 = cc in omega arith
