-- The opcodes that the definition has no form for.
use mathlib.Core.Path.{◌≡◌}
use mathlib.Core.List.{List}
use Prim.Native.Nat.{ℕ, ◌/◌, ◌<◌, ◌≤◌}
use native.Mathlib.Omega.{arith}
use Rattle.base.proofs.Tests.{eqb-false}
use Rattle.x86.specs.Decode.{Rex, bad, opcode}
use Rattle.x86_reader.specs.Opcodes.{NoMiddle, Other}

-- what is none of the opcodes of one byte below 40, and from C0 on
abbrev pub NoLow : ℕ → Type 0
NoLow o = ((((((Unit {0} × ¬ (o ≡ 0x01)) × ¬ (o ≡ 0x09)) × ¬ (o ≡ 0x0f)) × ¬ (o ≡ 0x21)) × ¬ (o ≡ 0x29)) × ¬ (o ≡ 0x31)) × ¬ (o ≡ 0x39)

abbrev pub NoHigh : ℕ → Type 0
NoHigh o =
    ((((((((Unit {0} × ¬ (o ≡ 0xc1)) × ¬ (o ≡ 0xc3)) × ¬ (o ≡ 0xc6)) × ¬ (o ≡ 0xc7)) × ¬ (o ≡ 0xd3))
    × ¬ (o ≡ 0xe8)) × ¬ (o ≡ 0xe9)) × ¬ (o ≡ 0xf7)) × ¬ (o ≡ 0xff)

-- and what is none of those that name a register
abbrev pub NoRegister : ℕ → Type 0
NoRegister o = ((Unit {0} × ¬ (o / 8 ≡ 10)) × ¬ (o / 8 ≡ 11)) × ¬ (o / 8 ≡ 23)

pub unknown : (x : Rex) (o : ℕ) (l : List ℕ) → NoLow o → NoMiddle o → NoHigh o → NoRegister o → opcode x o l ≡ bad
unfolding opcode
unknown x o l w m h r =
    rw (
      eqb-false (o / 8) 10 r.0.0.1,
      eqb-false (o / 8) 11 r.0.1,
      eqb-false (o / 8) 23 r.1,
      eqb-false o 0x01 w.0.0.0.0.0.0.1,
      eqb-false o 0x09 w.0.0.0.0.0.1,
      eqb-false o 0x0f w.0.0.0.0.1,
      eqb-false o 0x21 w.0.0.0.1,
      eqb-false o 0x29 w.0.0.1,
      eqb-false o 0x31 w.0.1,
      eqb-false o 0x39 w.1,
      eqb-false o 0x81 m.0.0.0.0.1,
      eqb-false o 0x85 m.0.0.0.1,
      eqb-false o 0x88 m.0.0.1,
      eqb-false o 0x89 m.0.1,
      eqb-false o 0x8b m.1,
      eqb-false o 0xc1 h.0.0.0.0.0.0.0.0.1,
      eqb-false o 0xc3 h.0.0.0.0.0.0.0.1,
      eqb-false o 0xc6 h.0.0.0.0.0.0.1,
      eqb-false o 0xc7 h.0.0.0.0.0.1,
      eqb-false o 0xd3 h.0.0.0.0.1,
      eqb-false o 0xe8 h.0.0.0.1,
      eqb-false o 0xe9 h.0.0.1,
      eqb-false o 0xf7 h.0.1,
      eqb-false o 0xff h.1,
    )

-- where the others are out of reach
pub low-unknown : (x : Rex) (o : ℕ) (l : List ℕ) → o < 0x40 → NoLow o → opcode x o l ≡ bad
low-unknown x o l b w = unknown x o l w m h r
  where
    m : NoMiddle o
    m = (((((tt, λ e. omega arith), λ e. omega arith), λ e. omega arith), λ e. omega arith), λ e. omega arith)

    h : NoHigh o
    h = (
      (
        (
          (
            (((((tt, λ e. omega arith), λ e. omega arith), λ e. omega arith), λ e. omega arith), λ e. omega arith),
            λ e. omega arith,
          ),
          λ e. omega arith,
        ),
        λ e. omega arith,
      ),
      λ e. omega arith,
    )

    r : NoRegister o
    r = (((tt, λ e. omega arith), λ e. omega arith), λ e. omega arith)

pub middle-unknown : (x : Rex) (o : ℕ) (l : List ℕ) → Other o → NoRegister o → opcode x o l ≡ bad
middle-unknown x o l b r = unknown x o l w b.1 h r
  where
    low : 0x40 ≤ o
    low = b.0.0

    high : o < 0xc0
    high = b.0.1

    w : NoLow o
    w = (
      (
        (
          ((((tt, λ e. omega (arith, low)), λ e. omega (arith, low)), λ e. omega (arith, low)), λ e. omega (arith, low)),
          λ e. omega (arith, low),
        ),
        λ e. omega (arith, low),
      ),
      λ e. omega (arith, low),
    )

    h : NoHigh o
    h = (
      (
        (
          (
            (
              ((((tt, λ e. omega (arith, high)), λ e. omega (arith, high)), λ e. omega (arith, high)), λ e. omega (arith, high)),
              λ e. omega (arith, high),
            ),
            λ e. omega (arith, high),
          ),
          λ e. omega (arith, high),
        ),
        λ e. omega (arith, high),
      ),
      λ e. omega (arith, high),
    )

pub high-unknown : (x : Rex) (o : ℕ) (l : List ℕ) → 0xc0 ≤ o → NoHigh o → opcode x o l ≡ bad
high-unknown x o l b h = unknown x o l w m h r
  where
    w : NoLow o
    w = (((((((tt, λ e. omega arith), λ e. omega arith), λ e. omega arith), λ e. omega arith), λ e. omega arith), λ e. omega arith), λ e. omega arith)

    m : NoMiddle o
    m = (((((tt, λ e. omega arith), λ e. omega arith), λ e. omega arith), λ e. omega arith), λ e. omega arith)

    r : NoRegister o
    r = (((tt, λ e. omega arith), λ e. omega arith), λ e. omega arith)
