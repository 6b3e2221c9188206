-- An opcode's fields as the code reads them: by a mask, against rbpf's constants, which are RFC 9669's values times the mask's lowest bit.
use Rattle.std.proofs.Common.{◌≡◌, ℕ, ◌*◌, ◌/◌, ◌%◌, ◌<◌, Bool, true, false, eqb, List, [], ◌∷◌, refl, arith, eq-eqb, ne_eqb, eqb-true}
use lib.Bits.{bit_and}
use borrow.Author.Tests.{eqb-false}
use Rattle.base.specs.Cases.{Arm, ◌⇒◌, cases}
use Rattle.base.proofs.Table.{agree}
use Rattle.base.specs.Table.{values}
use Rattle.ebpf.specs.Opcode.{class_of, operation_of}

-- the arms with each number m times as large
abbrev pub times : {A : Type 0} → ℕ → List (Arm A) → List (Arm A)
times m [] = []
times m (n ⇒ a ∷ r) = (m * n) ⇒ a ∷ times m r

module _ (m : ℕ) (cancel : (a b : ℕ) → m * a ≡ m * b → a ≡ b) where
  same : (k n : ℕ) → eqb k n ≡ eqb (m * k) (m * n)
  same k n = by (eqb k n) refl
    where
      by : (t : Bool) → eqb k n ≡ t → t ≡ eqb (m * k) (m * n)
      by true q = rw (eqb-true k n q, eq-eqb (m * n) (m * n) refl)
      by false q = rw (ne_eqb (m * k) (m * n) (λ e. eqb-false k n q (cancel k n e)))

  scaled : {A : Type 0} (arms : List (Arm A)) (d : A) (k : ℕ) → cases arms d k ≡ cases (times m arms) d (m * k)
  scaled [] d k = refl
  scaled (n ⇒ a ∷ r) d k = rw (same k n, scaled r d k)

  -- where the mask gives m times the field, which is computed over all 256 opcodes, what the mask's bits pick the field's value picks
  masked : (field mask : ℕ → ℕ) → values (λ o. m * field o) 0 256 ≡ values mask 0 256
      → {A : Type 0} (arms : List (Arm A)) (d : A) (o : ℕ) {a : A} → o < 256 → a ≡ cases (times m arms) d (mask o) → a ≡ cases arms d (field o)
  masked field mask e arms d o h q = rw (scaled arms d (field o), agree (λ o. m * field o) mask 256 e o h) q

module _ {A : Type 0} (arms : List (Arm A)) (d : A) (o : ℕ) {a : A} (h : o < 256) where
  pub by-class : a ≡ cases (times 1 arms) d (bit_and o 0x07) → a ≡ cases arms d (class_of o)
  by-class = masked 1 (λ a b e. omega (arith, e)) class_of (λ o. bit_and o 0x07) refl arms d o h

  pub by-operation : a ≡ cases (times 16 arms) d (bit_and o 0xf0) → a ≡ cases arms d (operation_of o)
  by-operation = masked 16 (λ a b e. omega (arith, e)) operation_of (λ o. bit_and o 0xf0) refl arms d o h

  pub by-source : a ≡ cases (times 8 arms) d (bit_and o 0x08) → a ≡ cases arms d (o / 8 % 2)
  by-source = masked 8 (λ a b e. omega (arith, e)) (λ o. o / 8 % 2) (λ o. bit_and o 0x08) refl arms d o h

  pub by_size : a ≡ cases (times 8 arms) d (bit_and o 0x18) → a ≡ cases arms d (o / 8 % 4)
  by_size = masked 8 (λ a b e. omega (arith, e)) (λ o. o / 8 % 4) (λ o. bit_and o 0x18) refl arms d o h
