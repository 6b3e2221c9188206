-- The laws of specs/Kinds.antt.
use Rattle.std.proofs.Common.{◌≡◌, ℕ, ◌+◌, ◌<◌, Bool, true, false, ltb, map, length, get_or, refl, ◌∙◌, arith, ltb-false, ltb-true}
use mathlib.Core.List.{sum}
use lib.ListN.{get_or-eq_default}
use Rattle.ebpf.specs.declared.kind.Lookup.{Lookup}
use Rattle.ebpf.specs.declared.kind.Lookup.TheVariants.{Known, Unimplemented, Unknown}
use Rattle.base.proofs.Table.{rule}
use Rattle.base.specs.Table.{along, values}
use Rattle.ebpf.specs.Opcode.{kind_of}
use Rattle.ebpf.specs.Kinds.{number_of, numbered, numbers}

-- the test, computed over all 256 opcodes
follows : along numbered 0 numbers ≡ values kind_of 0 256
unfolding kind_of numbers
follows = refl

sized : length numbers ≡ 256
unfolding numbers
sized = refl

-- the law: an entry is its opcode's kind
pub entry : (o : ℕ) → o < 256 → numbered o (get_or numbers o 0) ≡ kind_of o
entry o h = rule kind_of numbered Unknown numbers 256 follows sized o h

-- and its number
counted : along (λ o x. x) 0 numbers ≡ values (λ o. number_of (kind_of o)) 0 256
unfolding numbers
counted = refl

pub number-at : (o : ℕ) → o < 256 → get_or numbers o 0 ≡ number_of (kind_of o)
number-at o h = rule (λ o. number_of (kind_of o)) (λ o x. x) 0 numbers 256 counted sized o h

-- a number that is not 0 is an entry
pub in_table : (o : ℕ) {x : ℕ} → x ≡ get_or numbers o 0 → ¬ (x ≡ 0) → o < 256
in_table o e n = by (ltb o 256) refl
  where
    by : (t : Bool) → ltb o 256 ≡ t → o < 256
    by true q = ltb-true o 256 q
    by false q = absurd (n (e ∙ get_or-eq_default numbers 0 (omega (arith, sized, ltb-false o 256 q))))

-- 120 opcodes are known, three are not implemented, 133 are unknown
abbrev known : Lookup → ℕ
known (Known k) = 1
known Unimplemented = 0
known Unknown = 0

abbrev unimplemented : Lookup → ℕ
unimplemented (Known k) = 0
unimplemented Unimplemented = 1
unimplemented Unknown = 0

counts : (sum ◌+◌ 0 (map known (values kind_of 0 256)) ≡ 120) × (sum ◌+◌ 0 (map unimplemented (values kind_of 0 256)) ≡ 3)
unfolding kind_of sum
counts = (refl, refl)
