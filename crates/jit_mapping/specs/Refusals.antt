-- The number and the slot of each refusal of a mapped translation: the translator's own, and behind them 15 and 16, which name no slot.
use Rattle.std.specs.Prelude.{ℕ}
use Rattle.jit.specs.Refusals as jit
use Rattle.jit_mapping.specs.declared.Refusal.{Refusal}
use Rattle.jit_mapping.specs.declared.Refusal.TheVariants.{Translation, BaseTooHigh, TextTooShort}

abbrev pub number_of : Refusal → ℕ
number_of (Translation r) = jit.number_of r
number_of BaseTooHigh = 15
number_of TextTooShort = 16

abbrev pub slot_of : Refusal → ℕ
slot_of (Translation r) = jit.slot_of r
slot_of BaseTooHigh = 0
slot_of TextTooShort = 0
