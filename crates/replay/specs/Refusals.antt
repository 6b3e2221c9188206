-- The number and the slot of each refusal: the translator's own, then 19, 17, 18, in this order. 17 and 18 name no slot.
use Rattle.std.specs.Prelude.{ℕ}
use Rattle.jit.specs.Refusals as jit
use Rattle.replay.specs.declared.Refusal.{Refusal}
use Rattle.replay.specs.declared.Refusal.TheVariants.{Translation, NotPcap, BadRecord, NotModelled}

abbrev pub number_of : Refusal → ℕ
number_of (Translation r) = jit.number_of r
number_of NotPcap = 17
number_of BadRecord = 18
number_of (NotModelled s) = 19

abbrev pub slot_of : Refusal → ℕ
slot_of (Translation r) = jit.slot_of r
slot_of NotPcap = 0
slot_of BadRecord = 0
slot_of (NotModelled s) = s.number
