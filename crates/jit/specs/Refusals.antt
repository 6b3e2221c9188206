-- The number and the slot of each refusal: the table of docs/REFUSALS.md. A refusal that names no slot gives 0.
use Rattle.std.specs.Prelude.{ℕ}
use Rattle.jit.specs.declared.Refusal.{Refusal}
use Rattle.jit.specs.declared.Refusal.TheVariants.{PageTooShort, PageTooLong, ProgramTooLong, TableTooShort, BadHelpers, Torn, BadRegister}
use Rattle.jit.specs.declared.Refusal.TheVariants.{UnknownOpcode, Unimplemented, BadSwap, UnknownHelper, BadCall, NoRoom, BadTarget}

abbrev pub number_of : Refusal → ℕ
number_of PageTooShort = 1
number_of PageTooLong = 2
number_of ProgramTooLong = 3
number_of TableTooShort = 4
number_of BadHelpers = 5
number_of (Torn s) = 6
number_of (BadRegister s) = 7
number_of (UnknownOpcode s) = 8
number_of (Unimplemented s) = 9
number_of (BadSwap s) = 10
number_of (UnknownHelper s) = 11
number_of (BadCall s) = 12
number_of (NoRoom s) = 13
number_of (BadTarget s) = 14

abbrev pub slot_of : Refusal → ℕ
slot_of PageTooShort = 0
slot_of PageTooLong = 0
slot_of ProgramTooLong = 0
slot_of TableTooShort = 0
slot_of BadHelpers = 0
slot_of (Torn s) = s.number
slot_of (BadRegister s) = s.number
slot_of (UnknownOpcode s) = s.number
slot_of (Unimplemented s) = s.number
slot_of (BadSwap s) = s.number
slot_of (UnknownHelper s) = s.number
slot_of (BadCall s) = s.number
slot_of (NoRoom s) = s.number
slot_of (BadTarget s) = s.number
