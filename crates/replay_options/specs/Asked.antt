-- What holds at every argument: as listing_options has it of its options.
use Rattle.base.specs.Lent.{MutSlice}
use Rattle.listing_options.specs.Options.{Held}
use Rattle.replay_options.specs.declared.options.Asked.{Asked}

abbrev pub Holds : Asked → (ids addresses : MutSlice) → Type 0
Holds asked ids addresses = Held asked.options ids addresses
