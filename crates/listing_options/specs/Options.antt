-- What holds of the options at every argument: there is room for the page, and the helpers stand at the start of `ids` and `addresses`.
use Rattle.std.specs.Prelude.{◌+◌, ◌≤◌, length}
use Rattle.base.specs.Lent.{MutSlice}
use Rattle.jit.specs.Limits.{longest_page}
use Rattle.listing_options.specs.declared.options.Options.{Options}

abbrev pub Held : Options → (ids addresses : MutSlice) → Type 0
Held options ids addresses =
    (options.page ≤ longest_page + 1) × ((options.helpers ≤ length ids.now) × (options.helpers ≤ length addresses.now))
