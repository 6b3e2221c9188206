use Rattle.std.proofs.Common.{◌-◌, ◌≡◌, ◌+◌, length, ◌≤◌}
use Rattle.jit.specs.Limits.{longest_page}
use Rattle.listing_options.proofs.options.read_options.Given as goal

abbrev pub invariant-loop-i : goal.invariant-loop-i
invariant-loop-i l =
    (l.options.page ≤ longest_page + 1)
    × ((l.options.helpers ≤ length l.ids)
    × ((l.options.helpers ≤ length l.addresses)
    × ((length l.ids ≡ length l.initial.ids) × (length l.addresses ≡ length l.initial.addresses))))
