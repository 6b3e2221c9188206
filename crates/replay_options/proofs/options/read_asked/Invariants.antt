use Rattle.std.proofs.Common.{◌-◌, ◌≡◌, ◌+◌, length, ◌≤◌}
use Rattle.jit.specs.Limits.{longest_page}
use Rattle.replay_options.proofs.options.read_asked.Given as goal

abbrev pub invariant-loop-index : goal.invariant-loop-index
invariant-loop-index l =
    (l.asked.options.page ≤ longest_page + 1)
    × ((l.asked.options.helpers ≤ length l.ids)
    × ((l.asked.options.helpers ≤ length l.addresses)
    × ((length l.ids ≡ length l.initial.ids) × (length l.addresses ≡ length l.initial.addresses))))
