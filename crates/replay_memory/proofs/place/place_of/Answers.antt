use Rattle.std.proofs.Common.{sym, arith, rules}
use Rattle.replay_memory.proofs.PlaceLaws.{in-packet, in_stack, in-none}
use Rattle.replay_memory.proofs.place.place_of.Goals as goal

pub returns-then-size-packet : goal.returns-then-size-packet
returns-then-size-packet c = sym (in-packet _ _ _ _ (record { starts = omega arith; ends = omega arith }))

pub returns-then-in_packet-packet : goal.returns-then-in_packet-packet
returns-then-in_packet-packet c = sym (in-none _ _ _ (λ s e. omega arith) (λ s e. omega arith))

pub returns-then-in_stack-size : goal.returns-then-in_stack-size
returns-then-in_stack-size c = sym (in_stack _ _ _ _ c.requires (record { starts = omega arith; ends = omega arith }))

pub returns : goal.returns
returns c = sym (in-none _ _ _ (λ s e. omega arith) (λ s e. omega arith))
