-- What an access may be, and what the two areas are.
use Rattle.std.specs.Prelude.{◌≡◌, ℕ, ◌≤◌}
use Rattle.pcap.specs.Capture.{longest_packet}
use Rattle.replay.specs.Memory.{stack_size}

-- the most bytes that a load or a store moves
abbrev pub widest : ℕ
widest = 8

-- an access of so many bytes beside a packet of so many
pub record Access (packet size : ℕ) : Type 0 where
  pub short : packet ≤ longest_packet
  pub some : 1 ≤ size
  pub few : size ≤ widest

-- the two areas' lengths
pub record Areas (packet stack : ℕ) : Type 0 where
  pub short : packet ≤ longest_packet
  pub whole : stack ≡ stack_size
