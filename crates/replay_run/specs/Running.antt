-- What a run needs, and what it leaves, over lists.
use Rattle.std.specs.Prelude.{◌≡◌, ℕ, ◌≤◌, List, length}
use Rattle.jit.specs.Translation.{slots_of}
use Rattle.pcap.specs.Capture.{longest_packet}
use Rattle.replay.specs.declared.Ended.{Ended}
use Rattle.replay.specs.Memory.{State}
use Rattle.replay.specs.Run.{Run, run_from, step_limit, run_of}
use Rattle.replay.specs.Report.{tallied}
use Rattle.replay_memory.specs.Access.{Areas}
use Rattle.replay_slots.specs.Codes.{Coded}

-- a program with its table of codes, and an entry of the counts for each slot
pub record Prepared (codes program counts : List ℕ) : Type 0 where
  pub coded : Coded program codes
  pub codes_for : slots_of program ≤ length codes
  pub counts_for : slots_of program ≤ length counts

pub record Running (codes program counts regs stack packet : List ℕ) : Type 0 where
  pub prepared : Prepared codes program counts
  pub eleven : length regs ≡ 11
  pub areas : Areas (length packet) (length stack)

pub record Starting (codes program counts packet : List ℕ) : Type 0 where
  pub prepared : Prepared codes program counts
  pub short : length packet ≤ longest_packet

-- how a run ended, the counts with the slots that it ran, and the packet as it left it
pub record Left (run : Run) (counts counts' packet' : List ℕ) (r : Ended) : Type 0 where
  pub how : r ≡ run.how
  pub counts_are : counts' ≡ tallied run.ran counts
  pub packet_is : packet' ≡ run.packet
