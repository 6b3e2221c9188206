-- What is answered for one packet, and what is left of what is lent: the run of the packet; or a refusal, the filter's own, then 18 where the
-- packet is above 65,535 bytes or there is no room for its copy. A refusal changes nothing.
use Rattle.std.specs.Prelude.{◌≡◌, ℕ, ◌||◌, List, [], length, nat_lt, Result, Ok, Err}
use Rattle.base.specs.Lists.{over}
use Rattle.base.specs.Pick.{pick}
use Rattle.jit.specs.Translation.{Inputs}
use Rattle.pcap.specs.Capture.{longest_packet}
use Rattle.replay.specs.declared.Ended.{Ended}
use Rattle.replay.specs.declared.Refusal.{Refusal}
use Rattle.replay.specs.declared.Refusal.TheVariants.{BadRecord}
use Rattle.replay.specs.Run as model
use Rattle.replay.specs.Run.{run_of}
use Rattle.replay.specs.Report.{Verdict, runs, refused, verdict_of, tallied}

pub data PacketRun : Type 0 where
  no : Refusal → PacketRun
  ran : model.Run → PacketRun

abbrev pub of_packet : Verdict → (program packet : List ℕ) → (room : ℕ) → PacketRun
of_packet (refused r) program packet room = no r
of_packet runs program packet room =
    pick (nat_lt longest_packet (length packet) || nat_lt room (length packet)) (no BadRecord) (ran (run_of program packet))

-- `room` is the length of the buffer for the copy
abbrev pub packet_of : Inputs → (packet : List ℕ) → (room : ℕ) → PacketRun
packet_of x packet room = of_packet (verdict_of x) x.filter.program packet room

abbrev pub answer_of : PacketRun → Result Ended Refusal
answer_of (no r) = Err r
answer_of (ran r) = Ok r.how

-- the slots that ran, and the packet as the run left it
abbrev pub ran_in : PacketRun → List ℕ
ran_in (no r) = []
ran_in (ran r) = r.ran

abbrev pub copy_in : PacketRun → List ℕ
copy_in (no r) = []
copy_in (ran r) = r.packet

-- THE CONTRACT of `replay_packet`: the answer; the counts with the slots that ran; and the packet as the run left it, at the head of the copy
pub record PacketReplayed (x : Inputs) (packet copy copy' counts counts' : List ℕ) (r : Result Ended Refusal) : Type 0 where
  pub answer : r ≡ answer_of (packet_of x packet (length copy))
  pub counts_are : counts' ≡ tallied (ran_in (packet_of x packet (length copy))) counts
  pub copy_is : copy' ≡ over (copy_in (packet_of x packet (length copy))) copy
