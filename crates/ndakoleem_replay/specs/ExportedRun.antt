-- What the exported function that runs one packet answers: `PacketReplayed` (crates/replay_capture/specs/Packet.antt), of an answer whose four
-- numbers are the struct's. No refusal has number 0, so where the number is 0 the packet was run; a refusal changes nothing of what is lent
-- (`ran-so` and `refused-so`, proofs/ExportedRunLaws.antt). It is a library of its own: a loader that compares nothing links nothing of it.
use Rattle.std.specs.Prelude.{◌≡◌, List, ℕ, Result, Ok, Err}
use Rattle.jit.specs.Translation.{Inputs}
use Rattle.replay.specs.Refusals.{number_of, slot_of}
use Rattle.replay.specs.declared.Refusal.{Refusal}
use Rattle.replay.specs.declared.Ended as ended
use Rattle.replay.specs.declared.Ended.TheVariants.{Exit, StepLimit, Access, NoSlot}
use Rattle.replay_capture.specs.Packet.{PacketReplayed}
use Rattle.ndakoleem_replay.specs.declared.RanPacket.{RanPacket}

-- how a run ended, as a number, and what r0 was
abbrev pub ended_of : ended.Ended → ℕ
ended_of (Exit r0) = 0
ended_of StepLimit = 1
ended_of Access = 2
ended_of NoSlot = 3

abbrev pub value_of : ended.Ended → ℕ
value_of (Exit r0) = r0
value_of StepLimit = 0
value_of Access = 0
value_of NoSlot = 0

-- the four numbers of an answer
abbrev pub number_in : Result ended.Ended Refusal → ℕ
number_in (Ok e) = 0
number_in (Err r) = number_of r

abbrev pub slot_in : Result ended.Ended Refusal → ℕ
slot_in (Ok e) = 0
slot_in (Err r) = slot_of r

abbrev pub ended_in : Result ended.Ended Refusal → ℕ
ended_in (Ok e) = ended_of e
ended_in (Err r) = 0

abbrev pub value_in : Result ended.Ended Refusal → ℕ
value_in (Ok e) = value_of e
value_in (Err r) = 0

-- THE CONTRACT, for what is asked, the packet, and the buffer for its copy and the counts at entry and at exit
pub record ExportedRun (x : Inputs) (packet copy copy' counts counts' : List ℕ) (r : RanPacket) : Type 0 where
  pub answer : Result ended.Ended Refusal
  pub replayed : PacketReplayed x packet copy copy' counts counts' answer
  pub number_is : r.number ≡ number_in answer
  pub slot_is : r.slot ≡ slot_in answer
  pub ended_is : r.ended ≡ ended_in answer
  pub value_is : r.r0 ≡ value_in answer
