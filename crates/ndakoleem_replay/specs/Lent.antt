-- The contract of `ndakoleem_run_packet_1`, of its parameters by their names (base/specs/Lent.antt).
use Rattle.std.specs.Prelude.{ℕ, length}
use Rattle.base.specs.Lent.{Lent, MutLent}
use Rattle.replay.specs.Report.{inputs_of}
use Rattle.ndakoleem_replay.specs.declared.RanPacket.{RanPacket}
use Rattle.ndakoleem_replay.specs.ExportedRun as R

abbrev pub ExportedRun : (program ids addresses : Lent) → (page : ℕ) → (packet : Lent) (copy counts : MutLent) → RanPacket → Type 0
ExportedRun program ids addresses page packet copy counts r =
    R.ExportedRun (inputs_of program.entry.now ids.entry.now addresses.entry.now page (length counts.entry.now))
    packet.entry.now copy.entry.now copy.exit.now counts.entry.now counts.exit.now r
