use Rattle.std.proofs.Common.{Some, length, ap, ◌∙◌, rules}
use Rattle.replay_memory.proofs.AccessLaws.{access, Placed, found, packet-holds, stack-holds}
use Rattle.replay_memory.proofs.access.load_sized.Goals as goal

pub load-requires : goal.load-requires
load-requires c =
    let a = c.args in
    let place = rw c.bytes_of.ensures at c.place_of.ensures in
    let placed : Placed a.z (length a.packet.now) (length a.stack.now) a.address c.place_of.result = record { areas = c.requires; place = place } in
    packet-holds placed (c.in_ok-at.was ∙ ap Some c.in-Packet.is)

pub load-requires-in-Stack : goal.load-requires-in-Stack
load-requires-in-Stack c =
    let a = c.args in
    let place = rw c.bytes_of.ensures at c.place_of.ensures in
    let placed : Placed a.z (length a.packet.now) (length a.stack.now) a.address c.place_of.result = record { areas = c.requires; place = place } in
    stack-holds placed (c.in_ok-at.was ∙ ap Some c.in-Stack.is)
