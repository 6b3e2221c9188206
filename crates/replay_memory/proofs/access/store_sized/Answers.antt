use Rattle.std.proofs.Common.{Some, length, ap, ◌∙◌, rules}
use Rattle.replay_memory.proofs.AccessLaws.{access, Placed, found, packet-holds, stack-holds}
use Rattle.replay_memory.proofs.access.store_sized.Goals as goal

pub store-requires : goal.store-requires
store-requires c =
    let a = c.args in
    let place = rw c.bytes_of.ensures at c.place_of.ensures in
    let placed : Placed a.z (length a.packet.now) (length a.stack.now) a.address c.place_of.result = record { areas = c.requires; place = place } in
    packet-holds placed (c.in-Some-Packet.is ∙ ap Some c.in-Some-Packet.field-0-is)

pub store-requires-in-Some-Stack : goal.store-requires-in-Some-Stack
store-requires-in-Some-Stack c =
    let a = c.args in
    let place = rw c.bytes_of.ensures at c.place_of.ensures in
    let placed : Placed a.z (length a.packet.now) (length a.stack.now) a.address c.place_of.result = record { areas = c.requires; place = place } in
    stack-holds placed (c.in-Some-Stack.is ∙ ap Some c.in-Some-Stack.field-0-is)
