use Rattle.jit_mapping.proofs.JudgedLaws.{room-sure}
use Rattle.jit_mapping.specs.Passes.{filter_at}
use Rattle.jit_mapping.proofs.RoomLaws.{walk-most}
use Rattle.jit_mapping.proofs.mapped.has_room.Goals as goal

pub returns-then-filter-room : goal.returns-then-filter-room
returns-then-filter-room c =
    let pre = c.requires in
    let most = walk-most (filter_at c.args.filter) c.args.page c.args.start.offset c.args.base pre.accepted.0.walk.walk pre.limits.0 pre.accepted.1 in
    room-sure most c.if-filter-room.true
