use Rattle.x86_forms.proofs.ByRex.{store_byte}
use Rattle.x86_reader.proofs.Unknown.{high-unknown}
use Rattle.x86.specs.Decode.{opcode}
use Rattle.x86_reader.proofs.decode.high_opcode_at.Goals as goal

pub returns-in-198 : goal.returns-in-198
returns-in-198 c =
    let args = c.args in
    rw c.in-198.is (store_byte _ args.code.now args.at _ c.store_byte_at.ensures)

pub returns-in_default : goal.returns-in_default
returns-in_default c = high-unknown _ _ _ c.requires c.in_default.in_default-own.rest

pub returns-in-232 : goal.returns-in-232
unfolding opcode
returns-in-232 c = rw c.in-232.is c.bare_jump_at.ensures

pub returns-in-233 : goal.returns-in-233
unfolding opcode
returns-in-233 c = rw c.in-233.is c.bare_jump_at-in-233.ensures
