use Rattle.x86_forms.proofs.ByRex.{store-register-byte}
use Rattle.x86.specs.Decode.{opcode}
use Rattle.x86_reader.proofs.decode.store_register_byte_at.Goals as goal

pub returns-then-x : goal.returns-then-x
returns-then-x c =
    let args = c.args in
    store-register-byte _ _ _ _ args.code.now args.at _ c.if-x.true c.store_at.ensures

pub returns : goal.returns
unfolding opcode
returns c = rw c.if-x.false
