use Rattle.x86_reader.proofs.decode.bare_jump_at.Goals as goal

pub returns : goal.returns
returns c = rw (c.if-x.false, c.relative_at.ensures)
