use mathlib.Core.Path.{refl}
use native.Mathlib.Omega.{arith}
use Rattle.x86.specs.Encode.{rex, modrm}
use Rattle.jit.specs.Frame.{saves}
use Rattle.x86_emit.proofs.WroteLaws.{same}
use Rattle.x86_page.proofs.TwoWords.{two}
use borrow.Author.Rules.{rules}
use Rattle.jit_writing.proofs.frame.emit_saves.Goals as goal

pub returns : goal.returns
unfolding saves rex modrm
returns c =
    let args = c.args in
    let pre = c.requires in
    let stored = c.emit_words.ensures in
    rw stored.0 (same (two args.at.offset 0x5741564155415355 0xd28949 3 (omega arith) (omega (arith, pre)) stored.1) refl)
