use mathlib.Core.Path.{◌∙◌}
use Rattle.base.specs.Bytes.{le64}
use Rattle.x86.specs.Encode.{rex, modrm}
use Rattle.jit.specs.Frame.{epilogue}
use Rattle.base.proofs.Lists.{sets-append}
use borrow.Author.Rules.{rules}
use Rattle.jit_writing.proofs.frame.emit_epilogue.Goals as goal

pub returns : goal.returns
unfolding epilogue rex modrm
returns c =
    let args = c.args in
    c.emit_words.ensures.1 ∙ sets-append args.code.now args.at.offset (le64 0x4100000200c48148)
    (le64 0xc35d5b5d415e415f)
