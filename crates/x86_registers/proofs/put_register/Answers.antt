use borrow.Author.Tests.{le-ltb}
use Rattle.text.proofs.SaysLaws.{same, then}
use Rattle.x86_registers.specs.Registers.{register_text}
use Rattle.x86_registers.proofs.put_register.Goals as goal

pub returns : goal.returns
unfolding register_text
returns c =
    same (then c.put_form-next.ensures c.put_text.ensures)
    (rw (le-ltb _ _ c.if-r-lt8.false, c.suffix.ensures, c.from.ensures))
