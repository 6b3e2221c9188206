use Rattle.x86_forms.proofs.ByRex.{load_byte, load-two}
use Rattle.base.proofs.Tests.{eqb-false}
use Rattle.x86.specs.Decode.{opcode}
use Rattle.x86_reader.proofs.decode.extending_at.Goals as goal

pub returns-in-W64 : goal.returns-in-W64
unfolding opcode
returns-in-W64 c = rw (eqb-false _ _ c.requires.0, eqb-false _ _ c.requires.1, c.in-W64.is)

pub returns-in-182 : goal.returns-in-182
returns-in-182 c =
    let args = c.args in
    rw c.in-182.is (load_byte _ _ _ _ args.code.now args.at _ c.in-W32.is c.load_at.ensures)

pub returns-in-183 : goal.returns-in-183
returns-in-183 c =
    let args = c.args in
    rw c.in-183.is (load-two _ _ _ _ args.code.now args.at _ c.in-W32.is c.load_at-in-183.ensures)

pub returns-in_default : goal.returns-in_default
unfolding opcode
returns-in_default c =
    rw (
      eqb-false _ _ c.requires.0,
      eqb-false _ _ c.requires.1,
      c.in-W32.is,
      eqb-false _ _ c.in_default.in_default-own.rest.0.1,
      eqb-false _ _ c.in_default.in_default-own.rest.1,
    )
