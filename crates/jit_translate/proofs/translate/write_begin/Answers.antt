use borrow.Author.Rules.{rules}
use Rattle.jit_translate.proofs.PageLaws.{prologue-room, slots-bounded, slots-fitting, begun}
use native.Mathlib.Omega.{arith}
use mathlib.Core.Path.{refl}
use Rattle.jit_translate.proofs.translate.write_begin.Goals as goal

pub emit_prologue-start-requires : goal.emit_prologue-start-requires
emit_prologue-start-requires c =
    let pre = c.requires.decided in
    rw pre.1 (prologue-room pre.0 refl (record { fields = refl; targets = refl; kinds = refl; makers = refl }))

pub write_slots-requires : goal.write_slots-requires
write_slots-requires c =
    let pre = c.requires.decided in
    let entered = rw pre.1 at c.emit_prologue-start.ensures.0 in record {
      limits = slots-bounded pre.0 entered;
      fitting = slots-fitting pre.0 entered (omega arith) refl
          (record { fields = refl; targets = refl; kinds = refl; makers = refl });
    }

pub returns : goal.returns
returns c =
    let pre = c.requires.decided in
    let entered = rw pre.1 at c.emit_prologue-start.ensures.0 in
    (begun pre.0 entered c.write_slots.ensures.0, search rules)
