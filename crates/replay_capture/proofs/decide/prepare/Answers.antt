use Rattle.std.proofs.Common.{◌≡◌, ℕ, sym, refl, ap, ◌∙◌, arith, rules}
use Rattle.replay.specs.Report.{inputs_of}
use Rattle.replay_capture.specs.Decided.{decided_in}
use Rattle.replay_capture.proofs.DecidedLaws.{never, told_back, not-translated, then-slots, sizes}
use Rattle.replay_capture.proofs.decide.prepare.Goals as goal

pub code_slots-requires : goal.code_slots-requires
code_slots-requires c =
    let at = c.args in
    let fit = sizes at.prog.now at.ids.now at.addresses.now at.page at.counts
    (sym c.translated.ensures ∙ c.in-Ok.is) in
    omega (arith, fit.short)

pub all_modelled-requires : goal.all_modelled-requires
all_modelled-requires c =
    let at = c.args in
    let fit = sizes at.prog.now at.ids.now at.addresses.now at.page at.counts
    (sym c.translated.ensures ∙ c.in-Ok.is) in
    (c.code_slots.ensures, omega (arith, fit.short))

pub returns-in-Err : goal.returns-in-Err
returns-in-Err c =
    let at = c.args in
    let e = sym c.translated.ensures ∙ c.in-Err.is in
    record {
      decided = rw (
        c.from.ensures,
        not-translated (inputs_of at.prog.now at.ids.now at.addresses.now at.page
            at.counts) e,
      );
      coded = λ q. never q;
      few = λ q. never q;
      counts_for = λ q. never q;
    }

pub returns-in-Ok : goal.returns-in-Ok
returns-in-Ok c =
    let at = c.args in
    let x = inputs_of at.prog.now at.ids.now at.addresses.now at.page at.counts in
    let e = sym c.translated.ensures ∙ c.in-Ok.is in
    let fit = sizes at.prog.now at.ids.now at.addresses.now at.page at.counts e in
    record {
      decided = told_back c.all_modelled.result ∙ ap decided_in (c.all_modelled.ensures ∙ sym (then-slots x e));
      coded = λ q. c.code_slots.ensures;
      few = λ q. omega (arith, fit.short);
      counts_for = λ q. fit.counts_for;
    }
