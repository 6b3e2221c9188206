use borrow.Author.Rules.{rules}
use Rattle.jit_translate.proofs.PageLaws.{closing, short, written, named}
use native.Mathlib.Omega.{arith}
use mathlib.Core.Path.{refl}
use Rattle.jit_translate.proofs.translate.write_page.Goals as goal

pub write_end-requires : goal.write_end-requires
write_end-requires c =
    let kept = c.write_begin-end.auto in
    closing c.requires.decided c.write_begin-end.ensures.0 refl refl
    (record { fields = refl; targets = refl; kinds = refl; makers = refl }) kept.code kept.locations

pub overflow_add-length : goal.overflow_add-length
overflow_add-length c =
    omega (
      arith,
      short c.requires.decided c.write_begin-end.ensures.0 refl refl
          (record { fields = refl; targets = refl; kinds = refl; makers = refl }),
    )

pub returns : goal.returns
returns c =
    let good = c.requires.decided in
    let begun = c.write_begin-end.ensures.0 in record {
      translated = written good begun refl refl (record { fields = refl; targets = refl; kinds = refl; makers = refl })
          (search rules) (search rules) c.write_begin-end.auto.code c.write_end.ensures;
      named = named good begun refl refl (record { fields = refl; targets = refl; kinds = refl; makers = refl })
          (search rules) (search rules);
    }
