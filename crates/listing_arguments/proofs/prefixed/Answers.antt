use Rattle.listing_arguments.proofs.ArgumentsLaws.{to_end, plain-short, plain-first, plain_second, hexadecimal}
use mathlib.Core.Path.{◌∙◌}
use native.Mathlib.Omega.{arith}
use borrow.Author.Rules.{rules}
use Rattle.listing_arguments.proofs.prefixed.Goals.{in_default-via-then-word-lt2, in_default-via-else-word-lt2+in-48+in_default-1, in_default-via-else-word-lt2+in_default-1}
use Rattle.listing_arguments.proofs.prefixed.Goals as goal

pub returns-in-48 : goal.returns-in-48
returns-in-48 c = c.digits.ensures ∙ rw to_end (hexadecimal _ _ (search rules) (search rules))

pub returns-in_default : goal.returns-in_default
returns-in_default c =
    c.digits-in_default.ensures
    ∙ elim c.in_default.branch [
      | in_default-via-then-word-lt2 w ↦ plain-short _ _ (search rules)
      | in_default-via-else-word-lt2+in-48+in_default-1 w ↦ plain_second _ _ (search rules)
      | in_default-via-else-word-lt2+in_default-1 w ↦ plain-first _ _ (search rules)
    ]
