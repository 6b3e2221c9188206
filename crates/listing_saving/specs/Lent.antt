-- The line (Saving.antt), of the parameters by their names (base/specs/Lent.antt).
use Rattle.std.specs.Prelude.{ℕ}
use Rattle.base.specs.Lent.{Lent, MutLent}
use Rattle.jit.specs.declared.Flags.{Flags}
use Rattle.jit.specs.declared.Mode.{Mode}
use Rattle.jit.specs.Lent.{filter_of}
use Rattle.jit.specs.Translation.{translation_of}
use Rattle.jit_translate.specs.Translated.{Answer, answer_of}
use Rattle.text.specs.Lent.{Says, given}
use Rattle.listing_saving.specs.Saving as S
use Rattle.listing_saving.specs.Saving.{turned, roomy}

-- the answer with the flag the other way. SavingLaws.antt says that it does not hang on the tables
abbrev pub other_answer : (prog : Lent) → Flags → Mode → (ids addresses : Lent) → (page : ℕ) → Answer
other_answer prog flags mode ids addresses page =
    answer_of (translation_of (roomy (filter_of prog (turned mode) ids addresses) flags page))

-- THE CONTRACT of `put_saving`
abbrev pub SaysSaving : (line : MutLent) (prog : Lent) → Flags → Mode → (ids addresses : Lent) → (page : ℕ) → (own : Answer) → (r : ℕ) → Type 0
SaysSaving line prog flags mode ids addresses page own r =
    Says line 0 r (S.saving_of (given prog) mode.compact own (other_answer prog flags mode ids addresses page))

-- THE CONTRACT of `list_saving`
abbrev pub ListsSaving : (line : MutLent) (prog : Lent) → Flags → Mode → (ids addresses : Lent) → (page : ℕ) → (own : Answer) → (r : ℕ) → Type 0
ListsSaving line prog flags mode ids addresses page own r =
    Says line 0 r (S.listed (S.saving_of (given prog) mode.compact own (other_answer prog flags mode ids addresses page)))
