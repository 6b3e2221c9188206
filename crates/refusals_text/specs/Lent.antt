-- `Sentence` (Sentences.antt) of the parameters by their names (base/specs/Lent.antt).
use Rattle.std.specs.Prelude.{ℕ}
use Rattle.base.specs.Lent.{Lent, MutLent}
use Rattle.refusals_text.specs.Sentences as S

-- the sentence of refusal `number` at `slot` of `prog` stands in `out`, and r is its length
abbrev pub Sentence : (prog : Lent) → (number slot : ℕ) → (out : MutLent) → (r : ℕ) → Type 0
Sentence prog number slot out r = S.Sentence out.entry.now out.exit.now r (S.sentence_of prog.entry.now number slot)
