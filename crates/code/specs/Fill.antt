-- Code that is written with blank fields, and the filling of them: for any processor.
use Rattle.std.specs.Prelude.{List, [], ◌∷◌, ◌++◌, ℕ, ◌+◌, ◌-◌, ◌%◌, ◌^◌, take, drop}
use Rattle.std.proofs.lemmas.List.Edits.{sets}
use Rattle.base.specs.Bytes.{le32, join}
use Rattle.code.specs.Instr.{Instr, Dest, near, to, Isa}
use Rattle.code.specs.Code.{map_i, encode}

-- the distance before its target's place is known
abbrev pub blank : Dest → ℕ
blank (near k) = k
blank (to t) = 0

-- the jump whose word is at f goes to its target's place minus the word's end, modulo 2 ^ 32
abbrev pub value_at : (ℕ → ℕ) → ℕ → ℕ → ℕ
value_at loc f t = (loc t + (2 ^ 32 - (f + 4) % 2 ^ 32)) % 2 ^ 32

-- the word that stands at f
abbrev pub word_at : List ℕ → ℕ → ℕ
word_at code f = join (take 4 (drop f code))

module _ {P J : Type 0} (m : Isa P J) where
  -- what stands there before the fields are filled
  abbrev pub blanks : List (Instr P J Dest) → List ℕ
  blanks [] = []
  blanks (i ∷ is) = encode m (map_i blank i) ++ blanks is

  abbrev pub filled : (ℕ → ℕ) → List ℕ → List ℕ → List ℕ → List ℕ
  filled loc [] ts code = code
  filled loc (f ∷ fs) [] code = code
  filled loc (f ∷ fs) (t ∷ ts) code = filled loc fs ts (sets code f (le32 (m.patch (word_at code f) (value_at loc f t))))
