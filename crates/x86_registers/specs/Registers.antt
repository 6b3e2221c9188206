-- The names of the registers by machine number and size (Intel 64 manual, volume 1, table 3-2). A byte register is the one that the number
-- names behind a REX: 4 to 7 are SPL, BPL, SIL and DIL.
use Rattle.std.specs.Prelude.{List, [], ◌∷◌, ◌++◌, ℕ, ltb}
use Rattle.base.specs.Pick.{pick}
use Rattle.base.specs.Cases.{Arm, ◌⇒◌, cases}
use Rattle.base.specs.declared.Size.{Size}
use Rattle.base.specs.declared.Size.TheVariants.{S8, S16, S32, S64}
use Rattle.text.specs.Text.{ascii}
use Rattle.text.specs.Forms.{formed}

abbrev pub stems : List (Arm (List ℕ))
stems = 6 ⇒ ascii "si" ∷ 5 ⇒ ascii "bp" ∷ 4 ⇒ ascii "sp" ∷ 3 ⇒ ascii "bx" ∷ 2 ⇒ ascii "dx" ∷ 1 ⇒ ascii "cx" ∷ 0 ⇒ ascii "ax" ∷ []

unfoldable pub stem_text : ℕ → List ℕ
stem_text r = cases stems (ascii "di") r

abbrev pub byte_names : List (Arm (List ℕ))
byte_names = 6 ⇒ ascii "sil" ∷ 5 ⇒ ascii "bpl" ∷ 4 ⇒ ascii "spl" ∷ 3 ⇒ ascii "bl" ∷ 2 ⇒ ascii "dl" ∷ 1 ⇒ ascii "cl" ∷ 0 ⇒ ascii "al" ∷ []

unfoldable pub byte_text : ℕ → List ℕ
byte_text r = cases byte_names (ascii "dil") r

-- the eight old registers
abbrev pub low_text : Size → ℕ → List ℕ
low_text S8 r = byte_text r
low_text S16 r = stem_text r
low_text S32 r = ascii "e" ++ stem_text r
low_text S64 r = ascii "r" ++ stem_text r

-- R8 to R15
abbrev pub suffix_text : Size → List ℕ
suffix_text S8 = ascii "b"
suffix_text S16 = ascii "w"
suffix_text S32 = ascii "d"
suffix_text S64 = []

unfoldable pub register_text : Size → ℕ → List ℕ
register_text z r = pick (ltb r 8) (low_text z r) (formed (ascii "r#") (r ∷ []) ++ suffix_text z)
