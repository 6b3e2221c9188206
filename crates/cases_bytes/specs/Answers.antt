-- The bytes of an answer, and the line that tells a refusal.
use Rattle.std.specs.Prelude.{Bool, ◌&&◌, List, [], ◌∷◌, ◌++◌, ℕ, ◌+◌, ◌*◌, min, leb, length}
use Rattle.base.specs.Bytes.{le32}
use Rattle.jit.specs.Refusals.{number_of, slot_of}
use Rattle.jit.specs.declared.Refusal.{Refusal}
use Rattle.text.specs.Text.{ascii}
use Rattle.text.specs.Forms.{formed}
use Rattle.cases_bytes.specs.Limits.{lent_page, lent_table, longest_answer}

-- a record: in four bytes the length of the rest, and the rest
unfoldable pub framed : List ℕ → List ℕ
framed body = le32 (length body) ++ body

-- refused: the number, the slot
unfoldable pub refused_bytes : Refusal → List ℕ
refused_bytes r = framed (number_of r ∷ le32 (min (slot_of r) 4294967295))

-- the entries of a table, four bytes each
abbrev pub entries : List ℕ → List ℕ
entries [] = []
entries (x ∷ xs) = le32 x ++ entries xs

-- accepted: 0; L, J and n + 1; the code; the locations, the jumps' fields and targets; their kinds and makers, which are none where the case
-- does not ask for them
abbrev pub tables : (locations fields targets kinds makers : List ℕ) → List ℕ
tables l f t k m = entries l ++ (entries f ++ (entries t ++ (entries k ++ entries m)))

unfoldable pub accepted_bytes : (code locations fields targets kinds makers : List ℕ) → List ℕ
accepted_bytes c l f t k m = framed (0 ∷ (le32 (length c) ++ (le32 (length f) ++ (le32 (length l) ++ (c ++ tables l f t k m)))))

-- its first 17 bytes, from lengths alone, the last that of all tables together
unfoldable pub accepted_head : (code locations fields all : ℕ) → List ℕ
accepted_head c l f all = le32 (13 + c + 4 * all) ++ (0 ∷ (le32 c ++ (le32 f ++ le32 l)))

-- what there is room for: the nine bytes of a refusal
abbrev pub refused_fits : List ℕ → Bool
refused_fits o = leb 9 (length o)

-- .. the longest answer, with the largest page and tables that are lent
unfoldable pub room_for : (out code locations fields targets kinds makers : ℕ) → Bool
room_for o c l f t k m =
    leb longest_answer o
    && (leb c lent_page && (leb l lent_table && (leb f lent_table && (leb t lent_table && (leb k lent_table && leb m lent_table)))))

-- as `refused 6 0`
unfoldable pub refused_line : (number slot : ℕ) → List ℕ
refused_line number slot = formed (ascii "refused # #") (number ∷ slot ∷ []) ++ (10 ∷ [])

abbrev pub refusal_line : Refusal → List ℕ
refusal_line r = refused_line (number_of r) (slot_of r)
