-- Reading code end to end: from its first byte, one instruction behind another by a processor's reader, until no byte is left.
use Rattle.std.specs.Prelude.{List, [], ◌∷◌, ℕ, zero, suc, length}
use Rattle.code.specs.Instr.{Instr}

-- the instruction, and the bytes behind it
pub data Read (P J : Type 0) : Type 0 where
  bad : Read P J
  got : Instr P J ℕ → List ℕ → Read P J

-- a byte that starts no instruction, or all instructions
pub data Reads (P J : Type 0) : Type 0 where
  torn : Reads P J
  all : List (Instr P J ℕ) → Reads P J

module _ {P J : Type 0} where
  abbrev pub cons : Instr P J ℕ → Reads P J → Reads P J
  cons i torn = torn
  cons i (all l) = all (i ∷ l)

  abbrev pub onward : Read P J → (List ℕ → Reads P J) → Reads P J
  onward bad k = torn
  onward (got i r) k = cons i (k r)

  abbrev pub ended : List ℕ → Reads P J
  ended [] = all []
  ended (b ∷ r) = torn

module _ {P J : Type 0} (decode : List ℕ → Read P J) where
  abbrev pub more : List ℕ → (List ℕ → Reads P J) → Reads P J
  more [] k = all []
  more (b ∷ r) k = onward (decode (b ∷ r)) k

  -- n instructions at most
  unfoldable pub read_up_to : ℕ → List ℕ → Reads P J
  read_up_to zero l = ended l
  read_up_to (suc n) l = more l (λ t. read_up_to n t)

  -- each has a byte, so that there are no more of them than bytes
  abbrev pub read_all : List ℕ → Reads P J
  read_all code = read_up_to (length code) code
