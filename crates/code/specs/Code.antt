-- Code as the definition sees it: instructions whose jumps carry destinations. Its bytes, the places of its jump fields, and their targets:
-- for any processor.
use Rattle.std.specs.Prelude.{List, [], ◌∷◌, ◌++◌, ℕ, ◌+◌, ◌-◌, ◌%◌, length}
use Rattle.base.specs.Bytes.{le32}
use Rattle.code.specs.Instr.{Instr, op, jump, call_reg, ret, Dest, near, to, Isa}

-- the distance that a jump which ends at e carries: its target's place minus e, modulo 2 ^ 32
abbrev pub field : (ℕ → ℕ) → ℕ → Dest → ℕ
field loc e (near k) = k
field loc e (to t) = (loc t + 4294967296 - e) % 4294967296

-- the listed target of an instruction, and where the word of one that ends at e lies
abbrev pub dest_target : Dest → List ℕ
dest_target (near k) = []
dest_target (to t) = t ∷ []

abbrev pub dest_field : ℕ → Dest → List ℕ
dest_field e (near k) = []
dest_field e (to t) = (e - 4) ∷ []

-- the bytes of a list of things that have so many each
abbrev pub span : {C : Type 0} → (len : C → ℕ) → List C → ℕ
span len [] = 0
span len (c ∷ r) = len c + span len r

module _ {P J : Type 0} where
  abbrev pub map_i : {A B : Type 0} → (A → B) → Instr P J A → Instr P J B
  map_i f (op p) = op p
  map_i f (jump j x) = jump j (f x)
  map_i f (call_reg r) = call_reg r
  map_i f ret = ret

  abbrev pub target : Instr P J Dest → List ℕ
  target (op p) = []
  target (jump j x) = dest_target x
  target (call_reg r) = []
  target ret = []

  abbrev pub place : ℕ → Instr P J Dest → List ℕ
  place e (op p) = []
  place e (jump j x) = dest_field e x
  place e (call_reg r) = []
  place e ret = []

  abbrev pub targets_of : List (Instr P J Dest) → List ℕ
  targets_of [] = []
  targets_of (i ∷ is) = target i ++ targets_of is

module _ {P J : Type 0} (m : Isa P J) where
  abbrev pub encode : Instr P J ℕ → List ℕ
  encode (op p) = m.plain p
  encode (jump j x) = m.head j ++ le32 (m.word j x)
  encode (call_reg r) = m.through r
  encode ret = m.back

  -- The length does not depend on what a jump carries.
  abbrev pub len : {D : Type 0} → Instr P J D → ℕ
  len (op p) = length (m.plain p)
  len (jump j x) = length (m.head j) + 4
  len (call_reg r) = m.through_len r
  len ret = length m.back

  abbrev pub size : List (Instr P J Dest) → ℕ
  size [] = 0
  size (i ∷ is) = len i + size is

  -- an instruction with its field, at place p; a list of them, the first at p; their bytes
  abbrev pub lower : (ℕ → ℕ) → ℕ → Instr P J Dest → Instr P J ℕ
  lower loc p i = map_i (field loc (p + len i)) i

  abbrev pub lowered : (ℕ → ℕ) → ℕ → List (Instr P J Dest) → List (Instr P J ℕ)
  lowered loc p [] = []
  lowered loc p (i ∷ is) = map_i (field loc (p + len i)) i ∷ lowered loc (p + len i) is

  abbrev pub bytes : List (Instr P J ℕ) → List ℕ
  bytes [] = []
  bytes (i ∷ is) = encode i ++ bytes is

  abbrev pub code_of : (ℕ → ℕ) → List (Instr P J Dest) → List ℕ
  code_of loc is = bytes (lowered loc 0 is)

  abbrev pub fields_of : ℕ → List (Instr P J Dest) → List ℕ
  fields_of p [] = []
  fields_of p (i ∷ is) = place (p + len i) i ++ fields_of (p + len i) is
