-- The shape that instructions have on every processor here: what goes on to the next, what jumps by a distance, a call through a
-- register, a return. P and J are the processor's own plain instructions and kinds of jump; D is what a jump carries, a distance in
-- the machine and a destination in the definition. And what a processor has to say of them to have code laid out.
use Rattle.std.specs.Prelude.{List, ℕ}

pub data Instr (P J D : Type 0) : Type 0 where
  op : P → Instr P J D
  jump : J → D → Instr P J D
  -- through a register
  call_reg : (r : ℕ) → Instr P J D
  ret : Instr P J D

-- over that many bytes, or to a listed target
pub data Dest : Type 0 where
  near to : ℕ → Dest

-- The bytes of each. A jump is its `head` and then a word of four bytes, lowest byte first, in which its distance lies: from the
-- instruction's end, modulo 2 ^ 32. Where the word is the distance, `word` and `patch` give it back; where the word is the whole
-- instruction, the distance is in some of its bits, and `patch` puts it into a word that was written with distance 0. `through_len` is the
-- length of `through`. `kind` is what the record of a listed jump says of it (Jumps.antt).
pub record Isa (P J : Type 0) : Type 0 where
  pub plain : P → List ℕ
  pub head : J → List ℕ
  pub kind : J → ℕ
  pub word : J → (distance : ℕ) → ℕ
  pub patch : (old distance : ℕ) → ℕ
  pub through : (r : ℕ) → List ℕ
  pub through_len : (r : ℕ) → ℕ
  pub back : List ℕ
