-- What a page's two further tables say of its listed jumps, one entry beside each target: the kind of the jump, read off the instruction
-- that carries the target, and its maker, the number of the slot whose block it stands in. For any processor.
use Rattle.std.specs.Prelude.{List, [], ◌∷◌, ◌++◌, ℕ, ◌+◌}
use Rattle.code.specs.Instr.{Instr, op, jump, call_reg, ret, Dest, Isa}
use Rattle.code.specs.Code.{dest_target, targets_of}
use Rattle.code.specs.Page.{Code, Block, Page, slots_wide, slots_in, whole}

-- The kinds: a jump that is taken on a condition, one that is always taken, and a call within the program.
abbrev pub conditional : ℕ
conditional = 1

abbrev pub plain_jump : ℕ
plain_jump = 2

abbrev pub local_call : ℕ
local_call = 3

-- x beside each target
abbrev pub each : (x : ℕ) → (targets : List ℕ) → List ℕ
each x [] = []
each x (t ∷ ts) = x ∷ each x ts

module _ {P J : Type 0} where
  -- the makers of the jumps of blocks, of which the first is that of a slot
  abbrev pub made_from : (slot : ℕ) → List (Block P J) → List ℕ
  made_from slot [] = []
  made_from slot (b ∷ bs) = each slot (targets_of b.code) ++ made_from (slot + slots_wide b.wide) bs

  -- The prologue's jump is made by no slot: it has n, the number behind the last. The epilogue lists none.
  abbrev pub maker_table : Page P J → List ℕ
  maker_table g = each (slots_in g.blocks) (targets_of g.prologue) ++ made_from 0 g.blocks

module _ {P J : Type 0} (m : Isa P J) where
  abbrev pub kind : Instr P J Dest → List ℕ
  kind (op p) = []
  kind (jump j x) = each (m.kind j) (dest_target x)
  kind (call_reg r) = []
  kind ret = []

  abbrev pub kinds_of : Code P J → List ℕ
  kinds_of [] = []
  kinds_of (i ∷ is) = kind i ++ kinds_of is

  abbrev pub kind_table : Page P J → List ℕ
  kind_table g = kinds_of (whole g)
