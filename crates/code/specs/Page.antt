-- A page: the prologue, the code of each slot, the epilogue. Its three tables, and where a target lies: for any processor.
use Rattle.std.specs.Prelude.{Bool, true, false, ◌||◌, List, [], ◌∷◌, ◌++◌, ℕ, ◌+◌, leb, eqb, get_or}
use Rattle.base.specs.Pick.{pick}
use Rattle.code.specs.Instr.{Instr, Dest, Isa}
use Rattle.code.specs.Code.{targets_of, size, lowered, code_of, fields_of}

-- the target of a jump to the exit: one more than PROG_MAX_INSNS
abbrev pub anchor : ℕ
anchor = 1000001

abbrev pub Code : Type 0 → Type 0 → Type 0
Code P J = List (Instr P J Dest)

-- One slot: the instructions of one slot, or of two.
pub record Block (P J : Type 0) : Type 0 where
  pub code : Code P J
  pub wide : Bool

pub record Page (P J : Type 0) : Type 0 where
  pub prologue : Code P J
  pub blocks : List (Block P J)
  pub epilogue : Code P J

abbrev pub slots_wide : Bool → ℕ
slots_wide true = 2
slots_wide false = 1

-- the location of a slot, and 0 for the second half of a wide load
abbrev pub entries : (place : ℕ) → Bool → List ℕ
entries place true = place ∷ 0 ∷ []
entries place false = place ∷ []

-- behind the slots, the location of n
abbrev pub past_last : List ℕ
past_last = 0 ∷ []

-- where a target lies: the exit, or its location, which is 0, the page's first byte, for n and for a second half
abbrev pub place_of : (locations : List ℕ) → (exit target : ℕ) → ℕ
place_of locs exit t = pick (eqb t anchor) exit (get_or locs t 0)

-- A recorded target is a slot, or n, or the anchor.
unfoldable pub good_target : (n target : ℕ) → Bool
good_target n t = leb t n || eqb t anchor

module _ {P J : Type 0} where
  -- the code of blocks, and how many slots they are
  abbrev pub flat : List (Block P J) → Code P J
  flat [] = []
  flat (b ∷ bs) = b.code ++ flat bs

  abbrev pub slots_in : List (Block P J) → ℕ
  slots_in [] = 0
  slots_in (b ∷ bs) = slots_wide b.wide + slots_in bs

  abbrev pub whole : Page P J → Code P J
  whole g = g.prologue ++ (flat g.blocks ++ g.epilogue)

module _ {P J : Type 0} (m : Isa P J) where
  abbrev pub starts : (place : ℕ) → List (Block P J) → List ℕ
  starts place [] = []
  starts place (b ∷ bs) = entries place b.wide ++ starts (place + size m b.code) bs

  -- The tables: the locations 0 to n, and the fields and targets of the jumps in the order emitted, the prologue's first.
  abbrev pub locations : Page P J → List ℕ
  locations g = starts (size m g.prologue) g.blocks ++ past_last

  abbrev pub field_table : Page P J → List ℕ
  field_table g = fields_of m 0 (whole g)

  abbrev pub target_table : Page P J → List ℕ
  target_table g = targets_of (whole g)

  -- the exit anchor: where the epilogue begins
  abbrev pub exit_of : Page P J → ℕ
  exit_of g = size m g.prologue + size m (flat g.blocks)

  -- the page's instructions with their fields, and its bytes
  abbrev pub loc_of : Page P J → ℕ → ℕ
  loc_of g = place_of (locations g) (exit_of g)

  abbrev pub instructions : Page P J → List (Instr P J ℕ)
  instructions g = lowered m (loc_of g) 0 (whole g)

  abbrev pub page_code : Page P J → List ℕ
  page_code g = code_of m (loc_of g) (whole g)
