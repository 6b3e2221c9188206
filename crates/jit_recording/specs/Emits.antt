-- What emitting a slot leaves: its instructions in the page, their fields blank, and each listed jump's record in the four jump tables: its
-- field, its target, its kind and the slot that made it.
use Rattle.std.specs.Prelude.{◌≡◌, ℕ, ◌+◌, ◌-◌, ◌^◌, ◌<◌, ◌≤◌, List, length, slice_set}
use Rattle.std.proofs.lemmas.List.Edits.{sets}
use Rattle.x86.specs.Code.{size, targets_of, kinds_of, each}
use Rattle.x86.specs.Lowered.{fields_of}
use Rattle.x86.specs.Fill.{blanks}
use Rattle.x86_emit.specs.Wrote.{Wrote}
use Rattle.jit.specs.MulDivMod.{Code}
use Rattle.jit.specs.Room.{epilogue_size}

-- the jump tables, in which a jump's record is the entry of its number in each
pub record Tables : Type 0 where
  pub fields : List ℕ
  pub targets : List ℕ
  pub kinds : List ℕ
  pub makers : List ℕ

-- the entries ys stand from place k on in a table, and r is the next place
pub record Put (l l' : List ℕ) (k r : ℕ) (ys : List ℕ) : Type 0 where
  pub next : r ≡ k + length ys
  pub is : l' ≡ sets l k ys

-- c is the page and t the jump tables; at and j where the code and the entries begin, at' and j' where they end; `maker` is the code's slot
pub record Emits (c c' : List ℕ) (t t' : Tables) (at j at' j' maker : ℕ) (is : Code) : Type 0 where
  pub wrote : Wrote c c' at at' (blanks is)
  pub fields : Put t.fields t'.fields j j' (fields_of at is)
  pub targets : Put t.targets t'.targets j j' (targets_of is)
  pub kinds : Put t.kinds t'.kinds j j' (kinds_of is)
  pub makers : Put t.makers t'.makers j j' (each maker (targets_of is))

-- each table has an entry j
pub record HasEntry (t : Tables) (j : ℕ) : Type 0 where
  pub field : j < length t.fields
  pub target : j < length t.targets
  pub kind : j < length t.kinds
  pub maker : j < length t.makers

-- what recording a jump asks, whose field ends at `at`: an entry, and a place and a slot that the tables can hold
abbrev pub Recordable : (t : Tables) (at j maker : ℕ) → Type 0
Recordable t at j maker = HasEntry t j × ((4 ≤ at) × ((at < 2 ^ 32) × (maker < 2 ^ 32)))

-- the record of a jump whose field ends at `at` is entry j
pub record Recorded (t t' : Tables) (at j j' goal kind maker : ℕ) : Type 0 where
  pub next : j' ≡ j + 1
  pub field : t'.fields ≡ slice_set t.fields j (at - 4)
  pub target : t'.targets ≡ slice_set t.targets j goal
  pub kind_is : t'.kinds ≡ slice_set t.kinds j kind
  pub maker_is : t'.makers ≡ slice_set t.makers j maker

-- what a slot asks: room in the page for its code and the epilogue behind it, and an entry for its jump
pub record Room (c : List ℕ) (t : Tables) (at j : ℕ) (is : Code) : Type 0 where
  pub page : at + size is + epilogue_size ≤ length c
  pub entry : HasEntry t j
  pub small : length c < 2 ^ 31
