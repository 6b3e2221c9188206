-- What the writing pass leaves: of a walk that is not refused, its code behind the prologue's, its locations, and its jumps' records
-- behind the prologue's; and what it asks.
use Rattle.std.specs.Prelude.{◌≡◌, List, ℕ, ◌+◌, ◌<◌, ◌≤◌, length}
use Rattle.std.proofs.lemmas.List.Edits.{sets}
use Rattle.x86.specs.Code.{size, targets_of, kinds_of}
use Rattle.x86.specs.Fill.{blanks}
use Rattle.x86.specs.Lowered.{fields_of}
use Rattle.x86_emit.specs.Wrote.{Wrote}
use Rattle.jit.specs.Translation.{Block, Walk, refused, done, slots_in, flat}
use Rattle.jit.specs.JumpTables.{made_from}
use Rattle.jit.specs.Passes.{starts}
use Rattle.jit.specs.Room.{epilogue_size}
use Rattle.jit_recording.specs.Emits.{Tables, HasEntry}

-- what is left behind the slots of a program: where they end, the jumps that are listed, the prologue's with them, the page and the tables
pub record Left (bs : List Block) (start : ℕ) (c c' l l' : List ℕ) (t t' : Tables) (end jumps : ℕ) : Type 0 where
  pub end_is : end ≡ start + size (flat bs)
  pub jumps_are : jumps ≡ 1 + length (targets_of (flat bs))
  pub few : jumps ≤ slots_in bs + 1
  pub code : Wrote c c' start (start + size (flat bs)) (blanks (flat bs))
  pub locations : l' ≡ sets l 0 (starts start bs)
  pub fields : t'.fields ≡ sets t.fields 1 (fields_of start (flat bs))
  pub targets : t'.targets ≡ sets t.targets 1 (targets_of (flat bs))
  pub kinds : t'.kinds ≡ sets t.kinds 1 (kinds_of (flat bs))
  pub makers : t'.makers ≡ sets t.makers 1 (made_from 0 bs)

abbrev pub Holds : Walk → ℕ → (c c' l l' : List ℕ) → (t t' : Tables) → (end jumps : ℕ) → Type 0
Holds (refused r) start c c' l l' t t' end jumps = Unit {0}
Holds (done bs) start c c' l l' t t' end jumps = Left bs start c c' l l' t t' end jumps

pub record Writes (w : Walk) (start : ℕ) (c c' l l' : List ℕ) (t t' : Tables) (end jumps : ℕ) : Type 0 where
  pub holds : Holds w start c c' l l' t t' end jumps

-- what it asks: a walk that is accepted, and room for it
abbrev pub Fits : Walk → (page start : ℕ) → Type 0
Fits (refused r) page start = ⊥
Fits (done bs) page start = start + size (flat bs) + epilogue_size ≤ page

pub record Fitting (w : Walk) (page start : ℕ) (c l : List ℕ) (t : Tables) (n : ℕ) : Type 0 where
  pub fits : Fits w page start
  pub page_is : page ≡ length c
  pub locations : n < length l
  pub entry : HasEntry t n
