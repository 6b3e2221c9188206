-- What the two halves of writing leave, for the contracts of two private functions: the prologue and the slots; the epilogue and the fields.
use Rattle.std.specs.Prelude.{◌≡◌, List, ◌++◌, ℕ, ◌+◌, ◌≤◌, ◌<◌, length, get_or, take, set}
use Rattle.std.proofs.lemmas.List.Edits.{sets}
use Rattle.jit.specs.declared.Flags.{Flags}
use Rattle.x86.specs.Code.{size, targets_of, kinds_of, each}
use Rattle.x86.specs.Lowered.{fields_of}
use Rattle.x86.specs.Fill.{blanks}
use Rattle.x86.specs.Fill.{filled}
use Rattle.x86_emit.specs.Wrote.{Wrote}
use Rattle.jit.specs.Limits.{longest_page}
use Rattle.jit.specs.Room.{epilogue_size}
use Rattle.jit.specs.Frame.{prologue, epilogue}
use Rattle.jit.specs.Translation.{Block, Walk, refused, done, flat, place_of, slots_in}
use Rattle.jit.specs.JumpTables.{made_from}
use Rattle.jit.specs.Passes.{starts}
use Rattle.jit_recording.specs.Emits.{Tables}

-- the first half: what the writing pass leaves, the prologue's part with it, whose jump's maker is n
pub record Head (bs : List Block) (g : Flags) (n : ℕ) (c c' l l' : List ℕ) (t t' : Tables) (end jumps : ℕ) : Type 0 where
  pub end_is : end ≡ size (prologue g) + size (flat bs)
  pub jumps_are : jumps ≡ 1 + length (targets_of (flat bs))
  pub few : jumps ≤ slots_in bs + 1
  pub code : Wrote c c' 0 (size (prologue g) + size (flat bs)) (blanks (prologue g ++ flat bs))
  pub locations : l' ≡ sets l 0 (starts (size (prologue g)) bs)
  pub fields : t'.fields ≡ sets t.fields 0 (fields_of 0 (prologue g ++ flat bs))
  pub targets : t'.targets ≡ sets t.targets 0 (targets_of (prologue g ++ flat bs))
  pub kinds : t'.kinds ≡ sets t.kinds 0 (kinds_of (prologue g ++ flat bs))
  pub makers : t'.makers ≡ sets t.makers 0 (each n (targets_of (prologue g)) ++ made_from 0 bs)

abbrev pub BegunAs : Walk → Flags → (n : ℕ) → (c c' l l' : List ℕ) → (t t' : Tables) → (end jumps : ℕ) → Type 0
BegunAs (refused r) g n c c' l l' t t' end jumps = Unit {0}
BegunAs (done bs) g n c c' l l' t t' end jumps = Head bs g n c c' l l' t t' end jumps

pub record Begun (w : Walk) (g : Flags) (n : ℕ) (c c' l l' : List ℕ) (t t' : Tables) (end jumps : ℕ) : Type 0 where
  pub state : BegunAs w g n c c' l l' t t' end jumps

-- The second half asks for room: for the epilogue, for location n, and for each listed field.
pub record Closing (n end jumps : ℕ) (c l f t : List ℕ) : Type 0 where
  pub exit : end + epilogue_size ≤ length c
  pub page : length c ≤ longest_page
  pub location : n < length l
  pub fields : jumps ≤ length f
  pub targets : jumps ≤ length t
  pub inside : (k : ℕ) → k < jumps → get_or f k 0 + 4 ≤ length c

pub record Ended (n end jumps : ℕ) (c c' l l' f t : List ℕ) : Type 0 where
  pub locations : l' ≡ set l n 0
  pub code : c' ≡ filled (place_of (take (n + 1) l') end) (take jumps f) (take jumps t) (sets c end (blanks epilogue))
