-- A walk that is accepted: it is done, its code and the epilogue end in the page, and every target that it lists is good.
use Rattle.std.specs.Prelude.{◌≡◌, List, ℕ, ◌+◌, ◌≤◌, None}
use Rattle.x86.specs.Code.{size}
use Rattle.jit.specs.Translation.{Block, Walk, done, flat, first_bad}
use Rattle.jit.specs.Room.{epilogue_size}

pub record Acceptable (n page start : ℕ) (w : Walk) : Type 0 where
  pub bs : List Block
  pub walk : w ≡ done bs
  pub room : start + size (flat bs) + epilogue_size ≤ page
  pub targets : first_bad n 0 bs ≡ None
