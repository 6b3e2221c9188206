-- What an Isa has to keep for the laws of code: each a law of its own, so that no proof stands in a definition.
use mathlib.Core.Path.{◌≡◌}
use Prim.Native.Nat.{ℕ, ◌<◌, ◌^◌}
use lib.ListN.{length}
use Rattle.code.specs.Instr.{Isa}

pub record Lawful {P J : Type 0} (m : Isa P J) : Type 0 where
  pub through-length : (r : ℕ) → length (m.through r) ≡ m.through_len r
  pub word_lt : (j : J) → m.word j 0 < 2 ^ 32
  pub patch-word : (j : J) (x : ℕ) → m.patch (m.word j 0) x ≡ m.word j x
