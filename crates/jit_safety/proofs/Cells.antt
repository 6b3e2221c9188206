-- Code with notes: each instruction with what is known in front of it, and how far RSP is below where its frame began. The notes are no
-- part of the code; what they say is checked.
use mathlib.Core.Path.{◌≡◌, refl, ap, ◌∙◌}
use mathlib.Core.Bool.{Bool}
use mathlib.Core.List.{List, [], ◌∷◌, ◌++◌}
use Prim.Native.Nat.{ℕ, ◌+◌, ◌^◌, ◌<◌}
use native.Mathlib.Omega.{arith}
use native.Mathlib.Nat.{add-zero}
use lib.Dec.{T}
use Rattle.x86.specs.Instr.{Instr}
use Rattle.x86.specs.Encode.{len}
use Rattle.x86.specs.Code.{Dest, near, to, field, size}
use Rattle.code.specs.Landing.{follow}
use Rattle.code.proofs.LandingLaws.{follow-to, follow-near}
use Rattle.code.specs.Code.{span}
use Rattle.code.proofs.Placed.{At, at_most, split-most, fits, skip, want, wanted}
use Rattle.jit_safety.proofs.Facts.{Fact}

-- The gate is the epilogue's first instruction.
pub record Cell : Type 0 where
  pub facts : List Fact
  pub depth : ℕ
  pub gate : Bool
  pub instr : Instr Dest

abbrev pub cell : List Fact → ℕ → Bool → Instr Dest → Cell
cell F d g i = record { facts = F; depth = d; gate = g; instr = i }

abbrev pub cell_len : Cell → ℕ
cell_len c = len c.instr

abbrev pub instrs : List Cell → List (Instr Dest)
instrs [] = []
instrs (c ∷ r) = c.instr ∷ instrs r

abbrev pub extent : List Cell → ℕ
extent = span cell_len

abbrev pub Place : List Cell → ℕ → (Cell → Bool) → Type 0
Place = At cell_len

pub instrs-append : (a b : List Cell) → instrs (a ++ b) ≡ instrs a ++ instrs b
instrs-append [] b = refl
instrs-append (c ∷ a) b = rw (instrs-append a b)

pub size-instrs : (a : List Cell) → size (instrs a) ≡ extent a
size-instrs [] = refl
size-instrs (c ∷ a) = rw (size-instrs a)

pub split-instrs : (cells pre : List Cell) (c : Cell) (post : List Cell) → cells ≡ pre ++ c ∷ post
    → instrs cells ≡ instrs pre ++ (c.instr ∷ instrs post)
split-instrs cells pre c post e = ap instrs e ∙ instrs-append pre (c ∷ post)

-- Where an instruction in its place leads, if what stands there passes a test: to the next one, over k bytes, or to a listed target. The
-- cell that holds it is F, d and g beside it.
module _ (cells : List Cell) (loc : ℕ → ℕ) (pre : List Cell) (F : List Fact) (d : ℕ) (g : Bool) (post : List Cell) where
  abbrev pub StandsIn : Instr Dest → Type 0
  StandsIn i = cells ≡ pre ++ cell F d g i ∷ post

  pub record Leads : Type 0 where
    pub falls : (i : Instr Dest) (Q : Cell → Bool) → StandsIn i → T (fits cell_len Q (skip cell_len 0 post)) → Place cells (extent pre + len i) Q
    pub skips : (i : Instr Dest) (k : ℕ) (Q : Cell → Bool) → StandsIn i → T (fits cell_len Q (skip cell_len k post))
        → Place cells (follow (extent pre + len i) (field loc (extent pre + len i) (near k))) Q
    pub jumps : (i : Instr Dest) (t : ℕ) (Q : Cell → Bool) → StandsIn i → Place cells (loc t) Q
        → Place cells (follow (extent pre + len i) (field loc (extent pre + len i) (to t))) Q

  module _ (small : extent cells < 2 ^ 31) where
    falls-there : (i : Instr Dest) (Q : Cell → Bool) → StandsIn i → T (fits cell_len Q (skip cell_len 0 post)) → Place cells (extent pre + len i) Q
    falls-there i Q e t = rw (add-zero (extent pre + len i)) at (wanted cell_len cells pre (cell F d g i) post (want cell_len 0 Q) e t)

    skips-there : (i : Instr Dest) (k : ℕ) (Q : Cell → Bool) → StandsIn i → T (fits cell_len Q (skip cell_len k post))
        → Place cells (follow (extent pre + len i) (field loc (extent pre + len i) (near k))) Q
    skips-there i k Q e t =
        let end = extent pre + len i in
        let v = wanted cell_len cells pre (cell F d g i) post (want cell_len k Q) e t in
        rw (follow-near end k (omega (arith, at_most cell_len cells (end + k) Q v))) v

    jumps-there : (i : Instr Dest) (t : ℕ) (Q : Cell → Bool) → StandsIn i → Place cells (loc t) Q
        → Place cells (follow (extent pre + len i) (field loc (extent pre + len i) (to t))) Q
    jumps-there i t Q e v =
        let end = extent pre + len i in
        let h : end < 2 ^ 31 = omega (arith, split-most cell_len cells pre (cell F d g i) post e) in
        rw (follow-to end (loc t) h (omega (arith, at_most cell_len cells (loc t) Q v))) v

    pub leads : Leads
    leads = record { falls = falls-there; skips = skips-there; jumps = jumps-there }
