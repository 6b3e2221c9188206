-- A text that is padded from its own end to a column is padded from its length on, also where there is no room for it.
use mathlib.Core.Path.{◌≡◌, ◌∙◌, refl, sym}
use mathlib.Core.Bool.{Bool, true, false}
use mathlib.Core.List.{List}
use Prim.Native.Nat.{ℕ, ◌-◌, ◌≤◌, ◌<◌}
use native.Mathlib.Omega.{arith}
use lib.Dec.{leb, leb→le}
use lib.ListN.{length, replicate}
use Rattle.base.proofs.Tests.{true-T, leb_no}
use Rattle.text.specs.Text.{Says}
use Rattle.text.proofs.SaysLaws.{sets-out, kept, same}

-- A text that is cut has no column behind it: what is put there is not written, whatever it is.
pub padded : {l l₁ l₂ xs : List ℕ} {r r₂ : ℕ} (column : ℕ) → Says l l₁ 0 r xs → Says l₁ l₂ r r₂ (replicate (column - r) 0x20)
    → Says l₁ l₂ r r₂ (replicate (column - length xs) 0x20)
padded {l} {l₁} {l₂} {xs} {r} {r₂} column p q = by (leb (length xs) (length l)) refl
  where
    by : (b : Bool) → leb (length xs) (length l) ≡ b → Says l₁ l₂ r r₂ (replicate (column - length xs) 0x20)
    by true t =
        let h : length xs ≤ length l = leb→le _ _ (true-T _ t) in
        let e : r ≡ length xs = omega (arith, p.next) in
        same q (rw e)
    by false t =
        let h : length l < length xs = leb_no _ _ t in
        let n : length l₁ ≡ length l = kept p in
        let e : length l₁ ≤ r = omega (arith, p.next) in
        record {
          text = q.text ∙ sets-out l₁ (replicate (column - r) 0x20) r e ∙ sym (sets-out l₁ (replicate (column - length xs) 0x20) r e);
          next = omega (arith, q.next);
        }
