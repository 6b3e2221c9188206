-- The laws of specs/Stored.antt: one run behind the other, and what is stored in the end.
use mathlib.Core.Path.{◌≡◌, ◌∙◌, refl}
use mathlib.Core.Bool.{Bool, true, false}
use mathlib.Core.List.{List, ◌++◌, append_assoc}
use Prim.Native.Nat.{ℕ, ◌+◌, ◌-◌, ◌≤◌}
use native.Mathlib.Omega.{arith}
use lib.ListN.{length, length-append, take, drop}
use lib.Seq.{sets, length-sets, sets-eq, drop-drop}
use borrow.Rule.Slice.PartMut.{put_mid}
use Rattle.base.proofs.Lists.{sets-append}
use Rattle.cases_bytes.specs.Stored.{Put, Stored}

pub behind : {l l₁ l₂ : List ℕ} {at r₁ r₂ : ℕ} {xs ys : List ℕ} → Put l l₁ at r₁ xs → Put l₁ l₂ r₁ r₂ ys → Put l l₂ at r₂ (xs ++ ys)
behind {l} {l₁} {l₂} {at} {r₁} {r₂} {xs} {ys} p q =
    let e : l₂ ≡ sets (sets l at xs) (at + length xs) ys = rw (← p.bytes, ← p.next) q.bytes in
    record { bytes = e ∙ sets-append l at xs ys; next = omega (arith, p.next, q.next, length-append xs ys) }

-- a part is written over, as long as it is
pub copied : (l xs ys : List ℕ) (at : ℕ) → at + length xs ≤ length l → ys ≡ xs
    → Put l (put_mid at (at + length xs - at) l ys) at (at + length xs) xs
copied l xs ys at h e =
    let n : at + length xs - at ≡ length xs = omega arith in
    let s : sets l at xs ≡ take at l ++ (xs ++ drop (at + length xs) l) =
    sets-eq xs l at h ∙ append_assoc (take at l) xs (drop (at + length xs) l) in
    record { bytes = rw (e, n, s, drop-drop (length xs) at l); next = refl }

pub same-run : {l l' : List ℕ} {at r : ℕ} {xs ys : List ℕ} → Put l l' at r xs → xs ≡ ys → Put l l' at r ys
same-run p e = rw e at p

pub stored : {fits : Bool} {l l' ys : List ℕ} {r : ℕ} → fits ≡ true → r ≤ length l → Put l l' 0 r ys → Stored fits l l' r ys
stored {fits} {l} {l'} {ys} e h p =
    record { bytes = rw e p.bytes; size = rw e (omega (arith, p.next)); room = rw (p.bytes, length-sets l 0 ys) h }

pub unstored : {fits : Bool} {l ys : List ℕ} → fits ≡ false → Stored fits l l 0 ys
unstored e = record { bytes = rw e; size = rw e; room = omega arith }
