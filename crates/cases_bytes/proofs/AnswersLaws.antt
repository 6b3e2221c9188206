-- The laws of specs/Answers.antt: how long its parts are, and how they grow by an entry or a byte.
use mathlib.Core.Path.{◌≡◌, ◌∙◌, refl, ap}
use mathlib.Core.Bool.{true, ◌&&◌}
use mathlib.Core.List.{List, [], ◌∷◌, ◌++◌}
use Prim.Native.Nat.{ℕ, suc, ◌+◌, ◌*◌, ◌<◌, ◌≤◌}
use native.Mathlib.Omega.{arith}
use lib.Dec.{leb, leb→le}
use lib.ListN.{length, length-append, get_or, take}
use lib.Seq.{sets, take-suc, length-take-le}
use Rattle.base.proofs.Lists.{sets-append}
use Rattle.base.specs.Bytes.{le32}
use Rattle.base.proofs.Tests.{true-T, and_l, and_r}
use Rattle.cases_bytes.specs.Limits.{lent_page, lent_table, longest_answer}
use Rattle.cases_bytes.specs.Answers.{accepted_bytes, accepted_head, entries, framed, room_for, tables}

-- how many bytes, and one entry more
pub length-entries : (xs : List ℕ) → length (entries xs) ≡ 4 * length xs
length-entries [] = refl
length-entries (x ∷ xs) = omega (arith, length-entries xs)

entries-last : (xs : List ℕ) (y : ℕ) → entries (xs ++ (y ∷ [])) ≡ entries xs ++ le32 y
entries-last [] y = refl
entries-last (x ∷ xs) y = rw (entries-last xs y)

pub entries-more : (xs : List ℕ) (i : ℕ) → i < length xs → entries (take i xs) ++ le32 (get_or xs i 0) ≡ entries (take (i + 1) xs)
entries-more xs i h = let e : i + 1 ≡ suc i = omega arith in rw (e, take-suc xs i 0 h, entries-last)

pub entries-run : (l xs : List ℕ) (at i : ℕ) → i < length xs
    → sets (sets l at (entries (take i xs))) (at + 4 * i) (le32 (get_or xs i 0)) ≡ sets l at (entries (take (i + 1) xs))
entries-run l xs at i h =
    let n : length (entries (take i xs)) ≡ 4 * i = length-entries (take i xs) ∙ ap (λ (k : ℕ). 4 * k) (length-take-le i xs (omega arith)) in
    rw (← n, sets-append l at (entries (take i xs)) (le32 (get_or xs i 0)), entries-more xs i h)

pub length-head : (c l f t k m : List ℕ)
    → length (accepted_head (length c) (length l) (length f) (length l + length f + length t + length k + length m)) ≡ 17
unfolding accepted_head
length-head c l f t k m = refl

pub length-tables : (l f t k m : List ℕ) → length (tables l f t k m) ≡ 4 * (length l + length f + length t + length k + length m)
length-tables l f t k m =
    omega (
      arith,
      length-append (entries l) (entries f ++ (entries t ++ (entries k ++ entries m))),
      length-append (entries f) (entries t ++ (entries k ++ entries m)),
      length-append (entries t) (entries k ++ entries m),
      length-append (entries k) (entries m),
      length-entries l,
      length-entries f,
      length-entries t,
      length-entries k,
      length-entries m,
    )

pub accepted-parts : (c l f t k m : List ℕ)
    → accepted_head (length c) (length l) (length f) (length l + length f + length t + length k + length m) ++ (c ++ tables l f t k m)
    ≡ accepted_bytes c l f t k m
unfolding accepted_head accepted_bytes framed
accepted-parts c l f t k m =
    let all = length l + length f + length t + length k + length m in
    let rest = c ++ tables l f t k m in
    let e : 13 + length c + 4 * all ≡ length (0 ∷ (le32 (length c) ++ (le32 (length f) ++ (le32 (length l) ++ rest)))) =
    omega (arith, length-append c (tables l f t k m), length-tables l f t k m) in
    rw e

-- what there is room for
pub record Fits (o c l f t k m : ℕ) : Type 0 where
  pub out : longest_answer ≤ o
  pub code : c ≤ lent_page
  pub locations : l ≤ lent_table
  pub fields : f ≤ lent_table
  pub targets : t ≤ lent_table
  pub kinds : k ≤ lent_table
  pub makers : m ≤ lent_table

pub fits : (o c l f t k m : ℕ) → room_for o c l f t k m ≡ true → Fits o c l f t k m
unfolding room_for
fits o c l f t k m e =
    let from-k = leb k lent_table && leb m lent_table in
    let from-t = leb t lent_table && from-k in
    let from-f = leb f lent_table && from-t in
    let from-l = leb l lent_table && from-f in
    let from-c = leb c lent_page && from-l in
    let all = true-T (leb longest_answer o && from-c) e in
    let c-on = and_r (leb longest_answer o) from-c all in
    let l-on = and_r (leb c lent_page) from-l c-on in
    let f-on = and_r (leb l lent_table) from-f l-on in
    let t-on = and_r (leb f lent_table) from-t f-on in
    let k-on = and_r (leb t lent_table) from-k t-on in
    record {
      out = leb→le longest_answer o (and_l (leb longest_answer o) from-c all);
      code = leb→le c lent_page (and_l (leb c lent_page) from-l c-on);
      locations = leb→le l lent_table (and_l (leb l lent_table) from-f l-on);
      fields = leb→le f lent_table (and_l (leb f lent_table) from-t f-on);
      targets = leb→le t lent_table (and_l (leb t lent_table) from-k t-on);
      kinds = leb→le k lent_table (and_l (leb k lent_table) (leb m lent_table) k-on);
      makers = leb→le m lent_table (and_r (leb k lent_table) (leb m lent_table) k-on);
    }
