-- The laws of specs/Page.antt: a location for each slot, and one; what a location says; good targets, and where they lie.
use mathlib.Core.Path.{◌≡◌, refl, ap, ◌∙◌, subst}
use mathlib.Core.Bool.{Bool, true, false}
use mathlib.Core.List.{List, [], ◌∷◌, ◌++◌}
use Prim.Native.Nat.{ℕ, zero, suc, ◌+◌, ◌≤◌, ◌<◌}
use native.Mathlib.Omega.{arith}
use native.Mathlib.Nat.{add_assoc}
use lib.Dec.{T, eqb}
use lib.ListN.{length, get_or, length-append}
use Rattle.base.specs.Pick.{pick}
use Rattle.code.specs.Instr.{Isa}
use Rattle.code.specs.Code.{size}
use Rattle.code.specs.Page.{anchor, Block, Page, slots_wide, entries, past_last, good_target, flat, slots_in, whole, starts, locations, exit_of, loc_of}
use Rattle.code.proofs.CodeLaws.{size-append}

pub wide-some : (w : Bool) → (1 ≤ slots_wide w) × (slots_wide w ≤ 2)
wide-some true = omega arith
wide-some false = omega arith

-- good targets
abbrev pub Goods : (n : ℕ) → List ℕ → Type 0
Goods n [] = Unit {0}
Goods n (t ∷ ts) = T (good_target n t) × Goods n ts

pub goods-append : (n : ℕ) (a b : List ℕ) → Goods n a → Goods n b → Goods n (a ++ b)
goods-append n [] b p q = q
goods-append n (t ∷ a) b p q = (p.0, goods-append n a b p.1 q)

pub goods-at : (n : ℕ) (ts : List ℕ) (k : ℕ) → Goods n ts → k < length ts → T (good_target n (get_or ts k 0))
goods-at n [] k g h = absurd (omega (arith, h))
goods-at n (t ∷ ts) zero g h = g.0
goods-at n (t ∷ ts) (suc k) g h = goods-at n ts k g.1 (omega (arith, h))

-- no slot begins by the number t, which is the program's end or the second half of a wide load
module _ {P J : Type 0} where
  abbrev pub Missed : List (Block P J) → ℕ → Type 0
  Missed bs t = (ahead : List (Block P J)) (b : Block P J) (behind : List (Block P J)) → bs ≡ ahead ++ b ∷ behind → slots_in ahead ≡ t → ⊥

  missed-end : (t : ℕ) → Missed [] t
  missed-end t [] b behind e n = let z : ◌≡◌ {A = ℕ} 0 1 = cc in omega arith
  missed-end t (a ∷ ahead) b behind e n = let z : ◌≡◌ {A = ℕ} 0 1 = cc in omega arith

  missed-half : (b : Block P J) (bs : List (Block P J)) → b.wide ≡ true → Missed (b ∷ bs) 1
  missed-half b bs w [] c behind e n = omega (arith, n)
  missed-half b bs w (a ∷ ahead) c behind e n =
      let h : b ≡ a = cc in
      let m : slots_wide a.wide ≡ 2 = rw (← h, w) in
      omega (arith, m, n)

  missed-later : (b : Block P J) (bs : List (Block P J)) (t : ℕ) → Missed bs t → Missed (b ∷ bs) (slots_wide b.wide + t)
  missed-later b bs t m [] c behind e n = omega (arith, n, wide-some b.wide)
  missed-later b bs t m (a ∷ ahead) c behind e n =
      let h : b ≡ a = cc in
      let k : slots_wide a.wide ≡ slots_wide b.wide = rw h in
      let t : bs ≡ ahead ++ c ∷ behind = cc in
      m ahead c behind t (omega (arith, n, k))

module _ {P J : Type 0} (m : Isa P J) where
  starts-length : (p : ℕ) (bs : List (Block P J)) → length (starts m p bs) ≡ slots_in bs
  starts-length p [] = refl
  starts-length p (b ∷ bs) =
      length-append (entries p b.wide) (starts m (p + size m b.code) bs) ∙ rw (starts-length (p + size m b.code) bs) (by b.wide)
    where
      by : (w : Bool) → length (entries p w) + slots_in bs ≡ slots_wide w + slots_in bs
      by true = refl
      by false = refl

  pub length-locations : (g : Page P J) → length (locations m g) ≡ slots_in g.blocks + 1
  length-locations g = length-append (starts m (size m g.prologue) g.blocks) past_last ∙ rw (starts-length (size m g.prologue) g.blocks)

  -- The start of the slot numbered t from these blocks' first on, q bytes behind their first byte.
  pub record Start (bs : List (Block P J)) (t q : ℕ) : Type 0 where
    pub ahead : List (Block P J)
    pub block : Block P J
    pub behind : List (Block P J)
    pub split : bs ≡ ahead ++ block ∷ behind
    pub number : slots_in ahead ≡ t
    pub place : size m (flat ahead) ≡ q
    pub within : q + size m block.code ≤ size m (flat bs)

  -- what a location says: 0, or a slot's start
  pub data Found (bs : List (Block P J)) (t p v : ℕ) : Type 0 where
    first : Missed bs t → v ≡ 0 → Found bs t p v
    start : (q : ℕ) → v ≡ p + q → Start bs t q → Found bs t p v

  module _ (b : Block P J) (bs : List (Block P J)) where
    start-here : Start (b ∷ bs) 0 0
    start-here =
        record { ahead = []; block = b; behind = bs; split = refl; number = refl; place = refl; within = rw (size-append m b.code (flat bs)) (omega arith) }

    later : (t q : ℕ) → Start bs t q → Start (b ∷ bs) (slots_wide b.wide + t) (size m b.code + q)
    later t q s =
        record {
          ahead = b ∷ s.ahead;
          block = s.block;
          behind = s.behind;
          split = ap (λ (l : List (Block P J)). b ∷ l) s.split;
          number = rw s.number;
          place = size-append m b.code (flat s.ahead) ∙ rw s.place;
          within = rw (size-append m b.code (flat bs)) (omega (arith, s.within));
        }

    found-later : (t p v : ℕ) → Found bs t (p + size m b.code) v → Found (b ∷ bs) (slots_wide b.wide + t) p v
    found-later t p v (first n e) = first (missed-later b bs t n) e
    found-later t p v (start q e s) = start (size m b.code + q) (e ∙ add_assoc p (size m b.code) q) (later t q s)

  pub found : (p : ℕ) (bs : List (Block P J)) (t : ℕ) → Found bs t p (get_or (starts m p bs ++ past_last) t 0)
  found p [] zero = first (missed-end 0) refl
  found p [] (suc t) = first (missed-end (suc t)) refl
  found p (b ∷ bs) t = by b.wide refl t (λ u. found (p + size m b.code) bs u)
    where
      behind : List ℕ
      behind = starts m (p + size m b.code) bs

      count : (n t : ℕ) → slots_wide b.wide + t ≡ n → {v : ℕ} → Found bs t (p + size m b.code) v → Found (b ∷ bs) n p v
      count n t e {v} h = subst (λ (k : ℕ). Found (b ∷ bs) k p v) e (found-later b bs t p v h)

      by : (w : Bool) → b.wide ≡ w → (t : ℕ) → ((u : ℕ) → Found bs u (p + size m b.code) (get_or (behind ++ past_last) u 0))
          → Found (b ∷ bs) t p (get_or ((entries p w ++ behind) ++ past_last) t 0)
      by true e zero ih = start 0 (omega arith) (start-here b bs)
      by true e (suc zero) ih = first (missed-half b bs e) refl
      by true e (suc (suc t)) ih = count (suc (suc t)) t (ap (λ (w : Bool). slots_wide w + t) e ∙ omega arith) (ih t)
      by false e zero ih = start 0 (omega arith) (start-here b bs)
      by false e (suc t) ih = count (suc t) t (ap (λ (w : Bool). slots_wide w + t) e ∙ omega arith) (ih t)

  -- every target lies in the page
  module _ (g : Page P J) where
    pub whole-size : size m (whole g) ≡ size m g.prologue + (size m (flat g.blocks) + size m g.epilogue)
    whole-size = size-append m g.prologue (flat g.blocks ++ g.epilogue) ∙ rw (size-append m (flat g.blocks) g.epilogue)

    pub loc-most : (t : ℕ) → loc_of m g t ≤ size m (whole g)
    loc-most t = by (eqb t anchor)
      where
        there : {v : ℕ} → Found g.blocks t (size m g.prologue) v → v ≤ size m (whole g)
        there (first n e) = rw e (omega arith)
        there (start q e s) = rw (e, whole-size) (omega (arith, s.within))

        by : (b : Bool) → pick b (exit_of m g) (get_or (locations m g) t 0) ≤ size m (whole g)
        by true = rw whole-size (omega arith)
        by false = there (found (size m g.prologue) g.blocks t)
