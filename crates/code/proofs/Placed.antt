-- Places in a list of sized things, and a check of each thing against those behind it: for any processor, C being what stands at a place
-- and `len` its bytes. A thing may want that what stands some bytes behind its end passes a test; where all wants are met, each is met at
-- its place. A block that is checked alone, with `stop` for what follows, passes before anything that grants what `stop` grants.
use mathlib.Core.Path.{◌≡◌, refl, ap, sym, ◌∙◌}
use mathlib.Core.Bool.{Bool, true, false, ◌&&◌}
use mathlib.Core.List.{List, [], ◌∷◌, ◌++◌, append_assoc}
use Prim.Native.Nat.{ℕ, ◌+◌, ◌-◌, ◌≤◌}
use native.Mathlib.Omega.{arith}
use lib.Dec.{T, leb, eqb, eqb→eq, leb→le}
use Rattle.base.specs.Pick.{pick}
use Rattle.base.proofs.Tests.{true-T, and_l, and_r}
use Rattle.code.specs.Code.{span}

pub both : (a b c d : Bool) → (T a → T c) → (T b → T d) → T (a && b) → T (c && d)
both true true true d f g t = g tt
both true true false d f g t = f tt
both true false c d f g t = absurd t
both false b c d f g t = absurd t

module _ {C : Type 0} (len : C → ℕ) where
  pub span-append : (a b : List C) → span len (a ++ b) ≡ span len a + span len b
  span-append [] b = omega arith
  span-append (c ∷ a) b = rw (span-append a b) (omega arith)

  -- a thing that passes the test starts at p
  pub record At (cells : List C) (p : ℕ) (Q : C → Bool) : Type 0 where
    pub pre : List C
    pub cell : C
    pub post : List C
    pub split : cells ≡ pre ++ cell ∷ post
    pub at : span len pre ≡ p
    pub fit : T (Q cell)

  -- the first of a list, and what lies k bytes on, if something starts there
  abbrev pub fits : (C → Bool) → List C → Bool
  fits Q [] = false
  fits Q (c ∷ r) = Q c

  abbrev pub skip : ℕ → List C → List C
  skip k [] = []
  skip k (c ∷ r) = pick (eqb k 0) (c ∷ r) (pick (leb (len c) k) (skip (k - len c) r) [])

  pub skip-none : (l : List C) → skip 0 l ≡ l
  skip-none [] = refl
  skip-none (c ∷ l) = refl

  pub at_head : (cells pre rest : List C) (Q : C → Bool) → cells ≡ pre ++ rest → T (fits Q rest) → At cells (span len pre) Q
  at_head cells pre [] Q e t = absurd t
  at_head cells pre (c ∷ rest) Q e t = record { pre = pre; cell = c; post = rest; split = e; at = refl; fit = t }

  pub at-skip : (cells : List C) (k : ℕ) (pre post : List C) (Q : C → Bool) → cells ≡ pre ++ post → T (fits Q (skip k post))
      → At cells (span len pre + k) Q
  at-skip cells k pre [] Q e t = absurd t
  at-skip cells k pre (c ∷ post) Q e t =
      go (eqb k 0) (leb (len c) k) refl refl (λ h. at-skip cells (k - len c) (pre ++ (c ∷ [])) post Q (e ∙ sym (append_assoc pre (c ∷ []) post)) h)
    where
      go : (b l : Bool) → eqb k 0 ≡ b → leb (len c) k ≡ l
          → (T (fits Q (skip (k - len c) post)) → At cells (span len (pre ++ (c ∷ [])) + (k - len c)) Q) → At cells (span len pre + k) Q
      go true l z y ih =
          record { pre = pre; cell = c; post = post; split = e; at = let q = eqb→eq k 0 (true-T _ z) in omega arith; fit = rw z at t }
      go false true z y ih =
          let h = leb→le (len c) k (true-T _ y) in
          let q : span len (pre ++ (c ∷ [])) + (k - len c) ≡ span len pre + k = rw (span-append pre (c ∷ [])) (omega arith) in
          rw q at (ih (rw (z, y) at t))
      go false false z y ih = absurd (rw (z, y) at t)

  pub split-most : (cells pre : List C) (c : C) (post : List C) → cells ≡ pre ++ c ∷ post → span len pre + len c ≤ span len cells
  split-most cells pre c post e = rw (e, span-append pre (c ∷ post)) (omega arith)

  pub at_most : (cells : List C) (p : ℕ) (Q : C → Bool) → At cells p Q → p ≤ span len cells
  at_most cells p Q v = omega (arith, v.at, split-most cells v.pre v.cell v.post v.split)

  -- one thing at one place, where none is empty
  pub unique : ((c : C) → 1 ≤ len c) → (pre qre : List C) (c d : C) (post qost : List C) → pre ++ c ∷ post ≡ qre ++ d ∷ qost
      → span len pre ≡ span len qre → c ≡ d
  unique some [] [] c d post qost e z = cc
  unique some [] (a ∷ qre) c d post qost e z = absurd (omega (arith, some a))
  unique some (a ∷ pre) [] c d post qost e z = absurd (omega (arith, some a))
  unique some (a ∷ pre) (b ∷ qre) c d post qost e z =
      let h : a ≡ b = cc in
      let t : pre ++ c ∷ post ≡ qre ++ d ∷ qost = cc in
      unique some pre qre c d post qost t (let q : len a ≡ len b = ap len h in omega arith)

  -- a want: what starts that many bytes behind the thing's end passes the test
  pub record Want : Type 0 where
    pub over : ℕ
    pub test : C → Bool

  abbrev pub want : ℕ → (C → Bool) → Want
  want k Q = record { over = k; test = Q }

  abbrev pub met : List Want → List C → Bool
  met [] b = true
  met (w ∷ ws) b = fits w.test (skip w.over b) && met ws b

  -- a want that is met is met at its place
  pub wanted : (cells pre : List C) (c : C) (post : List C) (w : Want) → cells ≡ pre ++ c ∷ post → T (fits w.test (skip w.over post))
      → At cells (span len pre + len c + w.over) w.test
  wanted cells pre c post w e t =
      let v = at-skip cells w.over (pre ++ (c ∷ [])) post w.test (e ∙ sym (append_assoc pre (c ∷ []) post)) t in
      let q : span len (pre ++ (c ∷ [])) + w.over ≡ span len pre + len c + w.over = rw (span-append pre (c ∷ [])) (omega arith) in
      rw q at v

  -- The check: what a thing has to be by itself, and its wants.
  module _ (sound : C → Bool) (wants : C → List Want) where
    abbrev pub passes : List C → Bool
    passes [] = true
    passes (c ∷ r) = sound c && (met (wants c) r && passes r)

    pub passes_at : (pre : List C) (c : C) (post : List C) → T (passes (pre ++ c ∷ post)) → T (sound c) × T (met (wants c) post)
    passes_at [] c post t =
        let u = and_r (sound c) (met (wants c) post && passes post) t in
        (and_l (sound c) (met (wants c) post && passes post) t, and_l (met (wants c) post) (passes post) u)
    passes_at (a ∷ pre) c post t =
        passes_at pre c post (and_r (met (wants a) (pre ++ c ∷ post)) (passes (pre ++ c ∷ post)) (and_r (sound a) _ t))

  -- A block alone, and before a rest.
  module _ (stop : C) (rest : List C) where
    fits-swap : (Q : C → Bool) → (T (Q stop) → T (fits Q rest)) → (b : List C) → T (fits Q (b ++ (stop ∷ []))) → T (fits Q (b ++ rest))
    fits-swap Q h [] t = h t
    fits-swap Q h (c ∷ b) t = t

    skip-swap : (Q : C → Bool) → (T (Q stop) → T (fits Q rest)) → (k : ℕ) (b : List C) → T (fits Q (skip k (b ++ (stop ∷ []))))
        → T (fits Q (skip k (b ++ rest)))
    skip-swap Q h k [] t = go (eqb k 0) refl
      where
        off : (z : Bool) → T (fits Q (pick z [] [])) → ⊥
        off true t = t
        off false t = t

        go : (z : Bool) → eqb k 0 ≡ z → T (fits Q (skip k rest))
        go true e = rw (eqb→eq k 0 (true-T _ e), skip-none rest) (h (rw e at t))
        go false e = absurd (off (leb (len stop) k) (rw e at t))
    skip-swap Q h k (c ∷ b) t = go (eqb k 0) (leb (len c) k) refl refl (λ t. skip-swap Q h (k - len c) b t)
      where
        go : (z y : Bool) → eqb k 0 ≡ z → leb (len c) k ≡ y
            → (T (fits Q (skip (k - len c) (b ++ (stop ∷ [])))) → T (fits Q (skip (k - len c) (b ++ rest))))
            → T (fits Q (skip k (c ∷ b ++ rest)))
        go true y e f ih = rw e (rw e at t)
        go false true e f ih = rw (e, f) (ih (rw (e, f) at t))
        go false false e f ih = absurd (rw (e, f) at t)

    -- every want that `stop` meets, the rest meets
    abbrev pub Grants : List Want → Type 0
    Grants [] = Unit {0}
    Grants (w ∷ ws) = (T (w.test stop) → T (fits w.test rest)) × Grants ws

    met-swap : (ws : List Want) → Grants ws → (b : List C) → T (met ws (b ++ (stop ∷ []))) → T (met ws (b ++ rest))
    met-swap [] g b t = tt
    met-swap (w ∷ ws) g b t =
        both (fits w.test (skip w.over (b ++ (stop ∷ [])))) (met ws (b ++ (stop ∷ []))) (fits w.test (skip w.over (b ++ rest))) (met ws (b ++ rest))
        (skip-swap w.test g.0 w.over b) (met-swap ws g.1 b) t

    pub joined : (sound : C → Bool) (wants : C → List Want) → ((c : C) → Grants (wants c)) → (b : List C)
        → T (passes sound wants (b ++ (stop ∷ [])))
        → T (passes sound wants rest) → T (passes sound wants (b ++ rest))
    joined sound wants g [] t k = k
    joined sound wants g (c ∷ b) t k =
        both (sound c) (met (wants c) (b ++ (stop ∷ [])) && passes sound wants (b ++ (stop ∷ []))) (sound c) (met (wants c) (b ++ rest) && passes sound wants (b ++ rest)) (λ x. x)
        (both (met (wants c) (b ++ (stop ∷ []))) (passes sound wants (b ++ (stop ∷ []))) (met (wants c) (b ++ rest)) (passes sound wants (b ++ rest))
        (met-swap (wants c) (g c) b) (λ x. joined sound wants g b x k)) t
