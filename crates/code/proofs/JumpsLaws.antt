-- The laws of specs/Jumps.antt: a kind and a maker beside each target, of code behind code; and where the field of a maker's jump lies.
use mathlib.Core.Path.{◌≡◌, refl, ap, sym, ◌∙◌}
use mathlib.Core.List.{List, [], ◌∷◌, ◌++◌, append_assoc, append-nil}
use Prim.Native.Nat.{ℕ, zero, suc, ◌+◌, ◌≤◌, ◌<◌}
use native.Mathlib.Omega.{arith}
use native.Mathlib.Nat.{zero-add, add-zero, add_assoc}
use lib.ListN.{length, get_or, length-append}
use Rattle.base.proofs.Lists.{empty}
use Rattle.code.specs.Instr.{Instr, op, jump, call_reg, ret, Dest, near, to, Isa}
use Rattle.code.specs.Code.{target, targets_of, len, size, fields_of}
use Rattle.code.specs.Page.{Code, Block, Page, slots_wide, slots_in, flat, field_table}
use Rattle.code.specs.Jumps.{each, made_from, maker_table, kind, kinds_of}
use Rattle.code.specs.Landing.{Within, of_slot, of_prologue}
use Rattle.code.proofs.CodeLaws.{size-append, fields-append, targets-append, length_fields}

pub length-each : (x : ℕ) (ts : List ℕ) → length (each x ts) ≡ length ts
length-each x [] = refl
length-each x (t ∷ ts) = ap suc (length-each x ts)

pub each_append : (x : ℕ) (a b : List ℕ) → each x (a ++ b) ≡ each x a ++ each x b
each_append x [] b = refl
each_append x (t ∷ a) b = ap (λ (l : List ℕ). x ∷ l) (each_append x a b)

-- Two lists side by side, of which each pair is related.
abbrev pub Beside : (ℕ → ℕ → Type 0) → List ℕ → List ℕ → Type 0
Beside R [] [] = Unit {0}
Beside R [] (y ∷ ys) = ⊥
Beside R (x ∷ xs) [] = ⊥
Beside R (x ∷ xs) (y ∷ ys) = R x y × Beside R xs ys

module _ (R : ℕ → ℕ → Type 0) where
  beside-append : (a b c d : List ℕ) → Beside R a b → Beside R c d → Beside R (a ++ c) (b ++ d)
  beside-append [] [] c d p q = q
  beside-append [] (y ∷ b) c d p q = absurd p
  beside-append (x ∷ a) [] c d p q = absurd p
  beside-append (x ∷ a) (y ∷ b) c d p q = (p.0, beside-append a b c d p.1 q)

  pub beside-length : (a b : List ℕ) → Beside R a b → length a ≡ length b
  beside-length [] [] p = refl
  beside-length [] (y ∷ b) p = absurd p
  beside-length (x ∷ a) [] p = absurd p
  beside-length (x ∷ a) (y ∷ b) p = ap suc (beside-length a b p.1)

  pub beside_at : (a b : List ℕ) (k : ℕ) → Beside R a b → k < length b → R (get_or a k 0) (get_or b k 0)
  beside_at [] [] k p h = absurd (omega (arith, h))
  beside_at [] (y ∷ b) k p h = absurd p
  beside_at (x ∷ a) [] k p h = absurd p
  beside_at (x ∷ a) (y ∷ b) zero p h = p.0
  beside_at (x ∷ a) (y ∷ b) (suc k) p h = beside_at a b k p.1 (omega (arith, h))

-- the makers of blocks with one more behind them
pub made-snoc : {P J : Type 0} (slot : ℕ) (bs : List (Block P J)) (b : Block P J)
    → made_from slot (bs ++ (b ∷ [])) ≡ made_from slot bs ++ each (slot + slots_in bs) (targets_of b.code)
made-snoc slot [] b = rw (add-zero slot) (append-nil (each slot (targets_of b.code)))
made-snoc slot (a ∷ bs) b =
    rw (made-snoc (slot + slots_wide a.wide) bs b, add_assoc slot (slots_wide a.wide) (slots_in bs))
    (sym (append_assoc (each slot (targets_of a.code)) (made_from (slot + slots_wide a.wide) bs) _))

-- as many makers as targets
pub length-made : {P J : Type 0} (slot : ℕ) (bs : List (Block P J)) → length (made_from slot bs) ≡ length (targets_of (flat bs))
length-made slot [] = refl
length-made slot (b ∷ bs) =
    length-append (each slot (targets_of b.code)) (made_from (slot + slots_wide b.wide) bs)
    ∙ rw (length-each slot (targets_of b.code), length-made (slot + slots_wide b.wide) bs, targets-append b.code (flat bs))
    (sym (length-append (targets_of b.code) (targets_of (flat bs))))

module _ {P J : Type 0} (m : Isa P J) where
  pub kinds-append : (a b : Code P J) → kinds_of m (a ++ b) ≡ kinds_of m a ++ kinds_of m b
  kinds-append [] b = refl
  kinds-append (i ∷ a) b = rw (kinds-append a b) (sym (append_assoc (kind m i) (kinds_of m a) (kinds_of m b)))

  -- as many kinds as targets
  pub length-kinds : (is : Code P J) → length (kinds_of m is) ≡ length (targets_of is)
  length-kinds [] = refl
  length-kinds (i ∷ is) = length-append (kind m i) (kinds_of m is) ∙ rw (length-kinds is, length-append (target i) (targets_of is), one i)
    where
      one : (i : Instr P J Dest) → length (kind m i) ≡ length (target i)
      one (op q) = refl
      one (jump j (near k)) = refl
      one (jump j (to t)) = refl
      one (call_reg r) = refl
      one ret = refl

  -- The fields of code at p lie within it.
  fields_within : (R : ℕ → ℕ → Type 0) (x p : ℕ) (is : Code P J) → ((f : ℕ) → p ≤ f → f + 4 ≤ p + size m is → R x f)
      → Beside R (each x (targets_of is)) (fields_of m p is)
  fields_within R x p [] h = tt
  fields_within R x p (op q ∷ is) h = fields_within R x (p + len m {D = Dest} (op q)) is (λ f l u. h f (omega arith) (omega arith))
  fields_within R x p (jump j (near k) ∷ is) h =
      fields_within R x (p + len m {D = Dest} (jump j (near k))) is (λ f l u. h f (omega arith) (omega arith))
  fields_within R x p (jump j (to t) ∷ is) h = (
    h _ (omega arith) (omega arith),
    fields_within R x (p + len m {D = Dest} (jump j (to t))) is (λ f l u. h f (omega arith) (omega arith)),
  )
  fields_within R x p (call_reg r ∷ is) h = fields_within R x (p + len m {D = Dest} (call_reg r)) is (λ f l u. h f (omega arith) (omega arith))
  fields_within R x p (ret ∷ is) h = fields_within R x (p + len m {D = Dest} ret) is (λ f l u. h f (omega arith) (omega arith))

  -- .. and those of blocks, the first that of slot s and at p, within their makers' code
  blocks-within : (R : ℕ → ℕ → Type 0) (s p : ℕ) (bs : List (Block P J))
      → ((ahead : List (Block P J)) (b : Block P J) (behind : List (Block P J)) → bs ≡ ahead ++ b ∷ behind
      → (f : ℕ) → p + size m (flat ahead) ≤ f → f + 4 ≤ p + size m (flat ahead) + size m b.code → R (s + slots_in ahead) f)
      → Beside R (made_from s bs) (fields_of m p (flat bs))
  blocks-within R s p [] h = tt
  blocks-within R s p (b ∷ bs) h =
      rw (fields-append m p b.code (flat bs))
      (beside-append R (each s (targets_of b.code)) (fields_of m p b.code) (made_from (s + slots_wide b.wide) bs) _
      (fields_within R s p b.code (λ f l u. rw (add-zero s) at (h [] b bs refl f (omega arith) (omega arith))))
      (blocks-within R (s + slots_wide b.wide) (p + size m b.code) bs later))
    where
      later : (ahead : List (Block P J)) (c : Block P J) (behind : List (Block P J)) → bs ≡ ahead ++ c ∷ behind
          → (f : ℕ) → p + size m b.code + size m (flat ahead) ≤ f → f + 4 ≤ p + size m b.code + size m (flat ahead) + size m c.code
          → R (s + slots_wide b.wide + slots_in ahead) f
      later ahead c behind e f l u =
          let n : size m (flat (b ∷ ahead)) ≡ size m b.code + size m (flat ahead) = size-append m b.code (flat ahead) in
          rw (← add_assoc s (slots_wide b.wide) (slots_in ahead)) at
          (h (b ∷ ahead) c behind (ap (λ (l : List (Block P J)). b ∷ l) e) f (omega (arith, n, l)) (omega (arith, n, u)))

  -- Of a page whose epilogue lists no jump, each maker is beside a field within that maker's code.
  pub makers-within : (g : Page P J) → targets_of g.epilogue ≡ [] → Beside (Within m g) (maker_table g) (field_table m g)
  makers-within g e =
      let start : ℕ = size m g.prologue in
      let last = fields_of m (start + size m (flat g.blocks)) g.epilogue in
      let none : last ≡ [] = empty last (omega (arith, length_fields m (start + size m (flat g.blocks)) g.epilogue, ap length e)) in
      let fields : field_table m g ≡ fields_of m 0 g.prologue ++ fields_of m start (flat g.blocks) =
      fields-append m 0 g.prologue (flat g.blocks ++ g.epilogue)
      ∙ rw (zero-add start, fields-append m start (flat g.blocks) g.epilogue, none, append-nil (fields_of m start (flat g.blocks))) refl in
      rw fields
      (beside-append (Within m g) (each (slots_in g.blocks) (targets_of g.prologue)) (fields_of m 0 g.prologue) (made_from 0 g.blocks) _
      (fields_within (Within m g) (slots_in g.blocks) 0 g.prologue (λ f l u. of_prologue refl (omega (arith, u))))
      (blocks-within (Within m g) 0 start g.blocks inside))
    where
      inside : (ahead : List (Block P J)) (b : Block P J) (behind : List (Block P J)) → g.blocks ≡ ahead ++ b ∷ behind → (f : ℕ)
          → size m g.prologue + size m (flat ahead) ≤ f → f + 4 ≤ size m g.prologue + size m (flat ahead) + size m b.code
          → Within m g (0 + slots_in ahead) f
      inside ahead b behind s f l u =
          of_slot (size m g.prologue + size m (flat ahead)) b
          (record { ahead = ahead; behind = behind; split = s; number = sym (zero-add (slots_in ahead)); place = refl }) l u
