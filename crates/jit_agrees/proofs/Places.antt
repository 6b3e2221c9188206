-- Where the slot behind another begins: where its code ends, if it begins anywhere, and else there is none; and which slots begin nowhere: the
-- second halves. For every processor.
use mathlib.Core.Path.{◌≡◌, refl, ap, sym, ◌∙◌}
use mathlib.Core.Logic.{◌≢◌}
use mathlib.Core.Bool.{Bool, true, false}
use mathlib.Core.List.{List, [], ◌∷◌, ◌++◌, append_assoc}
use Prim.Native.Nat.{ℕ, zero, suc, ◌+◌, ◌<◌}
use native.Mathlib.Omega.{arith}
use lib.ListN.{get_or}
use Rattle.code.specs.Instr.{Isa}
use Rattle.code.specs.Code.{size}
use Rattle.code.specs.Page.{Block, slots_wide, entries, past_last, flat, slots_in, starts}
use Rattle.code.proofs.CodeLaws.{size-append}

pub flat_append : {P J : Type 0} (a b : List (Block P J)) → flat (a ++ b) ≡ flat a ++ flat b
flat_append [] b = refl
flat_append (x ∷ a) b = rw (flat_append a b) (sym (append_assoc x.code (flat a) (flat b)))

module _ {P J : Type 0} (m : Isa P J) where
  -- the location of slot t, these blocks beginning at p
  abbrev pub location : (p : ℕ) → List (Block P J) → (t : ℕ) → ℕ
  location p bs t = get_or (starts m p bs ++ past_last) t 0

  first-start : (p : ℕ) (bs : List (Block P J)) → location p bs 0 ≢ 0 → location p bs 0 ≡ p
  first-start p [] n = absurd (n refl)
  first-start p (b ∷ bs) n = by b.wide
    where
      by : (w : Bool) → get_or ((entries p w ++ starts m (p + size m b.code) bs) ++ past_last) 0 0 ≡ p
      by true = refl
      by false = refl

  first_some : (p : ℕ) (b : Block P J) (bs : List (Block P J)) → 0 < p → location p (b ∷ bs) 0 ≢ 0
  first_some p b bs h = by b.wide
    where
      by : (w : Bool) → get_or ((entries p w ++ starts m (p + size m b.code) bs) ++ past_last) 0 0 ≢ 0
      by true z = omega arith
      by false z = omega arith

  first-none : (p : ℕ) (bs : List (Block P J)) → 0 < p → location p bs 0 ≡ 0 → bs ≡ []
  first-none p [] h e = refl
  first-none p (b ∷ bs) h e = absurd (first_some p b bs h e)

  -- behind the first block
  later : (p : ℕ) (b : Block P J) (bs : List (Block P J)) (t n : ℕ) → slots_wide b.wide + t ≡ n
      → location p (b ∷ bs) n ≡ location (p + size m b.code) bs t
  later p b bs t n e = ap (location p (b ∷ bs)) (sym e) ∙ by b.wide
    where
      behind : List ℕ
      behind = starts m (p + size m b.code) bs ++ past_last

      by : (w : Bool) → get_or ((entries p w ++ starts m (p + size m b.code) bs) ++ past_last) (slots_wide w + t) 0 ≡ get_or behind t 0
      by true = ap (λ (n : ℕ). get_or (p ∷ 0 ∷ behind) n 0) (let q : 2 + t ≡ suc (suc t) = omega arith in q)
      by false = ap (λ (n : ℕ). get_or (p ∷ behind) n 0) (let q : 1 + t ≡ suc t = omega arith in q)

  pub next_start : (p : ℕ) (ahead : List (Block P J)) (b : Block P J) (behind : List (Block P J)) → b.wide ≡ false
      → let next = location p (ahead ++ b ∷ behind) (slots_in ahead + 1) in next ≢ 0 → next ≡ p + size m (flat ahead) + size m b.code
  next_start p [] b behind e n =
      let one : slots_wide b.wide + 0 ≡ 0 + 1 = rw e refl in
      let l = later p b behind 0 (0 + 1) one in
      l ∙ first-start (p + size m b.code) behind (λ z. n (l ∙ z)) ∙ omega arith
  next_start p (a ∷ ahead) b behind e n =
      let l = later p a (ahead ++ b ∷ behind) (slots_in ahead + 1) (slots_wide a.wide + slots_in ahead + 1) (omega arith) in
      l ∙ next_start (p + size m a.code) ahead b behind e (λ z. n (l ∙ z)) ∙ rw (size-append m a.code (flat ahead)) (omega arith)

  pub next-none : (p : ℕ) (ahead : List (Block P J)) (b : Block P J) (behind : List (Block P J)) → 0 < p → b.wide ≡ false
      → location p (ahead ++ b ∷ behind) (slots_in ahead + 1) ≡ 0 → behind ≡ []
  next-none p [] b behind h e z =
      let one : slots_wide b.wide + 0 ≡ 0 + 1 = rw e refl in
      first-none (p + size m b.code) behind (omega arith) (sym (later p b behind 0 (0 + 1) one) ∙ z)
  next-none p (a ∷ ahead) b behind h e z =
      let l = later p a (ahead ++ b ∷ behind) (slots_in ahead + 1) (slots_wide a.wide + slots_in ahead + 1) (omega arith) in
      next-none (p + size m a.code) ahead b behind (omega arith) e (sym l ∙ z)

  -- a location that is 0 is that of a second half: slot t, behind a wide block that begins at the slot `before`
  pub record Half (p : ℕ) (bs : List (Block P J)) (t : ℕ) : Type 0 where
    pub ahead : List (Block P J)
    pub block : Block P J
    pub behind : List (Block P J)
    pub before : ℕ
    pub split : bs ≡ ahead ++ block ∷ behind
    pub wide : block.wide ≡ true
    pub number : slots_in ahead ≡ before
    pub next : before + 1 ≡ t
    pub begins : location p bs before ≢ 0

  half-later : (p : ℕ) (b : Block P J) (bs : List (Block P J)) (t n : ℕ) → slots_wide b.wide + t ≡ n → Half (p + size m b.code) bs t
      → Half p (b ∷ bs) n
  half-later p b bs t n e h =
      record {
        ahead = b ∷ h.ahead;
        block = h.block;
        behind = h.behind;
        before = slots_wide b.wide + h.before;
        split = ap (λ (l : List (Block P J)). b ∷ l) h.split;
        wide = h.wide;
        number = rw h.number;
        next = omega (arith, h.next, e);
        begins = λ z. h.begins (sym (later p b bs h.before (slots_wide b.wide + h.before) refl) ∙ z);
      }

  pub half : (p : ℕ) (bs : List (Block P J)) (t : ℕ) → 0 < p → t < slots_in bs → location p bs t ≡ 0 → Half p bs t
  half p [] t h l z = absurd (omega (arith, l))
  half p (b ∷ bs) t h l z = by b.wide refl t l z (λ t. half (p + size m b.code) bs t (omega arith))
    where
      Later : Type 0
      Later = (t : ℕ) → t < slots_in bs → location (p + size m b.code) bs t ≡ 0 → Half (p + size m b.code) bs t

      on : (t n : ℕ) → slots_wide b.wide + t ≡ n → n < slots_wide b.wide + slots_in bs → location p (b ∷ bs) n ≡ 0 → Later → Half p (b ∷ bs) n
      on t n e l z ih = half-later p b bs t n e (ih t (omega arith) (sym (later p b bs t n e) ∙ z))

      by : (w : Bool) → b.wide ≡ w → (t : ℕ) → t < slots_wide b.wide + slots_in bs → location p (b ∷ bs) t ≡ 0 → Later → Half p (b ∷ bs) t
      by w e zero l z ih = absurd (first_some p b bs h z)
      by true e (suc zero) l z ih =
          record {
            ahead = [];
            block = b;
            behind = bs;
            before = 0;
            split = refl;
            wide = e;
            number = refl;
            next = refl;
            begins = first_some p b bs h;
          }
      by true e (suc (suc t)) l z ih = on t (suc (suc t)) (ap (λ (w : Bool). slots_wide w + t) e ∙ omega arith) l z ih
      by false e (suc t) l z ih = on t (suc t) (ap (λ (w : Bool). slots_wide w + t) e ∙ omega arith) l z ih
