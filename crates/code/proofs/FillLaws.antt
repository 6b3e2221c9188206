-- The laws of specs/Fill.antt: filling the fields of code that was written with blank ones gives the code.
use mathlib.Core.Path.{◌≡◌, ◌∙◌, refl, ap, sym}
use mathlib.Core.List.{List, [], ◌∷◌, ◌++◌, append_assoc}
use Prim.Native.Nat.{ℕ, suc, ◌+◌, ◌-◌, ◌≤◌, ◌<◌, ◌^◌}
use native.Mathlib.Omega.{arith}
use native.Mathlib.Nat.{zero-add}
use lib.ListN.{length, length-append, take, drop}
use lib.Seq.{sets, set_at, append_snoc, sets-eq, take_at, drop_at}
use Rattle.base.specs.Bytes.{le32, join}
use Rattle.base.proofs.BytesLaws.{join-le32}
use Rattle.code.specs.Instr.{Instr, op, jump, call_reg, ret, Dest, near, to, Isa}
use Rattle.code.specs.Code.{map_i, field, target, place, targets_of, encode, len, size, lower, lowered, bytes, fields_of}
use Rattle.code.specs.Fill.{blank, blanks}
use Rattle.code.specs.Fill.{value_at, word_at, filled}
use Rattle.base.specs.Lists.{over}
use Rattle.code.proofs.Lawful.{Lawful}
use Rattle.code.proofs.CodeLaws.{len-any, length-blanks, length-bytes}

-- stores over as many elements that stand there
pub sets-at : (p x y r : List ℕ) (n : ℕ) → length p ≡ n → length x ≡ length y → sets (p ++ (x ++ r)) n y ≡ p ++ (y ++ r)
sets-at p [] [] r n e f = refl
sets-at p [] (b ∷ y) r n e f = absurd (omega (arith, f))
sets-at p (a ∷ x) [] r n e f = absurd (omega (arith, f))
sets-at p (a ∷ x) (b ∷ y) r n e f =
    let q : length (p ++ (b ∷ [])) ≡ suc n = length-append p (b ∷ []) ∙ omega (arith, e) in
    rw (set_at p a (x ++ r) b n e, ← append_snoc p b (x ++ r), sets-at (p ++ (b ∷ [])) x y r (suc n) q (omega (arith, f)))
    (append_snoc p b (y ++ r))

regroup : (p h x r : List ℕ) → p ++ ((h ++ x) ++ r) ≡ (p ++ h) ++ (x ++ r)
regroup p h x r = simp append_assoc

word-there : (p h r : List ℕ) (w n : ℕ) → w < 2 ^ 32 → n ≡ length p + length h → word_at (p ++ ((h ++ le32 w) ++ r)) n ≡ w
word-there p h r w n l e =
    let z : length (p ++ h) ≡ n = length-append p h ∙ sym e in
    ap (λ (c : List ℕ). word_at c n) (regroup p h (le32 w) r)
    ∙ ap (λ (c : List ℕ). join (take 4 c)) (drop_at (p ++ h) (le32 w ++ r) n z)
    ∙ join-le32 w l

module _ {P J : Type 0} {m : Isa P J} (w : Lawful m) (loc : ℕ → ℕ) where
  -- the word behind the head's bytes
  patched : (p r : List ℕ) (j : J) (t e : ℕ) → e ≡ length p + (length (m.head j) + 4) → e ≤ 2 ^ 32
      → let c = p ++ ((m.head j ++ le32 (m.word j 0)) ++ r) in
      sets c (e - 4) (le32 (m.patch (word_at c (e - 4)) (value_at loc (e - 4) t))) ≡ p ++ ((m.head j ++ le32 (m.word j (field loc e (to t)))) ++ r)
  patched p r j t e q g =
      let h = m.head j in
      let old = m.word j 0 in
      let c = p ++ ((h ++ le32 old) ++ r) in
      let v = value_at loc (e - 4) t in
      let there : word_at c (e - 4) ≡ old = word-there p h r old (e - 4) (w.word_lt j) (omega (arith, q)) in
      let new : m.patch (word_at c (e - 4)) v ≡ m.word j (field loc e (to t)) =
      ap (λ (x : ℕ). m.patch x v) there ∙ w.patch-word j v ∙ ap (m.word j) (omega (arith, q, g)) in
      ap (λ (x : ℕ). sets c (e - 4) (le32 x)) new
      ∙ ap (λ (l : List ℕ). sets l (e - 4) (le32 (m.word j (field loc e (to t))))) (regroup p h (le32 old) r)
      ∙ sets-at (p ++ h) (le32 old) (le32 (m.word j (field loc e (to t)))) r (e - 4) (length-append p h ∙ omega (arith, q)) refl
      ∙ sym (regroup p h (le32 (m.word j (field loc e (to t)))) r)

  -- one instruction
  fill_one : (i : Instr P J Dest) (p r fs ts : List ℕ) (n : ℕ) → length p ≡ n → n + len m i ≤ 2 ^ 32
      → filled m loc (place (n + len m i) i ++ fs) (target i ++ ts) (p ++ (encode m (map_i blank i) ++ r))
      ≡ filled m loc fs ts (p ++ (encode m (lower m loc n i) ++ r))
  fill_one (op q) p r fs ts n e h = refl
  fill_one (jump j (near k)) p r fs ts n e h = refl
  fill_one (jump j (to t)) p r fs ts n e h = ap (filled m loc fs ts) (patched p r j t (n + (length (m.head j) + 4)) (omega (arith, e)) h)
  fill_one (call_reg q) p r fs ts n e h = refl
  fill_one ret p r fs ts n e h = refl

  -- all of them, between what stands before and behind
  pub fill-all : (is : List (Instr P J Dest)) (p r : List ℕ) (n : ℕ) → length p ≡ n → n + size m is ≤ 2 ^ 32
      → filled m loc (fields_of m n is) (targets_of is) (p ++ (blanks m is ++ r)) ≡ p ++ (bytes m (lowered m loc n is) ++ r)
  fill-all [] p r n e h = refl
  fill-all (i ∷ is) p r n e h =
      let x = encode m (map_i blank i) in
      let y = encode m (map_i (field loc (n + len m i)) i) in
      rw (append_assoc x (blanks m is) r)
      (fill_one i p (blanks m is ++ r) (fields_of m (n + len m i) is) (targets_of is) n e (omega (arith, h))
      ∙ rw (← append_assoc p y (blanks m is ++ r))
      (fill-all is (p ++ y) r (n + len m i) (length-append p y ∙ rw (e, len-any w (field loc (n + len m i)) i)) (omega (arith, h))
      ∙ rw (append_assoc p y (bytes m (lowered m loc (n + len m i) is) ++ r), append_assoc y (bytes m (lowered m loc (n + len m i) is)) r) refl))

pub sets_over : (ys l : List ℕ) → length ys ≤ length l → sets l 0 ys ≡ over ys l
sets_over ys l h = sets-eq ys l 0 (omega arith) ∙ ap (λ (n : ℕ). ys ++ drop n l) (zero-add (length ys))

pub take-over : (ys l : List ℕ) (n : ℕ) → length ys ≡ n → take n (over ys l) ≡ ys
take-over ys l n e = take_at ys (drop (length ys) l) n e

-- the buffer: blank code at its head, filled, is the code at its head
pub fill-over : {P J : Type 0} {m : Isa P J} (w : Lawful m) (loc : ℕ → ℕ) (is : List (Instr P J Dest)) (l : List ℕ)
    → size m is ≤ length l → size m is ≤ 2 ^ 32
    → filled m loc (fields_of m 0 is) (targets_of is) (sets l 0 (blanks m is)) ≡ over (bytes m (lowered m loc 0 is)) l
fill-over {m = m} w loc is l h g =
    rw (sets_over (blanks m is) l (rw (length-blanks w is) h), length-blanks w is, length-bytes w loc 0 is)
    (fill-all w loc is [] (drop (size m is) l) 0 refl (omega (arith, g)))
