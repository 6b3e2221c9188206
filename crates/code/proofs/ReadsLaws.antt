-- The laws of specs/Reads.antt: the bytes of a list of well-formed instructions are read as that list; and reading at the place of an
-- instruction of a page gives that instruction, and as many bytes as it has.
use mathlib.Core.Path.{◌≡◌, refl, ap, sym, ◌∙◌}
use mathlib.Core.List.{List, [], ◌∷◌, ◌++◌}
use Prim.Native.Nat.{ℕ, zero, suc, ◌+◌, ◌-◌, ◌≤◌}
use native.Mathlib.Omega.{arith}
use native.Mathlib.Nat.{add_assoc, zero-add}
use lib.ListN.{length, drop, length-append}
use lib.Seq.{drop-append-add}
use Rattle.code.specs.Instr.{Instr, Dest, Isa}
use Rattle.code.specs.Code.{map_i, field, encode, len, size, lower, lowered, bytes, code_of}
use Rattle.code.specs.Reads.{Read, bad, got, Reads, torn, all, cons, onward, read_up_to, read_all}
use Rattle.code.proofs.Lawful.{Lawful}
use Rattle.code.proofs.CodeLaws.{len-encode, len-any, lowered-append}

-- the first of what is read is read at the first byte
pub first_read : {P J : Type 0} (decode : List ℕ → Read P J) (code : List ℕ) (i : Instr P J ℕ) (is : List (Instr P J ℕ))
    → read_all decode code ≡ all (i ∷ is) → (r : List ℕ) × (decode code ≡ got i r)
unfolding read_up_to
first_read decode [] i is e = let z : ◌≡◌ {A = ℕ} 0 1 = cc in absurd (omega arith)
first_read {P} {J} decode (b ∷ l) i is e = by (decode (b ∷ l)) refl e
  where
    one : (j : Instr P J ℕ) (r : List ℕ) (t : Reads P J) → decode (b ∷ l) ≡ got j r → cons j t ≡ all (i ∷ is)
        → (r : List ℕ) × (decode (b ∷ l) ≡ got i r)
    one j r torn d q = let z : ◌≡◌ {A = ℕ} 0 1 = cc in absurd (omega arith)
    one j r (all is') d q = let h : j ≡ i = cc in (r, d ∙ rw h)

    by : (d : Read P J) → decode (b ∷ l) ≡ d → onward d (λ t. read_up_to decode (length l) t) ≡ all (i ∷ is)
        → (r : List ℕ) × (decode (b ∷ l) ≡ got i r)
    by bad d q = let z : ◌≡◌ {A = ℕ} 0 1 = cc in absurd (omega arith)
    by (got j r) d q = one j r (read_up_to decode (length l) r) d q

-- a reader of a processor's instructions: it undoes the writing of those that have an encoding, of which none is empty
pub record Reader {P J : Type 0} (m : Isa P J) : Type 1 where
  pub decode : List ℕ → Read P J
  pub Wf : Instr P J ℕ → Type 0
  pub lawful : Lawful m
  pub trip : (i : Instr P J ℕ) (r : List ℕ) → Wf i → decode (encode m i ++ r) ≡ got i r
  pub some : (i : Instr P J ℕ) → 1 ≤ len m i

module _ {P J : Type 0} {m : Isa P J} (d : Reader m) where
  abbrev pub Wfs : List (Instr P J ℕ) → Type 0
  Wfs [] = Unit {0}
  Wfs (i ∷ l) = d.Wf i × Wfs l

  -- The bytes of a list are read as that list.
  first : (i : Instr P J ℕ) (r : List ℕ) → d.Wf i → (n : ℕ) → read_up_to d.decode (suc n) (encode m i ++ r) ≡ cons i (read_up_to d.decode n r)
  unfolding read_up_to
  first i r w n = go (encode m i) (d.trip i r w) (rw (len-encode d.lawful i) (d.some i))
    where
      go : (l : List ℕ) → d.decode (l ++ r) ≡ got i r → 1 ≤ length l
          → read_up_to d.decode (suc n) (l ++ r) ≡ cons i (read_up_to d.decode n r)
      go [] e h = absurd (omega (arith, h))
      go (b ∷ l) e h = ap (λ (x : Read P J). onward x (λ t. read_up_to d.decode n t)) e

  read_back : (l : List (Instr P J ℕ)) → Wfs l → (n : ℕ) → length l ≤ n → read_up_to d.decode n (bytes m l) ≡ all l
  unfolding read_up_to
  read_back [] g zero h = refl
  read_back [] g (suc n) h = refl
  read_back (i ∷ l) g zero h = absurd (omega arith)
  read_back (i ∷ l) g (suc n) h = first i (bytes m l) g.0 n ∙ ap (cons i) (read_back l g.1 n (omega arith))

  few : (l : List (Instr P J ℕ)) → length l ≤ length (bytes m l)
  few [] = omega arith
  few (i ∷ l) = rw (length-append (encode m i) (bytes m l), len-encode d.lawful i) (omega (arith, few l, d.some i))

  pub read-all : (loc : ℕ → ℕ) (is : List (Instr P J Dest)) → Wfs (lowered m loc 0 is)
      → read_all d.decode (code_of m loc is) ≡ all (lowered m loc 0 is)
  read-all loc is w = let l = lowered m loc 0 is in read_back l w (length (bytes m l)) (few l)

  wfs-at : (pre : List (Instr P J ℕ)) (i : Instr P J ℕ) (post : List (Instr P J ℕ)) → Wfs (pre ++ i ∷ post) → d.Wf i
  wfs-at [] i post w = w.0
  wfs-at (a ∷ pre) i post w = wfs-at pre i post w.1

-- The bytes from the place of an instruction on.
pub drop_code : {P J : Type 0} {m : Isa P J} (l : Lawful m) (loc : ℕ → ℕ) (p : ℕ) (pre rest : List (Instr P J Dest))
    → drop (size m pre) (bytes m (lowered m loc p (pre ++ rest))) ≡ bytes m (lowered m loc (p + size m pre) rest)
drop_code {m = m} l loc p [] rest = ap (λ (q : ℕ). bytes m (lowered m loc q rest)) (omega arith)
drop_code {m = m} l loc p (i ∷ pre) rest =
    let x = map_i (field loc (p + len m i)) i in
    let more = bytes m (lowered m loc (p + len m i) (pre ++ rest)) in
    ap (λ (n : ℕ). drop (n + size m pre) (encode m x ++ more)) (sym (len-any l (field loc (p + len m i)) i))
    ∙ drop-append-add (encode m x) more (size m pre)
    ∙ drop_code l loc (p + len m i) pre rest
    ∙ ap (λ (q : ℕ). bytes m (lowered m loc q rest)) (add_assoc p (len m i) (size m pre))

-- An instruction that stands at p.
module _ {P J : Type 0} {m : Isa P J} (d : Reader m) (loc : ℕ → ℕ) (is pre : List (Instr P J Dest)) (i : Instr P J Dest)
    (post : List (Instr P J Dest)) (p : ℕ) (e : is ≡ pre ++ i ∷ post) (z : size m pre ≡ p) where
  abbrev rest : List ℕ
  rest = bytes m (lowered m loc (p + len m i) post)

  there : drop p (code_of m loc is) ≡ encode m (lower m loc p i) ++ rest
  there =
      rw (e, ← z) (drop_code d.lawful loc 0 pre (i ∷ post)
      ∙ ap (λ (q : ℕ). bytes m (lowered m loc q (i ∷ post))) (zero-add (size m pre)))

  pub fetch-at : Wfs d (lowered m loc 0 is) → d.decode (drop p (code_of m loc is)) ≡ got (lower m loc p i) rest
  fetch-at w =
      ap d.decode there
      ∙ d.trip (lower m loc p i) rest
      (wfs-at d (lowered m loc 0 pre) (lower m loc p i) (lowered m loc (p + len m i) post)
      (rw (e, lowered-append m loc 0 pre (i ∷ post), zero-add (size m pre), z) at w))

  pub fetch-len : length (drop p (code_of m loc is)) - length rest ≡ len m i
  fetch-len =
      rw (there, length-append (encode m (lower m loc p i)) rest, len-any d.lawful (field loc (p + len m i)) i) (omega arith)
