-- The laws of specs/Code.antt.
use mathlib.Core.Path.{◌≡◌, ◌∙◌, refl, ap, sym}
use mathlib.Core.List.{List, [], ◌∷◌, ◌++◌, append_assoc}
use Prim.Native.Nat.{ℕ, ◌+◌}
use native.Mathlib.Nat.{add_assoc, add-zero}
use native.Mathlib.Omega.{arith}
use lib.ListN.{length, length-append}
use Rattle.base.specs.Bytes.{le32}
use Rattle.code.specs.Instr.{Instr, op, jump, call_reg, ret, Dest, near, to, Isa}
use Rattle.code.specs.Code.{map_i, field, target, place, targets_of, encode, len, size, lowered, bytes, fields_of}
use Rattle.code.specs.Fill.{blank, blanks}
use Rattle.code.proofs.Lawful.{Lawful}

pub targets-append : {P J : Type 0} (a b : List (Instr P J Dest)) → targets_of (a ++ b) ≡ targets_of a ++ targets_of b
targets-append [] b = refl
targets-append (i ∷ a) b = rw (targets-append a b) (sym (append_assoc (target i) (targets_of a) (targets_of b)))

module _ {P J : Type 0} (m : Isa P J) where
  -- lengths
  pub len-map : {A B : Type 0} (f : A → B) (i : Instr P J A) → len m (map_i f i) ≡ len m i
  len-map f (op p) = refl
  len-map f (jump j x) = refl
  len-map f (call_reg r) = refl
  len-map f ret = refl

  -- one list behind another
  pub size-append : (a b : List (Instr P J Dest)) → size m (a ++ b) ≡ size m a + size m b
  size-append [] b = omega arith
  size-append (i ∷ a) b = rw (size-append a b) (omega arith)

  pub blanks-append : (a b : List (Instr P J Dest)) → blanks m (a ++ b) ≡ blanks m a ++ blanks m b
  blanks-append [] b = refl
  blanks-append (i ∷ a) b = rw (blanks-append a b) (sym (append_assoc (encode m (map_i blank i)) (blanks m a) (blanks m b)))

  pub fields-append : (p : ℕ) (a b : List (Instr P J Dest)) → fields_of m p (a ++ b) ≡ fields_of m p a ++ fields_of m (p + size m a) b
  fields-append p [] b = ap (λ (q : ℕ). fields_of m q b) (sym (add-zero p))
  fields-append p (i ∷ a) b =
      rw (fields-append (p + len m i) a b, add_assoc p (len m i) (size m a))
      (sym (append_assoc (place (p + len m i) i) (fields_of m (p + len m i) a) (fields_of m (p + (len m i + size m a)) b)))

  pub lowered-append : (loc : ℕ → ℕ) (p : ℕ) (a b : List (Instr P J Dest))
      → lowered m loc p (a ++ b) ≡ lowered m loc p a ++ lowered m loc (p + size m a) b
  lowered-append loc p [] b = ap (λ (q : ℕ). lowered m loc q b) (sym (add-zero p))
  lowered-append loc p (i ∷ a) b = rw (lowered-append loc (p + len m i) a b, add_assoc p (len m i) (size m a))

  -- as many fields as targets
  pub length_fields : (p : ℕ) (is : List (Instr P J Dest)) → length (fields_of m p is) ≡ length (targets_of is)
  length_fields p [] = refl
  length_fields p (i ∷ is) =
      length-append (place (p + len m i) i) (fields_of m (p + len m i) is)
      ∙ rw (length_fields (p + len m i) is, length-append (target i) (targets_of is), each i)
    where
      each : (i : Instr P J Dest) → length (place (p + len m i) i) ≡ length (target i)
      each (op q) = refl
      each (jump j (near k)) = refl
      each (jump j (to t)) = refl
      each (call_reg r) = refl
      each ret = refl

module _ {P J : Type 0} {m : Isa P J} (l : Lawful m) where
  pub len-encode : (i : Instr P J ℕ) → length (encode m i) ≡ len m i
  len-encode (op p) = refl
  len-encode (jump j x) = length-append (m.head j) (le32 (m.word j x))
  len-encode (call_reg r) = l.through-length r
  len-encode ret = refl

  -- an instruction's bytes are as many, whatever its jump carries
  pub len-any : {A : Type 0} (f : A → ℕ) (i : Instr P J A) → length (encode m (map_i f i)) ≡ len m i
  len-any f i = len-encode (map_i f i) ∙ len-map m f i

  pub length-blanks : (is : List (Instr P J Dest)) → length (blanks m is) ≡ size m is
  length-blanks [] = refl
  length-blanks (i ∷ is) = length-append (encode m (map_i blank i)) (blanks m is) ∙ rw (len-any blank i, length-blanks is)

  pub length-bytes : (loc : ℕ → ℕ) (p : ℕ) (is : List (Instr P J Dest)) → length (bytes m (lowered m loc p is)) ≡ size m is
  length-bytes loc p [] = refl
  length-bytes loc p (i ∷ is) =
      length-append (encode m (map_i (field loc (p + len m i)) i)) (bytes m (lowered m loc (p + len m i) is))
      ∙ rw (len-any (field loc (p + len m i)) i, length-bytes loc (p + len m i) is)
