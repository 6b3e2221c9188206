-- Filling the fields, one after the other.
use Rattle.std.proofs.Common.{◌≡◌, ℕ, zero, suc, ◌+◌, ◌-◌, ◌%◌, ◌^◌, ◌<◌, ◌≤◌, List, [], ◌∷◌, ◌++◌, length, get_or, take, drop, sym, refl, ◌∙◌, add-one, arith, drop_of_length-le, length-take, drop-cons, get_or-take}
use lib.Seq.{sets}
use Rattle.base.specs.Bytes.{le32}
use Rattle.x86.specs.Instr.{Instr, op, jump, call_reg, ret}
use Rattle.x86.specs.Encode.{len}
use Rattle.x86.specs.Code.{Dest, near, to, size, place}
use Rattle.x86.specs.Lowered.{fields_of}
use Rattle.x86.specs.Fill.{filled, value_at}

-- the fields from k on are left
pub record Filling (loc : ℕ → ℕ) (count : ℕ) (fs ts : List ℕ) (whole : List ℕ) (k : ℕ) (code : List ℕ) : Type 0 where
  pub left : whole ≡ filled loc (drop k (take count fs)) (drop k (take count ts)) code

-- the difference modulo 2 ^ 32, from what the wrapping subtraction ensures
pub wraps : (r a b : ℕ) → (r + b) % 2 ^ 32 ≡ a → r < 2 ^ 32 → b < 2 ^ 32 → r ≡ (a + (2 ^ 32 - b)) % 2 ^ 32
wraps r a b e h g = omega (arith, e)

pub fills : {loc : ℕ → ℕ} {fs ts whole : List ℕ} {k : ℕ} {code code' : List ℕ} {count : ℕ} (v : ℕ) → Filling loc count fs ts whole k code
    → k < count → count ≤ length fs → count ≤ length ts
    → v ≡ value_at loc (get_or fs k 0) (get_or ts k 0)
    → code' ≡ sets code (get_or fs k 0) (le32 v) → Filling loc count fs ts whole (k + 1) code'
fills {fs = fs} {ts = ts} {k = k} {count = count} v s h p q e c =
    let hf : k < length (take count fs) = simp length-take (omega arith) in
    let ht : k < length (take count ts) = simp length-take (omega arith) in
    record { left = s.left ∙ rw (drop-cons (take count fs) k 0 hf, drop-cons (take count ts) k 0 ht, get_or-take count fs k 0 h, get_or-take count ts k 0 h, c, e, add-one) refl }

pub filled-all : {loc : ℕ → ℕ} {fs ts whole : List ℕ} {k : ℕ} {code : List ℕ} {count : ℕ} → Filling loc count fs ts whole k code → count ≤ k → code ≡ whole
filled-all {fs = fs} {k = k} {count = count} s h =
    let hf : length (take count fs) ≤ k = simp length-take (omega arith) in
    sym (s.left ∙ rw (drop_of_length-le (take count fs) hf) refl)

-- every field lies within its code
pub fields-inside : (p : ℕ) (is : List (Instr Dest)) (k : ℕ) → k < length (fields_of p is) → get_or (fields_of p is) k 0 + 4 ≤ p + size is
fields-inside p [] k h = absurd (omega arith)
fields-inside p (i ∷ is) k h = by i k h (λ j g. fields-inside (p + len i) is j g)
  where
    by : (i : Instr Dest) (k : ℕ) → k < length (place (p + len i) i ++ fields_of (p + len i) is)
        → ((j : ℕ) → j < length (fields_of (p + len i) is) → get_or (fields_of (p + len i) is) j 0 + 4 ≤ p + len i + size is)
        → get_or (place (p + len i) i ++ fields_of (p + len i) is) k 0 + 4 ≤ p + (len i + size is)
    by (op q) k h ih = omega (arith, ih k h)
    by (jump j (near d)) k h ih = omega (arith, ih k h)
    by (jump j (to t)) zero h ih = omega arith
    by (jump j (to t)) (suc k) h ih = omega (arith, ih k (omega arith))
    by (call_reg r) k h ih = omega (arith, ih k h)
    by ret k h ih = omega (arith, ih k h)
