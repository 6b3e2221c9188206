-- The laws of `Put`, `Emits` and `Recorded`: code that lists no jump, code that ends in one, one piece of code behind another.
use Rattle.std.proofs.Math.Seq.{length-sets}
use Rattle.std.proofs.Common.{◌≡◌, ℕ, ◌+◌, ◌-◌, ◌<◌, List, [], ◌∷◌, ◌++◌, length, get_or, set, refl, ap, ◌∙◌, arith, length-append, get_or-set_same}
use Rattle.base.proofs.Lists.{empty, sets-append}
use Rattle.x86.specs.Instr.{Jump, jump}
use Rattle.x86.specs.Encode.{jump_opcode, jump_kind}
use Rattle.x86.specs.Code.{to, size, targets_of, kinds_of}
use Rattle.x86.specs.Lowered.{fields_of}
use Rattle.x86.specs.Fill.{blanks}
use Rattle.x86.proofs.CodeLaws.{size-append, blanks-append, length-blanks, fields-append, targets-append, length_fields, kinds-append, length-kinds, each_append}
use Rattle.x86_emit.specs.Wrote.{Wrote}
use Rattle.x86_emit.proofs.WroteLaws.{then}
use Rattle.jit.specs.MulDivMod.{Code}
use Rattle.jit_recording.specs.Emits.{Tables, Emits, Put, Recorded}

-- entries behind entries, in a table
pub put-none : {l : List ℕ} {k : ℕ} → Put l l k k []
put-none {k = k} = record { next = omega arith; is = refl }

pub puts : {l l₁ l₂ : List ℕ} {k r₁ r₂ : ℕ} {xs ys : List ℕ} → Put l l₁ k r₁ xs → Put l₁ l₂ r₁ r₂ ys → Put l l₂ k r₂ (xs ++ ys)
puts {l} {k = k} {xs = xs} {ys = ys} p q =
    record { next = omega (arith, length-append xs ys, p.next, q.next); is = q.is ∙ rw (p.is, p.next) (sets-append l k xs ys) }

-- .. leave the table as long as it was
pub put-length : {l l' : List ℕ} {k r : ℕ} {ys : List ℕ} → Put l l' k r ys → length l' ≡ length l
put-length {l} {k = k} {ys = ys} p = ap length p.is ∙ length-sets l k ys

-- what stands in a table at the entry that was put there
pub entry : {l l' : List ℕ} {k r x : ℕ} → Put l l' k r (x ∷ []) → k < length l → get_or l' k 0 ≡ x
entry {l} {k = k} {x = x} p h = ap (λ (t : List ℕ). get_or t k 0) p.is ∙ get_or-set_same l k x 0 h

-- code that lists no jump
no_fields : (at : ℕ) (is : Code) → targets_of is ≡ [] → fields_of at is ≡ []
no_fields at is e = empty (fields_of at is) (omega (arith, length_fields at is, ap length e))

no-kinds : (is : Code) → targets_of is ≡ [] → kinds_of is ≡ []
no-kinds is e = empty (kinds_of is) (omega (arith, length-kinds is, ap length e))

pub plainly : {c c' : List ℕ} {t : Tables} {at at' j maker : ℕ} (is : Code) → targets_of is ≡ [] → Wrote c c' at at' (blanks is)
    → Emits c c' t t at j at' j maker is
plainly {at = at} is e w =
    record {
      wrote = w;
      fields = rw (no_fields at is e) put-none;
      targets = rw e put-none;
      kinds = rw (no-kinds is e) put-none;
      makers = rw e put-none;
    }

-- code whose last instruction is its one listed jump: the field is the instruction's last four bytes, the kind the instruction's
jumping : {c c' : List ℕ} {t : Tables} {at at' j maker : ℕ} (is : Code) (k : Jump) (target : ℕ) → targets_of is ≡ []
    → Wrote c c' at at' (blanks (is ++ (jump k (to target) ∷ [])))
    → Emits c c' t
    (record {
      fields = set t.fields j (at' - 4);
      targets = set t.targets j target;
      kinds = set t.kinds j (jump_kind k);
      makers = set t.makers j maker;
    })
    at j at' (j + 1) maker (is ++ (jump k (to target) ∷ []))
jumping {at = at} {at'} {j} is k target e w =
    let last : Code = jump k (to target) ∷ [] in
    let end : at' ≡ at + size is + (length (jump_opcode k) + 4) =
    omega (arith, w.next, length-blanks (is ++ last), size-append is last) in
    record {
      wrote = w;
      fields = rw (fields-append at is last, no_fields at is e, end) (record { next = omega arith; is = refl });
      targets = rw (targets-append is last, e) (record { next = omega arith; is = refl });
      kinds = rw (kinds-append is last, no-kinds is e) (record { next = omega arith; is = refl });
      makers = rw (targets-append is last, e) (record { next = omega arith; is = refl });
    }

-- one piece of code behind another
pub emits_then : {c c₁ c₂ : List ℕ} {t t₁ t₂ : Tables} {at j at₁ j₁ at₂ j₂ maker : ℕ} (a b : Code)
    → Emits c c₁ t t₁ at j at₁ j₁ maker a → Emits c₁ c₂ t₁ t₂ at₁ j₁ at₂ j₂ maker b → Emits c c₂ t t₂ at j at₂ j₂ maker (a ++ b)
emits_then {at = at} {at₁ = at₁} {maker = maker} a b p q =
    let seam : at₁ ≡ at + size a = p.wrote.next ∙ rw (length-blanks a) in
    record {
      wrote = rw (blanks-append a b) (then p.wrote q.wrote);
      fields = rw (fields-append at a b, ← seam) (puts p.fields q.fields);
      targets = rw (targets-append a b) (puts p.targets q.targets);
      kinds = rw (kinds-append a b) (puts p.kinds q.kinds);
      makers = rw (targets-append a b, each_append maker (targets_of a) (targets_of b)) (puts p.makers q.makers);
    }

pub jumped : {c c' : List ℕ} {t t' : Tables} {at end j j' target maker : ℕ} (is : Code) (k : Jump) → targets_of is ≡ []
    → Wrote c c' at end (blanks (is ++ (jump k (to target) ∷ []))) → Recorded t t' end j j' target (jump_kind k) maker
    → Emits c c' t t' at j end j' maker (is ++ (jump k (to target) ∷ []))
jumped {t = t} {end = end} {j = j} {target = target} {maker = maker} is k e w r =
    let v = jumping {t = t} {j = j} {maker = maker} is k target e w in
    rw r.next
    (record {
      wrote = v.wrote;
      fields = rw r.field v.fields;
      targets = rw r.target v.targets;
      kinds = rw r.kind_is v.kinds;
      makers = rw r.maker_is v.makers;
    })

-- no jump, with the next place under another name
pub onwards : {c c' : List ℕ} {t : Tables} {at p j r r' maker : ℕ} (is : Code) → targets_of is ≡ [] → Wrote c c' at p (blanks is) → (r ≡ p) × (r' ≡ j)
    → Emits c c' t t at j r r' maker is
onwards is e w h = rw (h.0, h.1) (plainly is e w)
