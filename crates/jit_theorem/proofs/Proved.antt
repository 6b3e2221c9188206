-- The theorem is proved: from the laws of `translate`'s contract, and from demand 3 of everything that `translation_of` accepts.
use mathlib.Core.Path.{◌≡◌, refl, sym, ◌∙◌}
use mathlib.Core.List.{List}
use Prim.Native.Nat.{ℕ, ◌+◌}
use native.Mathlib.Omega.{arith}
use Rattle.std.specs.Prelude.{Ok, Err}
use lib.ListN.{length, take}
use Rattle.base.specs.Lists.{over}
use Rattle.x86.proofs.FillLaws.{take-over}
use Rattle.jit.specs.Translation.{Inputs, slots_of, Outcome, no, yes, translation_of}
use Rattle.x86.specs.Encode.{isa}
use Rattle.jit.specs.JumpTables.{page_for, kind_table, maker_table, kinds_in, makers_in}
use Rattle.jit.proofs.ModesLaws.{modes}
use Rattle.jit.proofs.CompactLaws.{compact}
use Rattle.jit_safety.specs.Demand3.{Given, Demand3}
use Rattle.jit_safety.proofs.Program.{parts}
use Rattle.jit_safety.proofs.Proved.{demand3}
use Rattle.jit_safety.proofs.Useless.{division-raises}
use Rattle.jit_agrees.specs.Agrees.{Agrees}
use Rattle.jit_agrees.proofs.Proved.{agrees, follows-all}
use Rattle.jit_translate.specs.Translated.{Answer, Translated, answer_of, code_in, locations_in, fields_in, targets_in}
use Rattle.jit_translate.proofs.TranslatedLaws.{one_answer, same-numbers}
use Rattle.jit_theorem.specs.Theorem.{Buffers, Translates, Names, RefusalChangesNothing, PageIsSafe, PageAgrees, Promise, Theorem}

same : (a b : Buffers) → a.code ≡ b.code → a.locations ≡ b.locations → a.fields ≡ b.fields → a.targets ≡ b.targets
    → a.kinds ≡ b.kinds → a.makers ≡ b.makers → a ≡ b
same a b = by a.code a.locations a.fields a.targets a.kinds a.makers
  where
    by : (c l f t k m : List ℕ) → c ≡ b.code → l ≡ b.locations → f ≡ b.fields → t ≡ b.targets → k ≡ b.kinds → m ≡ b.makers
        → ◌≡◌ {A = Buffers} (record { code = c; locations = l; fields = f; targets = t; kinds = k; makers = m }) b
    by c l f t k m p q r s u v = rw (p, q, r, s, u, v) refl

-- 1
refusal-of : (x : Inputs) (before after : Buffers) (r : Answer) → Translates x before after r → Names x before after
    → RefusalChangesNothing x before after r
refusal-of x before after r h n q e = by (translation_of x) (rw e at h) n.kinds n.makers
  where
    by : (o : Outcome)
        → Translated o before.code after.code before.locations after.locations
        before.fields after.fields before.targets after.targets (Err q)
        → after.kinds ≡ over (kinds_in x o) before.kinds → after.makers ≡ over (makers_in x o) before.makers
        → (o ≡ no q) × (after ≡ before)
    by (no p) g k m = let a = g.answer in (cc, same after before g.code g.locations g.fields g.targets k m)
    by (yes c l f t) g k m = let a = g.answer in let z : ◌≡◌ {A = ℕ} 0 1 = cc in absurd (omega arith)

-- 3
module _ (x : Inputs) (given : Given x) (k₀ m₀ : List ℕ) {c₀ c₁ l₀ l₁ f₀ f₁ t₀ t₁ k₁ m₁ : List ℕ} {L J : ℕ} where
  of-outcome : (o : Outcome) → translation_of x ≡ o → Translated o c₀ c₁ l₀ l₁ f₀ f₁ t₀ t₁ (Ok (record { length = L; jumps = J }))
      → k₁ ≡ over (kinds_in x o) k₀ → m₁ ≡ over (makers_in x o) m₀
      → Demand3 x (take L c₁) (take (slots_of x.filter.program + 1) l₁) (take J f₁) (take J t₁) (take J k₁) (take J m₁)
  of-outcome (no r) e h k m = let a = h.answer in let z : ◌≡◌ {A = ℕ} 0 1 = cc in absurd (omega arith)
  of-outcome (yes code locs fields targets) e h k m =
      let p = parts x given code locs fields targets e in
      let d = demand3 x given code locs fields targets e in
      let s : length code ≡ L = sym (same-numbers h.answer).0 in
      let j : length fields ≡ J = sym (same-numbers h.answer).1 in
      let n : length locs ≡ slots_of x.filter.program + 1 = rw p.is-locs p.few in
      let same = d.landing.pairs in
      rw (
        h.code,
        h.locations,
        h.fields,
        h.targets,
        k,
        m,
        take-over code c₀ L s,
        take-over locs l₀ (slots_of x.filter.program + 1) n,
        take-over fields f₀ J j,
        take-over targets t₀ J (same.0 ∙ j),
        take-over (kind_table isa (page_for x)) k₀ J (same.1.0 ∙ j),
        take-over (maker_table (page_for x)) m₀ J (same.1.1 ∙ j),
      )
      d

safe-of : (x : Inputs) → Given x → (before after : Buffers) (r : Answer) → Translates x before after r → Names x before after
    → PageIsSafe x after r
safe-of x given before after r h n L J e = of-outcome x given before.kinds before.makers (translation_of x) refl (rw e at h) n.kinds n.makers

-- the code does what the slot says
agrees-of : (x : Inputs) → Given x → (before after : Buffers) (r : Answer) → Translates x before after r → PageAgrees x after r
agrees-of x given before after r h L J accepts std = by (translation_of x) refl (rw accepts at h)
  where
    n : ℕ
    n = slots_of x.filter.program + 1

    by : (o : Outcome) → translation_of x ≡ o
        → Translated o before.code after.code before.locations after.locations
        before.fields after.fields before.targets after.targets (Ok (record { length = L; jumps = J }))
        → Agrees x.filter.program (take L after.code) (take n after.locations)
    by (no q) e g = let a = g.answer in let z : ◌≡◌ {A = ℕ} 0 1 = cc in absurd (omega arith)
    by (yes code locs fields targets) e g =
        let p = parts x given code locs fields targets e in
        let s : length code ≡ L = sym (same-numbers g.answer).0 in
        let all : length locs ≡ n = rw p.is-locs p.few in
        rw (g.code, g.locations, take-over code before.code L s, take-over locs before.locations n all)
        (agrees x given code locs fields targets e std)

pub kept : (x : Inputs) → Given x → (before after : Buffers) (r : Answer) → Translates x before after r → Names x before after
    → Promise x before after r
kept x given before after r h n =
    record {
      refusal = refusal-of x before after r h n;
      bytes = h;
      names = n;
      safe = safe-of x given before after r h n;
      division = λ L J e us s b. division-raises x _ _ _ _ _ _ (safe-of x given before after r h n L J e) us s b;
      agrees = agrees-of x given before after r h;
    }

pub theorem : Theorem
theorem =
    record {
      kept = kept;
      answered = λ x given before.
          let o = translation_of x in
          let after : Buffers =
          record {
            code = over (code_in o) before.code;
            locations = over (locations_in o) before.locations;
            fields = over (fields_in o) before.fields;
            targets = over (targets_in o) before.targets;
            kinds = over (kinds_in x o) before.kinds;
            makers = over (makers_in x o) before.makers;
          } in
          let h : Translates x before after (answer_of o) =
          record { answer = refl; code = refl; locations = refl; fields = refl; targets = refl } in
          let n : Names x before after = record { kinds = refl; makers = refl } in
          (answer_of o, (after, kept x given before after (answer_of o) h n));
      only = λ x before after other r s p q.
          let one = one_answer p.bytes q.bytes in
          let k = p.names.kinds ∙ sym q.names.kinds in
          let m = p.names.makers ∙ sym q.names.makers in
          (one.0, same after other one.1 one.2 one.3 one.4 k m);
      modes = modes;
      compact = compact;
      paths = follows-all;
    }
