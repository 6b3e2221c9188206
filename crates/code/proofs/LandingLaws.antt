-- The laws of specs/Landing.antt, and that statement, proved of every page below 2 GiB whose targets are good.
use mathlib.Core.Path.{◌≡◌, refl, ap, sym, ◌∙◌}
use mathlib.Core.Logic.{◌≢◌}
use mathlib.Core.Bool.{Bool, true, false}
use mathlib.Core.List.{List, [], ◌∷◌, ◌++◌, append_assoc}
use Prim.Native.Nat.{ℕ, zero, suc, ◌+◌, ◌-◌, ◌%◌, ◌^◌, ◌<◌}
use native.Mathlib.Omega.{arith}
use native.Mathlib.Nat.{zero-add}
use lib.Dec.{T, leb, ltb, eqb, eqb→eq, leb→le}
use lib.ListN.{length, get_or, take, drop, length-append}
use lib.Seq.{drop-drop, drop_at, get_or_at}
use borrow.Author.Tests.{ltb-true, ltb-false}
use Rattle.base.specs.Pick.{pick}
use Rattle.base.specs.Bytes.{le32}
use Rattle.base.proofs.Tests.{T_true, true-T, or_elim, eqb-true, leb-true}
use Rattle.code.specs.Instr.{Instr, op, jump, call_reg, ret, Dest, near, to, Isa}
use Rattle.code.specs.Code.{field, target, place, targets_of, len, span, size, lower, lowered, bytes, code_of, fields_of}
use Rattle.code.specs.Page.{anchor, Code, Page, whole, good_target, locations, exit_of, loc_of, page_code, instructions, field_table, target_table}
use Rattle.code.specs.Jumps.{kind, kinds_of, kind_table, maker_table}
use Rattle.code.specs.Landing.{follow, Stands, Meant, slot, exit, first, Within, Lands, Jumps, listed, own, Landing}
use Rattle.code.proofs.Lawful.{Lawful}
use Rattle.code.proofs.CodeLaws.{len-map, size-append, fields-append, length_fields, lowered-append}
use Rattle.code.proofs.ReadsLaws.{drop_code}
use Rattle.code.proofs.PageLaws.{Goods, goods-at, Found, start, found, loc-most}
use Rattle.code.proofs.PageLaws as page
use Rattle.code.proofs.JumpsLaws.{length-kinds, Beside, beside-length, beside_at, makers-within}

-- A field holds its target's place minus the instruction's end, and so the processor follows it there.
abbrev pub measured : (end place : ℕ) → ℕ
measured e q = (q + 2 ^ 32 - e) % 2 ^ 32

pub follow-to : (e q : ℕ) → e < 2 ^ 31 → q < 2 ^ 31 → follow e (measured e q) ≡ q
unfolding follow
follow-to e q he hq = go (ltb (measured e q) (2 ^ 31)) refl
  where
    go : (b : Bool) → ltb (measured e q) (2 ^ 31) ≡ b → (e + pick b (measured e q) (measured e q + (2 ^ 64 - 2 ^ 32))) % 2 ^ 64 ≡ q
    go true z = omega (arith, ltb-true (measured e q) (2 ^ 31) z)
    go false z = omega (arith, ltb-false (measured e q) (2 ^ 31) z)

pub follow-near : (e k : ℕ) → e + k < 2 ^ 31 → follow e k ≡ e + k
unfolding follow
follow-near e k h = rw (leb-true (suc k) (2 ^ 31) (omega arith)) (omega arith)

pub never : {A : Type 0} → true ≡ false → A
never p = let z : ◌≡◌ {A = ℕ} 0 1 = cc in absurd (omega arith)

module _ {P J : Type 0} (m : Isa P J) where
  -- Lowering.
  pub lowered-span : (loc : ℕ → ℕ) (p : ℕ) (a : Code P J) → span (len m {D = ℕ}) (lowered m loc p a) ≡ size m a
  lowered-span loc p [] = refl
  lowered-span loc p (i ∷ a) = rw (len-map m (field loc (p + len m i)) i, lowered-span loc (p + len m i) a)

  pub stands-lower : (loc : ℕ → ℕ) (is pre : Code P J) (i : Instr P J Dest) (post : Code P J) (p : ℕ) → is ≡ pre ++ i ∷ post → size m pre ≡ p
      → Stands m (lowered m loc 0 is) p (lower m loc p i)
  stands-lower loc is pre i post p e z =
      record {
        before = lowered m loc 0 pre;
        behind = lowered m loc (p + len m i) post;
        split = ap (lowered m loc 0) e ∙ lowered-append m loc 0 pre (i ∷ post) ∙ rw (zero-add (size m pre), z);
        place = lowered-span loc 0 pre ∙ z;
      }

  -- The k-th entry of the jump tables is a jump of the list.
  pub record Entry (p : ℕ) (is : Code P J) (k : ℕ) : Type 0 where
    pub pre : Code P J
    pub kind : J
    pub aim : ℕ
    pub post : Code P J
    pub split : is ≡ pre ++ jump kind (to aim) ∷ post
    pub ends : get_or (fields_of m p is) k 0 + 4 ≡ p + size m pre + len m {D = Dest} (jump kind (to aim))
    pub aims : get_or (targets_of is) k 0 ≡ aim
    pub named : get_or (kinds_of m is) k 0 ≡ m.kind kind

  entry-on : (p : ℕ) (i : Instr P J Dest) (is : Code P J) (k n : ℕ)
      → get_or (place (p + len m i) i ++ fields_of m (p + len m i) is) n 0 ≡ get_or (fields_of m (p + len m i) is) k 0
      → get_or (target i ++ targets_of is) n 0 ≡ get_or (targets_of is) k 0 → get_or (kind m i ++ kinds_of m is) n 0 ≡ get_or (kinds_of m is) k 0
      → Entry (p + len m i) is k → Entry p (i ∷ is) n
  entry-on p i is k n e t s v =
      record {
        pre = i ∷ v.pre;
        kind = v.kind;
        aim = v.aim;
        post = v.post;
        split = ap (λ (l : Code P J). i ∷ l) v.split;
        ends = rw e (v.ends ∙ omega arith);
        aims = t ∙ v.aims;
        named = s ∙ v.named;
      }

  pub entry_at : (p : ℕ) (is : Code P J) (k : ℕ) → k < length (fields_of m p is) → Entry p is k
  entry_at p [] k h = absurd (omega (arith, h))
  entry_at p (op q ∷ is) k h = entry-on p (op q) is k k refl refl refl (entry_at (p + len m {D = Dest} (op q)) is k h)
  entry_at p (jump j (near x) ∷ is) k h = entry-on p (jump j (near x)) is k k refl refl refl (entry_at (p + len m {D = Dest} (jump j (near x))) is k h)
  entry_at p (jump j (to t) ∷ is) zero h = record { pre = []; kind = j; aim = t; post = is; split = refl; ends = omega arith; aims = refl; named = refl }
  entry_at p (jump j (to t) ∷ is) (suc k) h =
      entry-on p (jump j (to t)) is k (suc k) refl refl refl (entry_at (p + len m {D = Dest} (jump j (to t))) is k (omega (arith, h)))
  entry_at p (call_reg r ∷ is) k h = entry-on p (call_reg r) is k k refl refl refl (entry_at (p + len m {D = Dest} (call_reg r)) is k h)
  entry_at p (ret ∷ is) k h = entry-on p ret is k k refl refl refl (entry_at (p + len m {D = Dest} ret) is k h)

  -- and each listed jump has an entry
  pub entry_of : (p : ℕ) (pre : Code P J) (j : J) (t : ℕ) (post : Code P J) → let is = pre ++ jump j (to t) ∷ post in
      (length (fields_of m p pre) < length (fields_of m p is))
      × (get_or (fields_of m p is) (length (fields_of m p pre)) 0 + 4 ≡ p + size m pre + len m {D = Dest} (jump j (to t)))
  entry_of p pre j t post =
      let e = fields-append m p pre (jump j (to t) ∷ post) in
      let q = p + size m pre in
      let n : length (fields_of m p (pre ++ jump j (to t) ∷ post)) ≡ length (fields_of m p pre) + suc _ = ap length e ∙ length-append (fields_of m p pre) _ in
      (omega (arith, n), rw (e, get_or_at (fields_of m p pre) (q + len m {D = Dest} (jump j (to t)) - 4) _ 0 (length (fields_of m p pre)) refl) (omega arith))

  -- A jump among the instructions with their fields is a jump of the definition, and so are those behind it.
  pub record Raised (loc : ℕ → ℕ) (p : ℕ) (is : Code P J) (j : J) (v q : ℕ) (behind : List (Instr P J ℕ)) : Type 0 where
    pub pre : Code P J
    pub dest : Dest
    pub post : Code P J
    pub split : is ≡ pre ++ jump j dest ∷ post
    pub far : size m pre ≡ q
    pub value : v ≡ field loc (p + q + len m {D = Dest} (jump j dest)) dest
    pub others : behind ≡ lowered m loc (p + q + len m {D = Dest} (jump j dest)) post

  raised-here : (loc : ℕ → ℕ) (p : ℕ) (i : Instr P J Dest) (is : Code P J) (j : J) (v : ℕ) (behind : List (Instr P J ℕ))
      → lower m loc p i ≡ jump j v → lowered m loc (p + len m i) is ≡ behind → Raised loc p (i ∷ is) j v 0 behind
  raised-here loc p (op q) is j v behind e r = let z : ◌≡◌ {A = ℕ} 0 1 = cc in absurd (omega arith)
  raised-here loc p (jump k d) is j v behind e r =
      let w : k ≡ j = cc in
      let x : field loc (p + len m {D = Dest} (jump k d)) d ≡ v = cc in
      let n : p + 0 + len m {D = Dest} (jump j d) ≡ p + len m {D = Dest} (jump k d) = rw w (omega arith) in
      record { pre = []; dest = d; post = is; split = rw w; far = refl; value = sym x ∙ rw n; others = sym r ∙ rw n }
  raised-here loc p (call_reg q) is j v behind e r = let z : ◌≡◌ {A = ℕ} 0 1 = cc in absurd (omega arith)
  raised-here loc p ret is j v behind e r = let z : ◌≡◌ {A = ℕ} 0 1 = cc in absurd (omega arith)

  raised-later : (loc : ℕ → ℕ) (p : ℕ) (i : Instr P J Dest) (is : Code P J) (j : J) (v : ℕ) (behind : List (Instr P J ℕ)) (n q : ℕ)
      → n ≡ len m i → Raised loc (p + len m i) is j v q behind → Raised loc p (i ∷ is) j v (n + q) behind
  raised-later loc p i is j v behind n q l r =
      let z : p + (n + q) + len m {D = Dest} (jump j r.dest) ≡ p + len m i + q + len m {D = Dest} (jump j r.dest) = rw l (omega arith) in
      record {
        pre = i ∷ r.pre;
        dest = r.dest;
        post = r.post;
        split = ap (λ (l : Code P J). i ∷ l) r.split;
        far = rw (r.far, l);
        value = r.value ∙ rw z;
        others = r.others ∙ rw z;
      }

  pub raise : (loc : ℕ → ℕ) (p : ℕ) (is : Code P J) (before : List (Instr P J ℕ)) (j : J) (v : ℕ) (behind : List (Instr P J ℕ))
      → lowered m loc p is ≡ before ++ jump j v ∷ behind → Raised loc p is j v (span (len m {D = ℕ}) before) behind
  raise loc p [] [] j v behind e = let z : ◌≡◌ {A = ℕ} 0 1 = cc in absurd (omega arith)
  raise loc p [] (b ∷ before) j v behind e = let z : ◌≡◌ {A = ℕ} 0 1 = cc in absurd (omega arith)
  raise loc p (i ∷ is) [] j v behind e =
      let h : lower m loc p i ≡ jump j v = cc in
      let r : lowered m loc (p + len m i) is ≡ behind = cc in
      raised-here loc p i is j v behind h r
  raise loc p (i ∷ is) (b ∷ before) j v behind e =
      let h : lower m loc p i ≡ b = cc in
      let t : lowered m loc (p + len m i) is ≡ before ++ jump j v ∷ behind = cc in
      let n : len m b ≡ len m i = ap (λ (x : Instr P J ℕ). len m x) (sym h) ∙ len-map m (field loc (p + len m i)) i in
      raised-later loc p i is j v behind (len m b) (span (len m {D = ℕ}) before) n (raise loc (p + len m i) is before j v behind t)

module _ {P J : Type 0} {m : Isa P J} (lawful : Lawful m) where
  -- The word of a jump.
  pub word_bytes : (loc : ℕ → ℕ) (is pre : Code P J) (j : J) (d : Dest) (post : Code P J) (f : ℕ) → is ≡ pre ++ jump j d ∷ post
      → f + 4 ≡ size m pre + len m {D = Dest} (jump j d)
      → take 4 (drop f (code_of m loc is)) ≡ le32 (m.word j (field loc (f + 4) d))
  word_bytes loc is pre j d post f e z =
      let v = m.word j (field loc (size m pre + len m {D = Dest} (jump j d)) d) in
      let more = bytes m (lowered m loc (size m pre + len m {D = Dest} (jump j d)) post) in
      let f0 : f ≡ size m pre + length (m.head j) = omega (arith, z) in
      let c : drop (size m pre) (code_of m loc is) ≡ m.head j ++ (le32 v ++ more) =
      ap (λ (l : Code P J). drop (size m pre) (code_of m loc l)) e ∙ drop_code lawful loc 0 pre (jump j d ∷ post)
      ∙ rw (zero-add (size m pre)) (append_assoc (m.head j) (le32 v) more) in
      rw (z, f0, ← drop-drop (length (m.head j)) (size m pre) (code_of m loc is), c, drop_at (m.head j) (le32 v ++ more) (length (m.head j)) refl) refl

  -- All of it, for a page below 2 GiB whose targets are good, and whose exit is where its epilogue begins, which lists no jump.
  module _ (g : Page P J) (n : ℕ) (short : size m (whole g) < 2 ^ 31) (few : length (locations m g) ≡ n + 1)
      (good : Goods n (target_table m g)) (unlisted : targets_of g.epilogue ≡ []) (Exit : ℕ → Type 0) (leaves : Exit (exit_of m g)) where
    abbrev loc : ℕ → ℕ
    loc = loc_of m g

    abbrev locs : List ℕ
    locs = locations m g

    meant : (t : ℕ) → T (good_target n t) → Meant m g Exit locs t (loc t)
    unfolding good_target
    meant t h = by (eqb t anchor) refl
      where
        within : eqb t anchor ≡ false → t < length locs
        within e = or_elim (leb t n) (eqb t anchor) h (λ h. omega (arith, few, leb→le t n h)) (λ h. never (sym (T_true _ h) ∙ e))

        located : t < length locs → t ≢ anchor → Found m g.blocks t (size m g.prologue) (get_or locs t 0)
            → Meant m g Exit locs t (get_or locs t 0)
        located l a (page.first n e) = first l a (λ q b s. n s.ahead b s.behind s.split s.number) e e
        located l a (start q e s) =
            slot s.block l a (record { ahead = s.ahead; behind = s.behind; split = s.split; number = s.number; place = rw s.place (sym e) }) refl

        other : eqb t anchor ≡ false → t ≢ anchor
        other e q = never (sym (eqb-true t anchor q) ∙ e)

        by : (b : Bool) → eqb t anchor ≡ b → Meant m g Exit locs t (pick b (exit_of m g) (get_or locs t 0))
        by true e = exit (eqb→eq t anchor (true-T _ e)) leaves
        by false e = located (within e) (other e) (found m (size m g.prologue) g.blocks t)

    end_lt : (pre : Code P J) (i : Instr P J Dest) (post : Code P J) → whole g ≡ pre ++ i ∷ post → size m pre + len m i < 2 ^ 31
    end_lt pre i post e = omega (arith, ap (size m) e ∙ size-append m pre (i ∷ post))

    made : Beside (Within m g) (maker_table g) (field_table m g)
    made = makers-within m g unlisted

    pub lands-at : (k : ℕ) → k < length (field_table m g)
        → Lands m g Exit (page_code m g) (instructions m g) locs
        (get_or (field_table m g) k 0) (get_or (target_table m g) k 0) (get_or (kind_table m g) k 0) (get_or (maker_table g) k 0)
    lands-at k h =
        let v = entry_at m 0 (whole g) k h in
        let i : Instr P J Dest = jump v.kind (to v.aim) in
        let e = get_or (field_table m g) k 0 + 4 in
        let z : e ≡ size m v.pre + len m i = v.ends ∙ omega arith in
        let y : size m v.pre + len m i < 2 ^ 31 = end_lt v.pre i v.post v.split in
        record {
          kind = v.kind;
          field = field loc (size m v.pre + len m i) (to v.aim);
          begins = size m v.pre;
          stands = stands-lower m loc (whole g) v.pre i v.post (size m v.pre) v.split refl;
          ends = sym z;
          short = omega arith;
          bytes = rw z at (word_bytes loc (whole g) v.pre v.kind (to v.aim) v.post _ v.split z);
          meant = rw (z, follow-to (size m v.pre + len m i) (loc v.aim) y (omega (arith, loc-most m g v.aim)), v.aims)
              (meant v.aim (rw v.aims at (goods-at n (target_table m g) k good (rw (← length_fields m 0 (whole g)) h))));
          named = sym v.named;
          maker = beside_at (Within m g) (maker_table g) (field_table m g) k made h;
        }

    jumps_at : (p v : ℕ) (j : J) → Stands m (instructions m g) p (jump j v) → Jumps m g (field_table m g) j v p
    jumps_at p v j s = go (raise m loc 0 (whole g) s.before j v s.behind s.split)
      where
        go : Raised m loc 0 (whole g) j v (span (len m {D = ℕ}) s.before) s.behind → Jumps m g (field_table m g) j v p
        go r = by r.dest refl
          where
            by : (d : Dest) → r.dest ≡ d → Jumps m g (field_table m g) j v p
            by (near k) e =
                let q : v ≡ k = r.value ∙ rw e in
                own r.pre r.post (r.split ∙ rw (e, q)) (r.far ∙ s.place)
            by (to t) e =
                let w : whole g ≡ r.pre ++ jump j (to t) ∷ r.post = r.split ∙ rw e in
                let n = entry_of m 0 r.pre j t r.post in
                listed (length (fields_of m 0 r.pre)) (rw w n.0) (rw w (n.1 ∙ omega (arith, r.far, s.place)))

    pub pairs : (length (target_table m g) ≡ length (field_table m g))
        × ((length (kind_table m g) ≡ length (field_table m g)) × (length (maker_table g) ≡ length (field_table m g)))
    pairs =
        let fields = sym (length_fields m 0 (whole g)) in
        (fields, (length-kinds m (whole g) ∙ fields, beside-length (Within m g) (maker_table g) (field_table m g) made))

    pub landing : Landing m g Exit (page_code m g) (instructions m g) locs (field_table m g) (target_table m g) (kind_table m g) (maker_table g)
    landing = record { pairs = pairs; listed = lands-at; others = jumps_at }
