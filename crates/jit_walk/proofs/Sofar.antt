-- What holds at the head of both passes' loops: the blocks of a part are done, and what is left of the walk, joined to them, is the whole.
use Rattle.std.proofs.Common.{Option, Some, None}
use Rattle.base.specs.declared.Slot.{Slot}
use mathlib.Core.Path.{◌≡◌, ◌∙◌, refl, sym}
use mathlib.Core.List.{List, [], ◌∷◌, ◌++◌, append-nil, append_assoc}
use Prim.Native.Nat.{ℕ, zero, suc, ◌+◌, ◌*◌, ◌/◌, ◌<◌, ◌≤◌}
use native.Mathlib.Omega.{arith}
use native.Mathlib.Nat.{add-zero, zero-add, add_assoc}
use lib.Dec.{leb}
use lib.ListN.{length, length-append}
use borrow.Author.Tests.{lt-ltb, le-ltb, le-leb, lt-leb}
use Rattle.jit.specs.declared.Refusal.{Refusal}
use Rattle.x86.specs.Code.{size, targets_of}
use Rattle.x86.proofs.CodeLaws.{size-append, targets-append}
use Rattle.jit.specs.Translation.{Filter, at, Block, stop, go, step_at, Walk, refused, done, joined, slots_wide, slots_in, within, after, rest}
use Rattle.jit.specs.Translation.{flat, entries, or_else, bad_in, first_bad}
use Rattle.jit.specs.Passes.{walk_from, starts}
use Rattle.jit.proofs.Bounds.{Sound, step-fine, wide-some}

-- one block behind others
pub flat-snoc : (bs : List Block) (b : Block) → flat (bs ++ (b ∷ [])) ≡ flat bs ++ b.code
flat-snoc [] b = append-nil b.code
flat-snoc (a ∷ bs) b = rw (flat-snoc bs b) (sym (append_assoc a.code (flat bs) b.code))

slots-snoc : (bs : List Block) (b : Block) → slots_in (bs ++ (b ∷ [])) ≡ slots_in bs + slots_wide b.wide
slots-snoc [] b = omega arith
slots-snoc (a ∷ bs) b = rw (slots-snoc bs b) (omega arith)

pub starts-snoc : (p : ℕ) (bs : List Block) (b : Block) → starts p (bs ++ (b ∷ [])) ≡ starts p bs ++ entries (p + size (flat bs)) b.wide
starts-snoc p [] b = rw (add-zero p) (append-nil (entries p b.wide))
starts-snoc p (a ∷ bs) b =
    rw (starts-snoc (p + size a.code) bs b, size-append a.code (flat bs), add_assoc p (size a.code) (size (flat bs)))
    (sym (append_assoc (entries p a.wide) (starts (p + size a.code) bs) (entries (p + (size a.code + size (flat bs))) b.wide)))

or_else-assoc : (a b c : Option Slot) → or_else a (or_else b c) ≡ or_else (or_else a b) c
or_else-assoc None b c = refl
or_else-assoc (Some s) b c = refl

or_else-none : (a : Option Slot) → or_else a None ≡ a
or_else-none None = refl
or_else-none (Some s) = refl

bad-snoc : (n slot : ℕ) (bs : List Block) (b : Block)
    → first_bad n slot (bs ++ (b ∷ [])) ≡ or_else (first_bad n slot bs) (bad_in n (slot + slots_in bs) (targets_of b.code))
bad-snoc n slot [] b = rw (add-zero slot) (or_else-none (bad_in n slot (targets_of b.code)))
bad-snoc n slot (a ∷ bs) b =
    rw (bad-snoc n (slot + slots_wide a.wide) bs b, add_assoc slot (slots_wide a.wide) (slots_in bs))
    (or_else-assoc (bad_in n slot (targets_of a.code)) (first_bad n (slot + slots_wide a.wide) bs)
    (bad_in n (slot + (slots_wide a.wide + slots_in bs)) (targets_of b.code)))

joined-joined : (rs bs : List Block) (w : Walk) → joined rs (joined bs w) ≡ joined (rs ++ bs) w
joined-joined rs bs (refused r) = refl
joined-joined rs bs (done cs) = simp append_assoc

joined-none : (w : Walk) → w ≡ joined [] w
joined-none (refused r) = refl
joined-none (done bs) = refl

pub record Sofar (filter : Filter) (page start : ℕ) (w : Walk) (bs : List Block) (slot place : ℕ) : Type 0 where
  pub fuel : ℕ
  pub enough : length filter.program ≤ 8 * slot + 8 * fuel
  pub inside : 8 * slot ≤ length filter.program
  pub whole : w ≡ joined bs (rest fuel filter page slot place)
  pub place_is : place ≡ start + size (flat bs)
  pub slots-are : slot ≡ slots_in bs
  pub room : place ≤ page

module _ (filter : Filter) (page : ℕ) where
  rest-go : (fuel slot place : ℕ) → 8 * slot < length filter.program
      → rest (suc fuel) filter page slot place ≡ after page slot place (step_at filter slot) (λ s p. rest fuel filter page s p)
  unfolding rest
  rest-go fuel slot place h = rw (lt-ltb _ _ h)

  rest_end : (fuel slot place : ℕ) → length filter.program ≤ 8 * slot → rest fuel filter page slot place ≡ done []
  unfolding rest
  rest_end zero slot place h = refl
  rest_end (suc fuel) slot place h = rw (le-ltb _ _ h)

  -- where both loops begin
  pub begins : (start : ℕ) → start ≤ page
      → Sofar filter page start (walk_from filter page start) [] 0 start
  begins start h =
      record {
        fuel = suc (length filter.program / 8);
        enough = omega arith;
        inside = omega arith;
        whole = joined-none (walk_from filter page start);
        place_is = omega arith;
        slots-are = refl;
        room = h;
      }

module _ {filter : Filter} {page start : ℕ} {w : Walk} {bs : List Block} {slot place : ℕ} (s : Sofar filter page start w bs slot place) where
  -- one slot more to go: what is left is its step and then the rest
  turn : 8 * slot < length filter.program
      → (n : ℕ) × ((s.fuel ≡ suc n) × (w ≡ joined bs (after page slot place (step_at filter slot) (λ s p. rest n filter page s p))))
  turn h = by s.fuel refl
    where
      by : (n : ℕ) → s.fuel ≡ n
          → (n : ℕ) × ((s.fuel ≡ suc n) × (w ≡ joined bs (after page slot place (step_at filter slot) (λ s p. rest n filter page s p))))
      by zero e = absurd (omega (arith, s.enough, e))
      by (suc n) e = (n, (e, s.whole ∙ rw (e, rest-go filter page n slot place h)))

  -- its step is refused
  pub stops : (r : Refusal) → 8 * slot < length filter.program → stop r ≡ step_at filter slot → w ≡ refused r
  stops r h e = (turn h).1.1 ∙ rw (← e)

  -- its code has no room
  pub too_long : (b : Block) → 8 * slot < length filter.program → go b ≡ step_at filter slot → page < place + size b.code
      → w ≡ refused (Refusal.NoRoom (at slot))
  too_long b h e g = (turn h).1.1 ∙ rw (← e, lt-leb _ _ g)

  -- what is known of a block
  pub sound : (b : Block) → go b ≡ step_at filter slot → Sound filter.program slot b
  sound b e = rw (← e) at (step-fine filter slot)

  -- it goes on behind the block
  pub goes_on : (b : Block) → 8 * slot < length filter.program → go b ≡ step_at filter slot → place + size b.code ≤ page
      → Sofar filter page start w (bs ++ (b ∷ [])) (slot + slots_wide b.wide) (place + size b.code)
  goes_on b h e g =
      let some : (1 ≤ slots_wide b.wide) × (slots_wide b.wide ≤ 2) = wide-some b.wide in
      record {
        fuel = (turn h).0;
        enough = omega (arith, s.enough, (turn h).1.0, some);
        inside = omega (arith, (sound b e).inside);
        whole =
            (turn h).1.1
            ∙ rw (← e, le-leb _ _ g) (joined-joined bs (b ∷ []) (rest (turn h).0 filter page (slot + slots_wide b.wide) (place + size b.code)));
        place_is = rw (flat-snoc bs b, size-append (flat bs) b.code) (omega (arith, s.place_is));
        slots-are = rw (slots-snoc bs b) (omega (arith, s.slots-are));
        room = g;
      }

  -- all slots are passed
  pub ends : length filter.program ≤ 8 * slot → w ≡ done bs
  ends h = s.whole ∙ rw (rest_end filter page s.fuel slot place h) (simp append-nil)

  -- what is counted besides: the listed jumps, the prologue's first, and the first bad one
  pub jumps-on : (b : Block) {j : ℕ} → j ≡ 1 + length (targets_of (flat bs))
      → j + length (targets_of b.code) ≡ 1 + length (targets_of (flat (bs ++ (b ∷ []))))
  jumps-on b e =
      rw (flat-snoc bs b, targets-append (flat bs) b.code, length-append (targets_of (flat bs)) (targets_of b.code)) (omega (arith, e))

  pub bad-on : (b : Block) (n : ℕ) {x : Option Slot} → x ≡ first_bad n 0 bs
      → or_else x (bad_in n slot (targets_of b.code)) ≡ first_bad n 0 (bs ++ (b ∷ []))
  bad-on b n e = rw (e, s.slots-are, bad-snoc n 0 bs b, zero-add (slots_in bs)) refl

  -- what the walk is, with the block's room still to be tested
  pub next-is : (b : Block) → 8 * slot < length filter.program → go b ≡ step_at filter slot
      → (v : Walk) × (w ≡ joined bs (within (leb (place + size b.code) page) slot b v))
  next-is b h e = (rest (turn h).0 filter page (slot + slots_wide b.wide) (place + size b.code), (turn h).1.1 ∙ rw (← e))
