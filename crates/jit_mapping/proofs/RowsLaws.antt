-- The loop over the table of locations: what holds at its head, and that the lines which it says are the page's.
use mathlib.Core.Path.{◌≡◌, ◌∙◌, refl, ap, sym}
use mathlib.Core.Bool.{Bool, true, false}
use mathlib.Core.List.{List, [], ◌∷◌, ◌++◌, append_assoc}
use Prim.Native.Nat.{ℕ, suc, ◌+◌, ◌-◌, ◌≤◌, ◌<◌, ◌^◌}
use native.Mathlib.Omega.{arith}
use native.Mathlib.Nat.{add-zero, zero-add}
use lib.Dec.{ltb}
use lib.ListN.{length, length-append, get_or, take, drop, get_or-append}
use lib.Seq.{drop-cons, get_or-take, get_or_at, get_or-append-add, length-take-le}
use borrow.Author.Tests.{lt-ltb, le-ltb, ltb-true, ltb-false}
use Rattle.base.specs.Pick.{pick}
use Rattle.code.specs.declared.Piece.{Piece}
use Rattle.code.specs.declared.Piece.TheVariants.{Prologue}
use Rattle.code.specs.Lines.{Line, line, slot, slot_lines}
use Rattle.text.specs.Text.{Says}
use Rattle.text.specs.Numerals.{hex}
use Rattle.text.proofs.NumeralLaws.{hex-some, hex-no-fewer}
use Rattle.text.proofs.SaysLaws.{nothing, Leads, turn, drop_past, kept}
use Rattle.map.specs.MapText.{line_text, text_of}
use Rattle.map.proofs.LineLaws.{after}
use Rattle.x86.specs.Encode.{isa}
use Rattle.x86.specs.Code.{size}
use Rattle.x86.proofs.CodeLaws.{size-append}
use Rattle.jit.specs.Room.{epilogue_size}
use Rattle.jit.specs.Passes.{starts}
use Rattle.jit.specs.Translation.{Block, flat, entries, slots_wide, slots_in}
use Rattle.jit_mapping.specs.Walked.{walk_lines}
use Rattle.jit_mapping.specs.Rows.{piece_at, rows, closed_table, Rising, Closing, Closed}

pub text-append : (ks ls : List Line) → text_of (ks ++ ls) ≡ text_of ks ++ text_of ls
text-append [] ls = refl
text-append (k ∷ ks) ls = rw (text-append ks ls) (sym (append_assoc (line_text k) (text_of ks) (text_of ls)))

-- one entry
row : (n base : ℕ) (piece : Piece) (from k p : ℕ) (ps : List ℕ)
    → rows n base piece from k (p ∷ ps)
    ≡ pick (ltb 0 p) (line (base + from) (p - from) piece) [] ++ rows n base (pick (ltb 0 p) (piece_at n k) piece) (pick (ltb 0 p) p from) (k + 1) ps
row n base piece from k p ps = by (ltb 0 p)
  where
    by : (t : Bool) → pick t (line (base + from) (p - from) piece ++ rows n base (piece_at n k) p (k + 1) ps) (rows n base piece from (k + 1) ps)
        ≡ pick t (line (base + from) (p - from) piece) [] ++ rows n base (pick t (piece_at n k) piece) (pick t p from) (k + 1) ps
    by true = refl
    by false = refl

rising-on : (end from p : ℕ) (ps : List ℕ) → Rising end from (p ∷ ps) → Rising end (pick (ltb 0 p) p from) ps
rising-on end from p ps r = by (ltb 0 p) refl
  where
    by : (t : Bool) → ltb 0 p ≡ t → Rising end (pick t p from) ps
    by true e = (r.1 (ltb-true 0 p e)).1
    by false e = r.0 (omega (arith, ltb-false 0 p e))

-- no piece begins behind the end
below_end : (end from : ℕ) (ps : List ℕ) → Rising end from ps → from ≤ end
below_end end from [] r = r
below_end end from (p ∷ ps) r = by (ltb 0 p) refl (λ h. below_end end p ps (r.1 h).1) (λ h. below_end end from ps (r.0 h))
  where
    by : (t : Bool) → ltb 0 p ≡ t → (0 < p → p ≤ end) → (p ≡ 0 → from ≤ end) → from ≤ end
    by true e f g = let h = ltb-true 0 p e in omega (arith, (r.1 h).0, f h)
    by false e f g = g (omega (arith, ltb-false 0 p e))

-- closing a piece: an entry of 0 leaves it open, any other ends it
pub left_open : (l : List ℕ) (base : ℕ) (piece opened : Piece) (from next place : ℕ) → place ≡ 0
    → Closed l l base piece from next place opened piece from next
left_open l base piece opened from next place e = rw e (record { says = nothing; piece_is = refl; from_is = refl })

pub ended : {l l' : List ℕ} {base : ℕ} {piece : Piece} (opened : Piece) {from next place next' : ℕ} → ¬ (place ≡ 0)
    → Says l l' next next' (text_of (line (base + from) (place - from) piece)) → Closed l l' base piece from next place opened opened place next'
ended opened {place = place} f p =
    let t = lt-ltb 0 place (omega arith) in
    record { says = rw t p; piece_is = rw t; from_is = rw t }

-- every address has a digit, and one further on has no fewer
pub counted-first : (address : ℕ) {digits : ℕ} → digits ≡ 1 → digits ≤ length (hex address)
counted-first address e = omega (arith, e, hex-some address)

pub counted : (base : ℕ) {digits from place : ℕ} → from ≤ place → digits ≡ length (hex (base + from)) → digits ≤ length (hex (base + place))
counted base {from = from} {place = place} h e = omega (arith, e, hex-no-fewer (base + from) (base + place) (omega (arith, h)))

-- what holds at the head of the loop
pub record Rowing (n base end : ℕ) (table l₀ l : List ℕ) (piece : Piece) (from next k : ℕ) : Type 0 where
  pub same : length l ≡ length l₀
  pub rising : Rising end from (drop k table)
  pub room : next + length (text_of (rows n base piece from k (drop k table))) ≤ length l
  pub leads : Leads l₀ 0 (text_of (rows n base Prologue 0 0 table)) l next (text_of (rows n base piece from k (drop k table)))

pub rowing-begins : (n base end : ℕ) (table l : List ℕ) → Rising end 0 table → length (text_of (rows n base Prologue 0 0 table)) ≤ length l
    → Rowing n base end table l l Prologue 0 0 0
rowing-begins n base end table l r h = record { same = refl; rising = r; room = omega arith; leads = λ l' r q. q }

module _ {n base end : ℕ} {table l₀ l : List ℕ} {piece : Piece} {from next k : ℕ} (w : Rowing n base end table l₀ l piece from next k) where
  module _ (h : k < length table) where
    abbrev p : ℕ
    p = get_or table k 0

    cut : drop k table ≡ p ∷ drop (k + 1) table
    cut = let e : k + 1 ≡ suc k = omega arith in rw e (drop-cons table k 0 h)

    abbrev closed : List Line
    closed = pick (ltb 0 p) (line (base + from) (p - from) piece) []

    abbrev behind : List Line
    behind = rows n base (pick (ltb 0 p) (piece_at n k) piece) (pick (ltb 0 p) p from) (k + 1) (drop (k + 1) table)

    left : text_of (rows n base piece from k (drop k table)) ≡ text_of closed ++ text_of behind
    left = rw (cut, row n base piece from k p (drop (k + 1) table)) (text-append closed behind)

    rises : Rising end from (p ∷ drop (k + 1) table)
    rises = rw cut at w.rising

    -- what closing a piece asks
    pub closing : base + end < 2 ^ 64 → Closing l base piece from next p
    closing small =
        record {
          below = λ g. (rises.1 g).0;
          address = λ g. omega (arith, small, below_end end from (drop k table) w.rising);
          room = λ g. omega (arith, w.room, ap length left, length-append (text_of closed) (text_of behind), ap length (shut g));
        }
      where
        shut : 0 < p → text_of closed ≡ text_of (line (base + from) (p - from) piece)
        shut g = rw (lt-ltb 0 p g)

    -- a turn
    pub rowing : {l₁ : List ℕ} {piece₁ : Piece} {from₁ next₁ : ℕ} → Closed l l₁ base piece from next p (piece_at n k) piece₁ from₁ next₁
        → Rowing n base end table l₀ l₁ piece₁ from₁ next₁ (k + 1)
    rowing {l₁} {piece₁} {from₁} {next₁} c =
        rw (c.piece_is, c.from_is)
        (record {
          same = kept c.says ∙ w.same;
          rising = rising-on end from p (drop (k + 1) table) rises;
          room =
              after (length (text_of behind)) c.says
              (omega (arith, w.room, ap length left, length-append (text_of closed) (text_of behind)));
          leads = turn w.leads c.says left;
        })

  -- behind the last entry
  pub rowed : length table ≤ k → Says l₀ l 0 next (text_of (rows n base Prologue 0 0 table))
  rowed h = w.leads l next (rw (drop_past table k h) nothing)

-- the table of n slots has two entries more
closed-length : (n exit : ℕ) (locations : List ℕ) → n ≤ length locations → length (closed_table n exit locations) ≡ n + 2
closed-length n exit locations h =
    length-append (take n locations) (exit ∷ (exit + epilogue_size) ∷ []) ∙ rw (length-take-le n locations h) refl

pub closed-inside : (n exit : ℕ) (locations : List ℕ) {k : ℕ} → n ≤ length locations → k < n + 2 → k < length (closed_table n exit locations)
closed-inside n exit locations h g = rw (closed-length n exit locations h) g

pub closed-past : (n exit : ℕ) (locations : List ℕ) {k : ℕ} → n ≤ length locations → n + 2 ≤ k → length (closed_table n exit locations) ≤ k
closed-past n exit locations h g = rw (closed-length n exit locations h) g

-- its entries
module _ (n exit : ℕ) (locations : List ℕ) (long : n ≤ length locations) where
  size-of : length (take n locations) ≡ n
  size-of = length-take-le n locations long

  pub slot-entry : (k : ℕ) → k < n → get_or locations k 0 ≡ get_or (closed_table n exit locations) k 0
  slot-entry k h =
      sym (get_or-take n locations k 0 h) ∙ sym (get_or-append (take n locations) (exit ∷ (exit + epilogue_size) ∷ []) 0 k (rw size-of h))

  pub exit-entry : exit ≡ get_or (closed_table n exit locations) n 0
  exit-entry = sym (get_or_at (take n locations) exit ((exit + epilogue_size) ∷ []) 0 n size-of)

  pub end-entry : exit + epilogue_size ≡ get_or (closed_table n exit locations) (n + 1) 0
  end-entry =
      let e = get_or-append-add (take n locations) (exit ∷ (exit + epilogue_size) ∷ []) 1 0 in
      sym (rw size-of at e)

-- The table of a page: its rows are its lines, and they rise.
abbrev remaining : (place : ℕ) → List Block → List ℕ → List ℕ
remaining place bs ps = starts place bs ++ ((place + size (flat bs)) ∷ ps)

abbrev following : (n base place k : ℕ) → List Block → List ℕ → List Line
following n base place k bs ps =
    slot_lines isa (base + place) k bs ++ rows n base (piece_at n (k + slots_in bs)) (place + size (flat bs)) (k + slots_in bs + 1) ps

rows-starts : (n base : ℕ) (piece : Piece) (from k place : ℕ) (bs : List Block) (ps : List ℕ) → 0 < place → k + slots_in bs ≤ n
    → rows n base piece from k (remaining place bs ps) ≡ line (base + from) (place - from) piece ++ following n base place k bs ps
rows-starts n base piece from k place [] ps h g = rw (add-zero place, add-zero k, lt-ltb 0 place h)
rows-starts n base piece from k place (b ∷ bs) ps h g =
    let m = size b.code in
    let e : place + size (b.code ++ flat bs) ≡ place + m + size (flat bs) = rw (size-append b.code (flat bs)) (omega arith) in
    let here : place + m - place ≡ m = omega arith in
    let next : base + (place + m) ≡ base + place + m = omega arith in
    rw e
    (by b.wide g (λ j f. rw here at (rows-starts n base (slot k) place j (place + m) bs ps (omega arith) f)) next)
  where
    by : (wide : Bool) → k + (slots_wide wide + slots_in bs) ≤ n
        → ((j : ℕ) → j + slots_in bs ≤ n
        → rows n base (slot k) place j (remaining (place + size b.code) bs ps)
        ≡ line (base + place) (size b.code) (slot k) ++ following n base (place + size b.code) j bs ps)
        → base + (place + size b.code) ≡ base + place + size b.code
        → rows n base piece from k ((entries place wide ++ starts (place + size b.code) bs) ++ ((place + size b.code + size (flat bs)) ∷ ps))
        ≡ line (base + from) (place - from) piece
        ++ ((line (base + place) (size b.code) (slot k) ++ slot_lines isa (base + place + size b.code) (k + slots_wide wide) bs)
        ++ rows n base (piece_at n (k + (slots_wide wide + slots_in bs))) (place + size b.code + size (flat bs)) (k + (slots_wide wide + slots_in bs) + 1) ps)
    by true f ih next =
        let two : k + 1 + 1 ≡ k + 2 = omega arith in
        let all : k + (2 + slots_in bs) ≡ k + 2 + slots_in bs = omega arith in
        rw (lt-ltb 0 place h, lt-ltb k n (omega arith), two, ih (k + 2) (omega arith), all, ← next)
        (ap (λ (ls : List Line). line (base + from) (place - from) piece ++ ls)
        (sym (append_assoc (line (base + place) (size b.code) (slot k)) (slot_lines isa (base + (place + size b.code)) (k + 2) bs)
        (rows n base (piece_at n (k + 2 + slots_in bs)) (place + size b.code + size (flat bs)) (k + 2 + slots_in bs + 1) ps))))
    by false f ih next =
        let all : k + (1 + slots_in bs) ≡ k + 1 + slots_in bs = omega arith in
        rw (lt-ltb 0 place h, lt-ltb k n (omega arith), ih (k + 1) (omega arith), all, ← next)
        (ap (λ (ls : List Line). line (base + from) (place - from) piece ++ ls)
        (sym (append_assoc (line (base + place) (size b.code) (slot k)) (slot_lines isa (base + (place + size b.code)) (k + 1) bs)
        (rows n base (piece_at n (k + 1 + slots_in bs)) (place + size b.code + size (flat bs)) (k + 1 + slots_in bs + 1) ps))))

-- all of them
pub table-lines : (base start : ℕ) (bs : List Block) → 0 < start
    → rows (slots_in bs) base Prologue 0 0 (starts start bs ++ ((start + size (flat bs)) ∷ (start + size (flat bs) + epilogue_size) ∷ []))
    ≡ walk_lines base start bs
table-lines base start bs h =
    let exit = start + size (flat bs) in
    let all : start - 0 ≡ start = omega arith in
    let last : exit + epilogue_size - exit ≡ epilogue_size = omega arith in
    let none : ltb (slots_in bs) (slots_in bs) ≡ false = le-ltb (slots_in bs) (slots_in bs) (omega arith) in
    let some : ltb 0 (exit + epilogue_size) ≡ true = lt-ltb 0 (exit + epilogue_size) (omega arith) in
    rows-starts (slots_in bs) base Prologue 0 0 start bs ((exit + epilogue_size) ∷ []) h (omega arith)
    ∙ rw (add-zero base, all, zero-add (slots_in bs), none, some, last)

pub rising-starts : (from place end : ℕ) (bs : List Block) → 0 < place → from ≤ place → place + size (flat bs) ≤ end
    → Rising end from (starts place bs ++ ((place + size (flat bs)) ∷ end ∷ []))
rising-starts from place end [] h g f =
    ((λ z. absurd (omega (arith, z))), (λ p. (omega arith, ((λ z. absurd (omega (arith, z))), (λ q. (omega (arith, f), omega arith))))))
rising-starts from place end (b ∷ bs) h g f =
    let m = size b.code in
    let e : place + size (b.code ++ flat bs) ≡ place + m + size (flat bs) = rw (size-append b.code (flat bs)) (omega arith) in
    rw e (by b.wide (rising-starts place (place + m) end bs (omega arith) (omega arith) (omega (arith, f, e))))
  where
    by : (wide : Bool) → Rising end place (starts (place + size b.code) bs ++ ((place + size b.code + size (flat bs)) ∷ end ∷ []))
        → Rising end from
        ((entries place wide ++ starts (place + size b.code) bs) ++ ((place + size b.code + size (flat bs)) ∷ end ∷ []))
    by true r = ((λ z. absurd (omega (arith, z))), (λ p. (g, ((λ z. r), (λ z. absurd (omega (arith, z)))))))
    by false r = ((λ z. absurd (omega (arith, z))), (λ p. (g, r)))
