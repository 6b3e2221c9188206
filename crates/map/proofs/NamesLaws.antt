-- What `ReadBack` says of any text that it holds of: an address has one name or none, a byte is of one piece, and a name that is shown at
-- an address of the page is that of the piece whose byte lies there, and no other piece has that name.
use mathlib.Core.Path.{◌≡◌, ◌∙◌, refl, ap, sym, subst}
use mathlib.Core.Bool.{Bool, true, false}
use mathlib.Core.List.{List, [], ◌∷◌, ◌++◌}
use Prim.Native.Nat.{ℕ, ◌+◌, ◌-◌, ◌≤◌, ◌<◌, ◌^◌}
use native.Mathlib.Omega.{arith}
use lib.Dec.{ltb}
use lib.ListN.{get_or}
use borrow.Author.Tests.{ltb-true, ltb-false}
use Rattle.code.specs.declared.Piece.{Piece}
use Rattle.code.specs.declared.Piece.TheVariants.{Prologue, Slot, Epilogue}
use Rattle.code.specs.Instr.{Isa}
use Rattle.code.specs.Code.{size}
use Rattle.code.specs.Page.{Block, Page, slots_in, flat, exit_of, whole}
use Rattle.code.specs.Landing.{SlotAt}
use Rattle.code.specs.Lines.{slot, From, of_prologue, of_slot, of_epilogue}
use Rattle.code.proofs.CodeLaws.{size-append}
use Rattle.code.proofs.PageLaws.{wide-some}
use Rattle.text.specs.Numerals.{decimal}
use Rattle.text.proofs.NumeralLaws.{decimal-one}
use Rattle.map.specs.Perf.{Symbol}
use Rattle.map.specs.MapText.{name_of}
use Rattle.map.specs.ReadBack.{Tiles, done, next, Shows, ReadBack}
use Rattle.map.proofs.TilesLaws.{tiles-most}
use Rattle.map.proofs.ReadBackLaws.{shows-behind}

-- A line of a tiling lies within it.
pub tiles-within : (to from : ℕ) (a : List Symbol) (s : Symbol) (b : List Symbol) → Tiles to from (a ++ s ∷ b)
    → (from ≤ s.start) × (s.start + s.size ≤ to)
tiles-within to from [] s b (next _ _ h t) = (omega arith, omega (arith, tiles-most t))
tiles-within to from (c ∷ a) s b (next _ _ h t) =
    let w = tiles-within to (c.start + c.size) a s b t in
    (omega (arith, w.0), w.1)

pub record Covers (s : Symbol) (address : ℕ) : Type 0 where
  pub from : s.start ≤ address
  pub to : address < s.start + s.size

-- of two lines that cover an address, the first is not ahead of the second
not-ahead : (to from : ℕ) (s : Symbol) (b a : List Symbol) (t : Symbol) (c : List Symbol) (address : ℕ)
    → Tiles to from (s ∷ b) → b ≡ a ++ t ∷ c → Covers s address → Covers t address → ⊥
not-ahead to from s b a t c address (next _ _ h r) e p q =
    let w = tiles-within to (s.start + s.size) a t c (rw e at r) in
    omega (arith, w.0, p.to, q.from)

pub one_line : (to from : ℕ) (a : List Symbol) (s : Symbol) (b c : List Symbol) (t : Symbol) (d : List Symbol) (address : ℕ)
    → Tiles to from (a ++ s ∷ b) → a ++ s ∷ b ≡ c ++ t ∷ d → Covers s address → Covers t address → s ≡ t
one_line to from [] s b [] t d address h e p q = cc
one_line to from [] s b (x ∷ c) t d address h e p q =
    let f : b ≡ c ++ t ∷ d = cc in
    absurd (not-ahead to from s b c t d address h f p q)
one_line to from (x ∷ a) s b [] t d address h e p q =
    let f : d ≡ a ++ s ∷ b = cc in
    absurd (not-ahead to from t d a s b address (rw e at h) f q p)
one_line to from (x ∷ a) s b (y ∷ c) t d address (next _ _ g h) e p q =
    let f : a ++ s ∷ b ≡ c ++ t ∷ d = cc in
    one_line to (x.start + x.size) a s b c t d address h f p q

-- One name.
pub one_name : {to from : ℕ} {ss : List Symbol} {address : ℕ} {x y : List ℕ} → Tiles to from ss → Shows ss address x → Shows ss address y → x ≡ y
one_name {to} {from} {ss} {address} t s u =
    let e : s.ahead ++ s.symbol ∷ s.behind ≡ u.ahead ++ u.symbol ∷ u.behind = sym s.split ∙ u.split in
    let l : s.symbol ≡ u.symbol =
    one_line to from s.ahead s.symbol s.behind u.ahead u.symbol u.behind address (rw s.split at t) e
    (record { from = s.from; to = s.to }) (record { from = u.from; to = u.to }) in
    sym s.named ∙ rw l u.named

-- No name outside the page, and one at each address within it.
pub shown-within : {to from : ℕ} {ss : List Symbol} {address : ℕ} {x : List ℕ} → Tiles to from ss → Shows ss address x
    → (from ≤ address) × (address < to)
shown-within {to} {from} t s =
    let w = tiles-within to from s.ahead s.symbol s.behind (rw s.split at t) in
    (omega (arith, w.0, s.from), omega (arith, w.1, s.to))

pub shown-all : {to from : ℕ} {ss : List Symbol} (address : ℕ) → Tiles to from ss → from ≤ address → address < to
    → (x : List ℕ) × Shows ss address x
shown-all address done f t = absurd (omega (arith, f, t))
shown-all {to} address (next s ss h r) f t = by (ltb address (s.start + s.size)) refl (λ g. shown-all address r g t)
  where
    by : (b : Bool) → ltb address (s.start + s.size) ≡ b → (s.start + s.size ≤ address → (x : List ℕ) × Shows ss address x)
        → (x : List ℕ) × Shows (s ∷ ss) address x
    by true e ih = (
      s.name,
      record { ahead = []; symbol = s; behind = ss; split = refl; from = f; to = ltb-true address (s.start + s.size) e; named = refl },
    )
    by false e ih =
        let p = ih (ltb-false address (s.start + s.size) e) in
        (p.0, shows-behind (s ∷ []) ss p.1)

-- Two pieces have two names: a slot's number has at most twenty digits.
abbrev pub Numbered : Piece → Type 0
Numbered Prologue = Unit {0}
Numbered Epilogue = Unit {0}
Numbered (Slot s) = s.number < 10 ^ 20

abbrev initial : List ℕ → ℕ
initial t = get_or t 0 0

pub names-differ : (x y : Piece) → Numbered x → Numbered y → name_of x ≡ name_of y → x ≡ y
names-differ Prologue Prologue p q e = refl
names-differ Prologue Epilogue p q e = absurd (omega (arith, ap initial e))
names-differ Prologue (Slot t) p q e = absurd (omega (arith, ap initial e))
names-differ Epilogue Prologue p q e = absurd (omega (arith, ap initial e))
names-differ Epilogue Epilogue p q e = refl
names-differ Epilogue (Slot t) p q e = absurd (omega (arith, ap initial e))
names-differ (Slot s) Prologue p q e = absurd (omega (arith, ap initial e))
names-differ (Slot s) Epilogue p q e = absurd (omega (arith, ap initial e))
names-differ (Slot s) (Slot t) p q e =
    let d : decimal s.number ≡ decimal t.number = cc in
    ap slot (decimal-one s.number t.number p q d)

module _ {P J : Type 0} (m : Isa P J) where
  -- a byte of blocks, the first of which lie at n, is within one of them
  record Holds (n : ℕ) (ahead : List (Block P J)) (b : Block P J) (p : ℕ) : Type 0 where
    pub from : n + size m (flat ahead) ≤ p
    pub to : p < n + size m (flat ahead) + size m b.code

  holds_later : (n : ℕ) (c : Block P J) (a : List (Block P J)) (b : Block P J) (p : ℕ) → Holds n (c ∷ a) b p → Holds (n + size m c.code) a b p
  holds_later n c a b p h =
      let e = size-append m c.code (flat a) in
      record { from = omega (arith, e, h.from); to = omega (arith, e, h.to) }

  not-both : (n : ℕ) (b c : Block P J) (a : List (Block P J)) (d : Block P J) (p : ℕ) → b ≡ c → Holds n [] b p → Holds n (c ∷ a) d p → ⊥
  not-both n b c a d p e h k =
      let f : size m b.code ≡ size m c.code = rw e in
      omega (arith, f, size-append m c.code (flat a), h.to, k.from)

  one_block : (n : ℕ) (a : List (Block P J)) (b : Block P J) (r c : List (Block P J)) (d : Block P J) (s : List (Block P J)) (p : ℕ)
      → a ++ b ∷ r ≡ c ++ d ∷ s → Holds n a b p → Holds n c d p → slots_in a ≡ slots_in c
  one_block n [] b r [] d s p e h k = refl
  one_block n [] b r (x ∷ c) d s p e h k = let f : b ≡ x = cc in absurd (not-both n b x c d p f h k)
  one_block n (x ∷ a) b r [] d s p e h k = let f : d ≡ x = cc in absurd (not-both n d x a b p f k h)
  one_block n (x ∷ a) b r (y ∷ c) d s p e h k =
      let f : x ≡ y = cc in
      let g : a ++ b ∷ r ≡ c ++ d ∷ s = cc in
      let j : slots_in a ≡ slots_in c = one_block (n + size m x.code) a b r c d s p g (holds_later n x a b p h) (rw f (holds_later n y c d p k)) in
      rw (f, j)

  -- a block among others: its bytes are among theirs, and its number is below theirs
  among : (a : List (Block P J)) (b : Block P J) (r : List (Block P J))
      → (size m (flat a) + size m b.code ≤ size m (flat (a ++ b ∷ r))) × (slots_in a < slots_in (a ++ b ∷ r))
  among [] b r = (omega (arith, size-append m b.code (flat r)), omega (arith, wide-some b.wide))
  among (c ∷ a) b r =
      let h = among a b r in
      (omega (arith, h.0, size-append m c.code (flat a), size-append m c.code (flat (a ++ b ∷ r))), omega (arith, h.1))

  module _ (g : Page P J) where
    slot-holds : (t q : ℕ) (b : Block P J) (p : ℕ) (s : SlotAt m g t q b) → q ≤ p → p < q + size m b.code → Holds (size m g.prologue) s.ahead b p
    slot-holds t q b p s f l = record { from = omega (arith, s.place); to = omega (arith, s.place) }

    record Ends (t q : ℕ) (b : Block P J) : Type 0 where
      pub first : size m g.prologue ≤ q
      pub last : q + size m b.code ≤ exit_of m g
      pub counted : t < slots_in g.blocks

    slot-ends : (t q : ℕ) (b : Block P J) → SlotAt m g t q b → Ends t q b
    slot-ends t q b s =
        let h = among s.ahead b s.behind in
        let e : size m (flat g.blocks) ≡ size m (flat (s.ahead ++ b ∷ s.behind)) = rw s.split in
        let c : slots_in g.blocks ≡ slots_in (s.ahead ++ b ∷ s.behind) = rw s.split in
        record { first = omega (arith, s.place); last = omega (arith, s.place, h.0, e); counted = omega (arith, s.number, h.1, c) }

    -- One piece.
    pub one_piece : (p : ℕ) {x y : Piece} → From m g p x → From m g p y → x ≡ y
    one_piece p (of_prologue h) (of_prologue k) = refl
    one_piece p (of_prologue h) (of_slot t q b s f l) = absurd (omega (arith, (slot-ends t q b s).first))
    one_piece p (of_prologue h) (of_epilogue f l) = absurd (omega arith)
    one_piece p (of_slot t q b s f l) (of_prologue k) = absurd (omega (arith, (slot-ends t q b s).first))
    one_piece p (of_slot t q b s f l) (of_slot u r c v i j) =
        let e =
        one_block (size m g.prologue) s.ahead b s.behind v.ahead c v.behind p (sym s.split ∙ v.split)
        (slot-holds t q b p s f l) (slot-holds u r c p v i j) in
        ap slot (sym s.number ∙ e ∙ v.number)
    one_piece p (of_slot t q b s f l) (of_epilogue i j) = absurd (omega (arith, (slot-ends t q b s).last))
    one_piece p (of_epilogue h l) (of_prologue k) = absurd (omega arith)
    one_piece p (of_epilogue h l) (of_slot t q b s f i) = absurd (omega (arith, (slot-ends t q b s).last))
    one_piece p (of_epilogue h l) (of_epilogue i j) = refl

    pub numbered : (p : ℕ) {x : Piece} → slots_in g.blocks ≤ 10 ^ 20 → From m g p x → Numbered x
    numbered p few (of_prologue h) = tt
    numbered p few (of_slot t q b s f l) = omega (arith, (slot-ends t q b s).counted)
    numbered p few (of_epilogue f l) = tt

    -- What perf tells of an address is so: it lies in the page, and the name is that of the piece whose byte lies there.
    pub record Told (base address : ℕ) (name : List ℕ) : Type 0 where
      pub place : ℕ
      pub piece : Piece
      pub within : place < size m (whole g)
      pub lies : address ≡ base + place
      pub from : From m g place piece
      pub named : name ≡ name_of piece

    module _ (base : ℕ) (text : List ℕ) (r : ReadBack m base g text) where
      told_at : (p : ℕ) (name : List ℕ) → p < size m (whole g) → ((piece : Piece) × From m g p piece) → Shows r.symbols (base + p) name
          → Told base (base + p) name
      told_at p name h f s =
          record { place = p; piece = f.0; within = h; lies = refl; from = f.1; named = one_name r.tiles s (r.names p f.0 f.1) }

      pub told : (address : ℕ) (name : List ℕ) → Shows r.symbols address name → Told base address name
      told address name s =
          let w = shown-within r.tiles s in
          let e : base + (address - base) ≡ address = omega (arith, w.0) in
          let h : address - base < size m (whole g) = omega (arith, w.0, w.1) in
          subst (λ (a : ℕ). Shows r.symbols a name → Told base a name) e (told_at (address - base) name h (r.every (address - base) h)) s

      -- and where the name of a piece is shown, there its byte lies
      pub tells : (p : ℕ) (x : Piece) → slots_in g.blocks ≤ 10 ^ 20 → Numbered x → Shows r.symbols (base + p) (name_of x) → From m g p x
      tells p x few n s =
          let t = told (base + p) (name_of x) s in
          let e : t.place ≡ p = omega (arith, t.lies) in
          let f : From m g p t.piece = rw e at t.from in
          rw (names-differ x t.piece n (numbered p few f) t.named) f
