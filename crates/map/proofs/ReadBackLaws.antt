-- THE THEOREM: the map of a page, read back by perf's rules, tiles the page, and the line that covers a byte names the piece it is of.
use mathlib.Core.Path.{◌≡◌, ◌∙◌, refl, ap, sym}
use mathlib.Core.Bool.{Bool, true, false}
use mathlib.Core.List.{List, [], ◌∷◌, ◌++◌, append_assoc}
use Prim.Native.Nat.{ℕ, zero, suc, ◌+◌, ◌-◌, ◌≤◌, ◌<◌, ◌^◌}
use native.Mathlib.Nat.{add-zero, zero-add}
use native.Mathlib.Omega.{arith}
use lib.Dec.{ltb}
use borrow.Author.Tests.{ltb-true, ltb-false}
use Rattle.code.specs.declared.Piece.{Piece}
use Rattle.code.specs.declared.Piece.TheVariants.{Prologue, Epilogue}
use Rattle.code.specs.Instr.{Isa}
use Rattle.code.specs.Code.{size}
use Rattle.code.specs.Page.{Block, Page, slots_wide, slots_in, flat, exit_of, whole}
use Rattle.code.specs.Lines.{Line, line, slot, slot_lines, lines_of, From, of_prologue, of_slot, of_epilogue}
use Rattle.code.proofs.CodeLaws.{size-append}
use Rattle.code.proofs.PageLaws.{whole-size}
use Rattle.map.specs.Perf.{Symbol}
use Rattle.map.specs.MapText.{name_of, text_of}
use Rattle.map.specs.ReadBack.{Shows, ReadBack}
use Rattle.map.proofs.PerfLaws.{symbols_of, map_read}
use Rattle.map.proofs.TilesLaws.{symbols-append, tiles-fit, tiles-page}

-- what some lines show, they show among others
pub shows_first : (a b : List Symbol) {address : ℕ} {name : List ℕ} → Shows a address name → Shows (a ++ b) address name
shows_first a b s =
    record {
      ahead = s.ahead;
      symbol = s.symbol;
      behind = s.behind ++ b;
      split = ap (λ (l : List Symbol). l ++ b) s.split ∙ append_assoc s.ahead (s.symbol ∷ s.behind) b;
      from = s.from;
      to = s.to;
      named = s.named;
    }

pub shows-behind : (a b : List Symbol) {address : ℕ} {name : List ℕ} → Shows b address name → Shows (a ++ b) address name
shows-behind a b s =
    record {
      ahead = a ++ s.ahead;
      symbol = s.symbol;
      behind = s.behind;
      split = ap (λ (l : List Symbol). a ++ l) s.split ∙ sym (append_assoc a s.ahead (s.symbol ∷ s.behind));
      from = s.from;
      to = s.to;
      named = s.named;
    }

pub shows-line : (start bytes : ℕ) (p : Piece) (address : ℕ) → start ≤ address → address < start + bytes
    → Shows (symbols_of (line start bytes p)) address (name_of p)
shows-line start zero p address f t = absurd (omega arith)
shows-line start (suc more) p address f t =
    record {
      ahead = [];
      symbol = record { start = start; size = suc more; name = name_of p };
      behind = [];
      split = refl;
      from = f;
      to = t;
      named = refl;
    }

module _ {P J : Type 0} (m : Isa P J) where
  -- the lines of blocks, split where the blocks are
  pub slots-append : (start number : ℕ) (a b : List (Block P J))
      → slot_lines m start number (a ++ b) ≡ slot_lines m start number a ++ slot_lines m (start + size m (flat a)) (number + slots_in a) b
  slots-append start number [] b = rw (add-zero start, add-zero number)
  slots-append start number (c ∷ a) b =
      let n = size m c.code in
      let w = slots_wide c.wide in
      let e : start + n + size m (flat a) ≡ start + size m (c.code ++ flat a) = rw (size-append m c.code (flat a)) (omega arith) in
      let f : number + w + slots_in a ≡ number + (w + slots_in a) = omega arith in
      rw (slots-append (start + n) (number + w) a b, e, f)
      (sym (append_assoc (line start n (slot number)) (slot_lines m (start + n) (number + w) a)
      (slot_lines m (start + size m (c.code ++ flat a)) (number + (w + slots_in a)) b)))

  pub shows-slot : (start number : ℕ) (a : List (Block P J)) (b : Block P J) (behind : List (Block P J)) (address : ℕ)
      → start + size m (flat a) ≤ address → address < start + size m (flat a) + size m b.code
      → Shows (symbols_of (slot_lines m start number (a ++ b ∷ behind))) address (name_of (slot (number + slots_in a)))
  shows-slot start number a b behind address f t =
      let at = start + size m (flat a) in
      let here = line at (size m b.code) (slot (number + slots_in a)) in
      let others = slot_lines m (at + size m b.code) (number + slots_in a + slots_wide b.wide) behind in
      rw (slots-append start number a (b ∷ behind), symbols-append (slot_lines m start number a) (here ++ others), symbols-append here others)
      (shows-behind (symbols_of (slot_lines m start number a)) (symbols_of here ++ symbols_of others)
      (shows_first (symbols_of here) (symbols_of others) (shows-line at (size m b.code) (slot (number + slots_in a)) address f t)))

  -- the block that a byte of blocks is of
  pub record Inside (bs : List (Block P J)) (p : ℕ) : Type 0 where
    pub ahead : List (Block P J)
    pub block : Block P J
    pub behind : List (Block P J)
    pub split : bs ≡ ahead ++ block ∷ behind
    pub from : size m (flat ahead) ≤ p
    pub to : p < size m (flat ahead) + size m block.code

  inside-later : (b : Block P J) (bs : List (Block P J)) (p : ℕ) → size m b.code ≤ p → Inside bs (p - size m b.code) → Inside (b ∷ bs) p
  inside-later b bs p h i =
      let e = size-append m b.code (flat i.ahead) in
      record {
        ahead = b ∷ i.ahead;
        block = i.block;
        behind = i.behind;
        split = ap (λ (l : List (Block P J)). b ∷ l) i.split;
        from = omega (arith, e, i.from);
        to = omega (arith, e, i.to);
      }

  pub inside : (bs : List (Block P J)) (p : ℕ) → p < size m (flat bs) → Inside bs p
  inside [] p h = absurd (omega (arith, h))
  inside (b ∷ bs) p h = by (ltb p (size m b.code)) refl (λ l. inside bs (p - size m b.code) l)
    where
      by : (t : Bool) → ltb p (size m b.code) ≡ t → (p - size m b.code < size m (flat bs) → Inside bs (p - size m b.code)) → Inside (b ∷ bs) p
      by true e ih =
          record { ahead = []; block = b; behind = bs; split = refl; from = omega arith; to = omega (arith, ltb-true p (size m b.code) e) }
      by false e ih =
          let l : size m b.code ≤ p = ltb-false p (size m b.code) e in
          inside-later b bs p l (ih (omega (arith, h, size-append m b.code (flat bs))))

  module _ (g : Page P J) where
    -- every byte is of a piece
    pub every_byte : (p : ℕ) → p < size m (whole g) → (piece : Piece) × From m g p piece
    every_byte p h = by (ltb p (size m g.prologue)) (ltb p (exit_of m g)) refl refl
      where
        slotted : size m g.prologue ≤ p → Inside g.blocks (p - size m g.prologue) → (piece : Piece) × From m g p piece
        slotted l i = (
          slot (slots_in i.ahead),
          of_slot (slots_in i.ahead) (size m g.prologue + size m (flat i.ahead)) i.block
              (record { ahead = i.ahead; behind = i.behind; split = i.split; number = refl; place = refl })
              (omega (arith, i.from)) (omega (arith, i.to)),
        )

        by : (t u : Bool) → ltb p (size m g.prologue) ≡ t → ltb p (exit_of m g) ≡ u → (piece : Piece) × From m g p piece
        by true u e f = (Prologue, of_prologue (ltb-true p (size m g.prologue) e))
        by false true e f =
            let l : size m g.prologue ≤ p = ltb-false p (size m g.prologue) e in
            let k : p < exit_of m g = ltb-true p (exit_of m g) f in
            slotted l (inside g.blocks (p - size m g.prologue) (omega arith))
        by false false e f =
            let k : exit_of m g ≤ p = ltb-false p (exit_of m g) f in
            (Epilogue, of_epilogue k (omega (arith, h, whole-size m g)))

  module _ (base : ℕ) (g : Page P J) where
    -- and its line names that piece
    pub names-piece : (p : ℕ) (piece : Piece) → From m g p piece → Shows (symbols_of (lines_of m base g)) (base + p) (name_of piece)
    names-piece p piece from = rw (symbols-append a (b ++ c), symbols-append b c) (by from)
      where
        a : List Line
        a = line base (size m g.prologue) Prologue

        b : List Line
        b = slot_lines m (base + size m g.prologue) 0 g.blocks

        c : List Line
        c = line (base + exit_of m g) (size m g.epilogue) Epilogue

        by : {piece : Piece} → From m g p piece → Shows (symbols_of a ++ (symbols_of b ++ symbols_of c)) (base + p) (name_of piece)
        by (of_prologue h) =
            shows_first (symbols_of a) (symbols_of b ++ symbols_of c)
            (shows-line base (size m g.prologue) Prologue (base + p) (omega arith) (omega arith))
        by (of_slot number q k s f t) =
            let e : 0 + slots_in s.ahead ≡ number = zero-add (slots_in s.ahead) ∙ s.number in
            let h = s.place in
            shows-behind (symbols_of a) (symbols_of b ++ symbols_of c)
            (shows_first (symbols_of b) (symbols_of c)
            (rw (s.split, ← e) (shows-slot (base + size m g.prologue) 0 s.ahead k s.behind (base + p) (omega arith) (omega arith))))
        by (of_epilogue f t) =
            shows-behind (symbols_of a) (symbols_of b ++ symbols_of c)
            (shows-behind (symbols_of b) (symbols_of c)
            (shows-line (base + exit_of m g) (size m g.epilogue) Epilogue (base + p) (omega arith) (omega arith)))

    pub read_back : base + size m (whole g) < 2 ^ 64 → ReadBack m base g (text_of (lines_of m base g))
    read_back h =
        record {
          symbols = symbols_of (lines_of m base g);
          read = map_read (lines_of m base g) (tiles-fit (base + size m (whole g)) base (lines_of m base g) h (tiles-page m base g));
          tiles = tiles-page m base g;
          every = every_byte g;
          names = names-piece;
        }
