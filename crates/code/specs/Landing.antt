-- ONE statement about slots, targets and fields, for every processor. Entry k of the jump tables is a jump: the word at its field is the
-- word of that jump with its distance, and the processor, following the distance from the word's end, goes where target k lies: to the
-- start of the slot meant, to the exit, or to the page's first byte where the location table says 0. It is of the kind, and within the
-- slot's code, that entry k of the two further tables names. Every other jump carries its own distance from the definition.
use Rattle.std.specs.Prelude.{◌≡◌, ◌≢◌, List, ◌∷◌, ◌++◌, ℕ, ◌+◌, ◌-◌, ◌%◌, ◌^◌, ◌<◌, ◌≤◌, ltb, length, get_or, take, drop}
use Rattle.base.specs.Pick.{pick}
use Rattle.base.specs.Bytes.{le32}
use Rattle.code.specs.Instr.{Instr, jump, near, Isa}
use Rattle.code.specs.Code.{len, span, size}
use Rattle.code.specs.Page.{anchor, Code, Block, Page, slots_in, flat, whole}

-- the distance, extended by its sign, is added to the instruction's end, modulo 2 ^ 64
unfoldable pub follow : (end distance : ℕ) → ℕ
follow e x = (e + pick (ltb x (2 ^ 31)) x (x + (2 ^ 64 - 2 ^ 32))) % 2 ^ 64

module _ {P J : Type 0} (m : Isa P J) where
  -- An instruction stands at p: those before it have p bytes.
  pub record Stands (is : List (Instr P J ℕ)) (p : ℕ) (i : Instr P J ℕ) : Type 0 where
    pub before : List (Instr P J ℕ)
    pub behind : List (Instr P J ℕ)
    pub split : is ≡ before ++ i ∷ behind
    pub place : span (len m {D = ℕ}) before ≡ p

  -- the code of slot t begins at q, and is b's
  pub record SlotAt (g : Page P J) (t q : ℕ) (b : Block P J) : Type 0 where
    pub ahead : List (Block P J)
    pub behind : List (Block P J)
    pub split : g.blocks ≡ ahead ++ b ∷ behind
    pub number : slots_in ahead ≡ t
    pub place : size m g.prologue + size m (flat ahead) ≡ q

  -- p is where target t lies: the start of the slot meant, the exit, or, where no slot begins by that number and the location table says 0,
  -- the page's first byte. A target other than the exit has an entry in that table. `Exit` says of a place that the exit begins there: which
  -- instructions that are is the processor's own.
  pub data Meant (g : Page P J) (Exit : ℕ → Type 0) (locs : List ℕ) (t p : ℕ) : Type 0 where
    slot : (b : Block P J) → t < length locs → t ≢ anchor → SlotAt g t p b → get_or locs t 0 ≡ p → Meant g Exit locs t p
    exit : t ≡ anchor → Exit p → Meant g Exit locs t p
    first : t < length locs → t ≢ anchor → ((q : ℕ) (b : Block P J) → SlotAt g t q b → ⊥) → get_or locs t 0 ≡ 0 → p ≡ 0
        → Meant g Exit locs t p

  -- the four bytes at f lie within the code of slot w; within the prologue, where w is n
  pub data Within (g : Page P J) (w f : ℕ) : Type 0 where
    of_slot : (q : ℕ) (b : Block P J) → SlotAt g w q b → q ≤ f → f + 4 ≤ q + size m b.code → Within g w f
    of_prologue : w ≡ slots_in g.blocks → f + 4 ≤ size m g.prologue → Within g w f

  -- The four bytes at f are the last of a jump, conditional jump or call, and the processor, following its field, goes where target t lies.
  -- The jump is of the kind s, and its field within the code of slot w.
  pub record Lands (g : Page P J) (Exit : ℕ → Type 0) (code : List ℕ) (is : List (Instr P J ℕ)) (locs : List ℕ) (f t s w : ℕ) : Type 0 where
    pub kind : J
    pub field : ℕ
    pub begins : ℕ
    pub stands : Stands is begins (jump kind field)
    pub ends : begins + len m {D = ℕ} (jump kind field) ≡ f + 4
    pub short : field < 2 ^ 32
    pub bytes : take 4 (drop f code) ≡ le32 (m.word kind field)
    pub meant : Meant g Exit locs t (follow (f + 4) field)
    pub named : m.kind kind ≡ s
    pub maker : Within g w f

  -- a jump at p: listed, or over as many bytes as the definition says
  pub data Jumps (g : Page P J) (fields : List ℕ) (j : J) (v p : ℕ) : Type 0 where
    listed : (k : ℕ) → k < length fields → get_or fields k 0 + 4 ≡ p + len m {D = ℕ} (jump j v) → Jumps g fields j v p
    own : (pre post : Code P J) → whole g ≡ pre ++ jump j (near v) ∷ post → size m pre ≡ p → Jumps g fields j v p

  pub record Landing (g : Page P J) (Exit : ℕ → Type 0) (code : List ℕ) (is : List (Instr P J ℕ)) (locs fields targets kinds makers : List ℕ) : Type 0 where
    pub pairs : (length targets ≡ length fields) × ((length kinds ≡ length fields) × (length makers ≡ length fields))
    pub listed : (k : ℕ) → k < length fields
        → Lands g Exit code is locs (get_or fields k 0) (get_or targets k 0) (get_or kinds k 0) (get_or makers k 0)
    pub others : (p v : ℕ) (j : J) → Stands is p (jump j v) → Jumps g fields j v p
