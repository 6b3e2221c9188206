-- An instruction as a word: the numbers that the emitters put together are the encoding's bytes.
use Rattle.std.proofs.Common.{◌≡◌, ℕ, suc, ◌+◌, ◌*◌, ◌%◌, ◌^◌, ◌<◌, ◌≤◌, Bool, true, false, not, ◌&&◌, eqb, List, [], ◌∷◌, ◌++◌, length, ap, ◌∙◌, append_assoc, add-one, arith}
use Rattle.base.specs.Bytes.{bytes_of}
use Rattle.base.proofs.BytesLaws.{bytes-cons, length-bytes_of}
use Rattle.x86.specs.Encode.{rex_rule, rex, rex_bits, modrm, memory, bare, short}
use Rattle.x86.proofs.Lengths.{behind}
use Rattle.x86_emit.specs.Addresses.{Addresses}

-- one byte; two; a byte and what follows
pub byte : (b : ℕ) → b < 256 → bytes_of 1 b ≡ b ∷ []
byte b h = ap (λ (x : ℕ). x ∷ []) (omega arith)

pub pair : (a b : ℕ) → a < 256 → b < 256 → bytes_of 2 (a + 256 * b) ≡ a ∷ b ∷ []
pair a b h g = bytes-cons 1 a b h ∙ ap (λ (l : List ℕ). a ∷ l) (byte b g)

-- the rule for the REX prefix: left out and written
pub rex-absent : (force : Bool) (bits w r b : ℕ) (xs : List ℕ) → rex_bits w r b ≡ bits → (not force && eqb bits 0) ≡ true
    → xs ≡ rex_rule force w r b ++ xs
rex-absent force bits w r b xs e f = rw (e, f)

pub rex-present : (force : Bool) (bits w r b size rest : ℕ) → rex_bits w r b ≡ bits → (not force && eqb bits 0) ≡ false → bits < 16
    → bytes_of (size + 1) (64 + bits + 256 * rest) ≡ rex_rule force w r b ++ bytes_of size rest
rex-present force bits w r b size rest e f h = rw (e, f, add-one size) (bytes-cons size (64 + bits) rest (omega arith))

-- behind a REX: other names for its W and for what follows
pub rexed : {w w' : ℕ} {xs ys : List ℕ} (r b : ℕ) → w ≡ w' → xs ≡ ys → rex w r b ++ xs ≡ rex w' r b ++ ys
rexed r b e f = rw (e, f)

-- an opcode and ModRM, alone or ahead of an immediate
pub coded : (o m : ℕ) {m' : ℕ} → m ≡ m' → o < 256 → m < 256 → bytes_of 2 (o + 256 * m) ≡ o ∷ m' ∷ []
coded o m e h g = pair o m h g ∙ ap (λ (x : ℕ). o ∷ x ∷ []) e

pub coded-then : (n o m i : ℕ) {m' : ℕ} → m ≡ m' → o < 256 → m < 256 → bytes_of (suc (suc n)) (o + 256 * (m + 256 * i)) ≡ o ∷ m' ∷ bytes_of n i
coded-then n o m i e h g =
    bytes-cons (suc n) o (m + 256 * i) h
    ∙ ap (λ (l : List ℕ). o ∷ l) (bytes-cons n m i g)
    ∙ ap (λ (x : ℕ). o ∷ x ∷ bytes_of n i) e

pub coded-byte : (o m i : ℕ) {m' : ℕ} → m ≡ m' → o < 256 → m < 256 → i < 256 → bytes_of 3 (o + 256 * (m + 256 * i)) ≡ o ∷ m' ∷ i ∷ []
coded-byte o m i {m'} e h g f = coded-then 1 o m i e h g ∙ ap (λ (l : List ℕ). o ∷ m' ∷ l) (byte i f)

-- ModRM and displacement, by the displacement's form
pub address-bare : (m reg base disp : ℕ) → m ≡ modrm 0 reg base → m < 256 → bare base disp ≡ true → Addresses 1 m reg base disp
unfolding memory
address-bare m reg base disp e h t = record { bytes = byte m h ∙ rw (t, e); short = omega arith; small = omega arith }

pub address-short : (m reg base disp : ℕ) → m ≡ modrm 1 reg base → m < 256 → bare base disp ≡ false → short disp ≡ true
    → Addresses 2 (m + 256 * (disp % 256)) reg base disp
unfolding memory
address-short m reg base disp e h t s = record { bytes = pair m (disp % 256) h (omega arith) ∙ rw (t, s, e); short = omega arith; small = omega arith }

pub address-long : (m reg base disp : ℕ) → m ≡ modrm 2 reg base → m < 256 → disp < 2 ^ 32 → bare base disp ≡ false → short disp ≡ false
    → Addresses 5 (m + 256 * disp) reg base disp
unfolding memory
address-long m reg base disp e h g t s = record { bytes = bytes-cons 4 m disp h ∙ rw (t, s, e); short = omega arith; small = omega arith }

-- one or two bytes of opcode ahead of it
pub opcode1 : {size word reg base disp : ℕ} (o : ℕ) → o < 256 → Addresses size word reg base disp → bytes_of (size + 1) (o + 256 * word) ≡ o ∷ memory reg base disp
opcode1 {size} {word} o h a = rw (add-one size) (bytes-cons size o word h ∙ ap (λ (l : List ℕ). o ∷ l) a.bytes)

pub opcode2 : {size word reg base disp : ℕ} (o p : ℕ) → o < 256 → p < 256 → Addresses size word reg base disp
    → bytes_of (size + 2) (o + 256 * (p + 256 * word)) ≡ o ∷ p ∷ memory reg base disp
opcode2 {size} {word} o p h g a =
    let s : size + 2 ≡ suc (suc size) = omega arith in
    rw s (bytes-cons (suc size) o (p + 256 * word) h ∙ ap (λ (l : List ℕ). o ∷ l) (bytes-cons size p word g) ∙ ap (λ (l : List ℕ). o ∷ p ∷ l) a.bytes)

-- a store of an immediate: its last bytes come by themselves
pub rexed-most : (w r b n x : ℕ) → length (rex w r b ++ bytes_of n x) ≤ 1 + n
rexed-most w r b n x = omega (arith, behind w r b (bytes_of n x), length-bytes_of n x)

pub opcode-imm : {size word reg base disp : ℕ} (w o : ℕ) (imm : List ℕ) → o < 256 → Addresses size word reg base disp
    → (rex w 0 base ++ bytes_of (size + 1) (o + 256 * word)) ++ imm ≡ rex w 0 base ++ (o ∷ (memory reg base disp ++ imm))
opcode-imm {size} {word} {base = base} w o imm h a =
    append_assoc (rex w 0 base) (bytes_of (size + 1) (o + 256 * word)) imm ∙ ap (λ (l : List ℕ). rex w 0 base ++ (l ++ imm)) (opcode1 o h a)
