-- What `Wrote` rules out, whatever the page: an answer that is not the place behind the bytes, a page that is changed further on, and other
-- bytes than those that are meant, as emitters would write them that get a displacement or a store's REX wrong.
use Rattle.std.proofs.Common.{◌≡◌, ℕ, ◌+◌, ◌≤◌, Bool, true, false, not, ◌&&◌, eqb, List, [], ◌∷◌, ◌++◌, length, get_or, take, drop, sym, refl, ap, ◌∙◌, add-zero, arith, length-append, length-take, get_or-drop, take_at, drop_at}
use lib.Seq.{sets, sets-eq}
use Rattle.base.specs.Bytes.{join}
use Rattle.base.proofs.Tests.{eqb-true}
use Rattle.base.specs.declared.Size.TheVariants.{S8, S32, S64}
use Rattle.x86.specs.Registers.{RAX, RDI, R13}
use Rattle.x86.specs.Instr.{load, store, store_imm}
use Rattle.x86.specs.Encode.{encode_plain, rex, modrm, memory, bare, short}
use Rattle.x86_emit.specs.Wrote.{Wrote}

pub late : {l l' : List ℕ} {at r : ℕ} {ys : List ℕ} → Wrote l l' at r ys → r ≡ at + length ys + 1 → ⊥
late w e = omega (arith, w.next)

pub spilled : {l l' : List ℕ} {at r : ℕ} {ys : List ℕ} → Wrote l l' at r ys → (get_or l' (r + 8) 0 ≡ get_or l (r + 8) 0 → ⊥) → ⊥
spilled {l} {l'} {r = r} w n =
    let e = sym (get_or-drop (r + 8) l' 0 0) ∙ ap (λ (t : List ℕ). get_or t 0 0) w.tail ∙ get_or-drop (r + 8) l 0 0 in
    n (simp add-zero at e)

-- What an emitter does that writes the bytes zs: they stand in the page from `at` on, all else is as it was, and it answers the place behind.
pub record Stored (l l' : List ℕ) (at r : ℕ) (zs : List ℕ) : Type 0 where
  pub page : l' ≡ sets l at zs
  pub next : r ≡ at + length zs
  pub room : r ≤ length l

pub meant : {l l' : List ℕ} {at r : ℕ} {ys zs : List ℕ} → Wrote l l' at r ys → Stored l l' at r zs → ys ≡ zs
meant {l} {l'} {at} {r} {ys} {zs} w s =
    let front : length (take at l) ≡ at = length-take at l ∙ omega (arith, s.next, s.room) in
    let whole : take r l' ≡ take at l ++ zs =
    rw (s.page, s.next, sets-eq zs l at (omega (arith, s.next, s.room)))
    (take_at (take at l ++ zs) (drop (at + length zs) l) (at + length zs) (length-append (take at l) zs ∙ rw front)) in
    sym (drop_at (take at l) ys at front) ∙ ap (drop at) (sym w.head ∙ whole) ∙ drop_at (take at l) zs at front

-- Bytes, and those that are meant. Where the two differ, which antt computes of a whole list, whoever writes the one breaks the contract.
pub record Case : Type 0 where
  pub wrong : List ℕ
  pub right : List ℕ

infix 90 ◌for◌
abbrev pub ◌for◌ : List ℕ → List ℕ → Case
wrong for right = record { wrong = wrong; right = right }

abbrev pub Refuted : List Case → Type 0
Refuted [] = Unit {0}
Refuted (c ∷ cs) = ((l l' : List ℕ) (at r : ℕ) → Wrote l l' at r c.right → Stored l l' at r c.wrong → ⊥) × Refuted cs

abbrev differ : List Case → Bool
differ [] = true
differ (c ∷ cs) = not (eqb (join c.right) (join c.wrong)) && differ cs

pub refuted : (cs : List Case) → differ cs ≡ true → Refuted cs
refuted [] e = tt
refuted (c ∷ cs) e = by (eqb (join c.right) (join c.wrong)) refl e (refuted cs)
  where
    by : (t : Bool) → eqb (join c.right) (join c.wrong) ≡ t → (not t && differ cs) ≡ true → (differ cs ≡ true → Refuted cs) → Refuted (c ∷ cs)
    by true t e others = let z : ◌≡◌ {A = ℕ} 0 1 = cc in absurd (omega arith)
    by false t e others = (λ l l' at r w s. (let z = sym t ∙ eqb-true _ _ (ap join (meant w s)) in let y : ◌≡◌ {A = ℕ} 0 1 = cc in omega arith), others e)

-- mod 00 on R13, which means RIP-relative; displacement 128 in one byte, which means -128
abbrev pub displaced : List Case
displaced =
    (0x49 ∷ 0x8b ∷ 0x05 ∷ []) for encode_plain (load S64 R13 RAX 0)
    ∷ (0x41 ∷ 0x88 ∷ 0x05 ∷ []) for encode_plain (store S8 RAX R13 0)
    ∷ (0x48 ∷ 0x8b ∷ 0x47 ∷ 0x80 ∷ []) for encode_plain (load S64 RDI RAX 128)
    ∷ (0xc7 ∷ 0x47 ∷ 0x80 ∷ 0x01 ∷ 0x00 ∷ 0x00 ∷ 0x00 ∷ []) for encode_plain (store_imm S32 RDI 128 1)
    ∷ []

pub displacements : Refuted displaced
unfolding rex modrm memory bare short
displacements = refuted displaced refl

-- A byte store from RDI without its 0x40, which stores BH; a store of four bytes with a 0x40 that nothing forces.
abbrev pub prefixed : List Case
prefixed =
    (0x88 ∷ 0x38 ∷ []) for encode_plain (store S8 RDI RAX 0)
    ∷ (0x40 ∷ 0x89 ∷ 0x38 ∷ []) for encode_plain (store S32 RDI RAX 0)
    ∷ []

pub prefixes : Refuted prefixed
unfolding rex modrm memory bare
prefixes = refuted prefixed refl

-- The two tests by which the code picks a displacement's form: `bare` of R13, `short` of 128.
pub tested : (true ≡ bare R13 0 → ⊥) × (true ≡ short 128 → ⊥)
unfolding bare short
tested = (λ e. (let z : ◌≡◌ {A = ℕ} 0 1 = cc in omega arith), λ e. (let z : ◌≡◌ {A = ℕ} 0 1 = cc in omega arith))
