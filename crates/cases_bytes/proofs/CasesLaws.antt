-- The laws of specs/Cases.antt: a case with which nothing is wrong has its parts inside the body, and places are filled one by one.
use Rattle.std.specs.Prelude.{Result, Ok, Err}
use Rattle.std.specs.Result.{IsErrAnd}
use mathlib.Core.Path.{◌≡◌, ◌∙◌, refl, ap, sym}
use mathlib.Core.List.{List, [], ◌∷◌, ◌++◌, append-nil}
use Prim.Native.Nat.{ℕ, zero, suc, ◌+◌, ◌*◌, ◌<◌, ◌≤◌}
use native.Mathlib.Omega.{arith}
use native.Mathlib.Nat.{add-zero, zero-add}
use lib.ListN.{length, length-append, get_or, take, drop, set}
use lib.Seq.{drop-cons, drop-length, length-take-le, append_snoc, set_at}
use Rattle.base.specs.Table.{values}
use Rattle.cases_problems.specs.declared.Problem.{Problem}
use Rattle.cases_bytes.specs.declared.parts.Case.{Case}
use Rattle.cases_bytes.specs.Cases.{addresses_in, case_of, filled, ids_in, lengths_end, parts_of, program_at, wrong_with}

-- where the parts are of a case with which nothing is wrong
pub record Parted (r : Case) (b : List ℕ) (most_ids most_addresses : ℕ) : Type 0 where
  pub ids : r.ids ≤ most_ids
  pub addresses : r.addresses ≤ most_addresses
  pub addresses-end : lengths_end b + 12 + 4 * r.ids + 8 * r.addresses ≤ length b
  pub program : r.program ≤ length b

pub parted : (r : Case) (b : List ℕ) (most_ids most_addresses : ℕ)
    → ((ids_in b ≤ most_ids) × ((addresses_in b ≤ most_addresses) × (program_at b ≤ length b)))
    → r ≡ parts_of b
    → Parted r b most_ids most_addresses
unfolding parts_of program_at
parted r b most_ids most_addresses s e = rw e record { ids = s.0; addresses = s.1.0; addresses-end = s.1.1; program = s.1.1 }

-- a `?` hands on what was found to be wrong
pub handed_on : {T : Type 0} (r : Result T Problem) (p : Problem) → IsErrAnd r (λ e. e ≡ p) → r ≡ Err p
handed_on (Ok x) p h = absurd h
handed_on (Err e) p h = rw h

pub case-wrong : (b : List ℕ) (most_ids most_addresses : ℕ) (w : Result (Unit {0}) Problem) (p : Problem)
    → w ≡ wrong_with b most_ids most_addresses → w ≡ Err p → Err p ≡ case_of b most_ids most_addresses
unfolding case_of
case-wrong b most_ids most_addresses w p e f = rw (← e, f)

pub case-fine : (b : List ℕ) (most_ids most_addresses : ℕ) (w : Result (Unit {0}) Problem) (u : Unit {0}) (r : Case)
    → w ≡ wrong_with b most_ids most_addresses → w ≡ Ok u → r ≡ parts_of b → Ok r ≡ case_of b most_ids most_addresses
unfolding case_of
case-fine b most_ids most_addresses w u r e f g = rw (← e, f, g)

-- one place more is filled
length-values : (f : ℕ → ℕ) (k n : ℕ) → length (values f k n) ≡ n
length-values f k zero = refl
length-values f k (suc n) = ap suc (length-values f (suc k) n)

values-last : (f : ℕ → ℕ) (k n : ℕ) → values f k n ++ (f (k + n) ∷ []) ≡ values f k (suc n)
values-last f k zero = rw (add-zero k)
values-last f k (suc n) = let e : k + suc n ≡ suc k + n = omega arith in rw (e, values-last f (suc k) n)

pub filled_more : (f : ℕ → ℕ) (l : List ℕ) (i : ℕ) → i < length l → set (filled f i l) i (f i) ≡ filled f (i + 1) l
unfolding filled
filled_more f l i h =
    let e : i + 1 ≡ suc i = omega arith in
    let s : set (values f 0 i ++ (get_or l i 0 ∷ drop (suc i) l)) i (f i) ≡ values f 0 i ++ (f i ∷ drop (suc i) l) =
    set_at (values f 0 i) (get_or l i 0) (drop (suc i) l) (f i) i (length-values f 0 i) in
    let v : values f 0 i ++ (f i ∷ []) ≡ values f 0 (suc i) = rw (zero-add i) at (values-last f 0 i) in
    rw (e, drop-cons l i 0 h) (s ∙ sym (append_snoc (values f 0 i) (f i) (drop (suc i) l)) ∙ ap (λ (t : List ℕ). t ++ drop (suc i) l) v)

pub filled_none : (f : ℕ → ℕ) (l : List ℕ) → l ≡ filled f 0 l
unfolding filled
filled_none f l = refl

pub filled-all : (f : ℕ → ℕ) (i n : ℕ) (l : List ℕ) → i ≤ n → n ≤ i → filled f i l ≡ filled f n l
filled-all f i n l h k = let e : i ≡ n = omega arith in rw e

pub filled-front : (f : ℕ → ℕ) (n : ℕ) (l : List ℕ) → n ≤ length l → filled f (length (take n l)) (take n l) ++ drop n l ≡ filled f n l
unfolding filled
filled-front f n l h =
    let e : length (take n l) ≡ n = length-take-le n l h in
    rw (drop-length (take n l), e, append-nil)

pub filled-long : (f : ℕ → ℕ) (n : ℕ) (l : List ℕ) → n ≤ length l → n ≤ length (filled f (length (take n l)) (take n l) ++ drop n l)
unfolding filled
filled-long f n l h = rw (filled-front f n l h) (omega (arith, length-append (values f 0 n) (drop n l), length-values f 0 n))
