-- What the contract of emit_prologue rules out of its jump's record, whatever the flags: slot 0 as its maker, where there are slots; the
-- number of slots less one; a kind that is not a plain jump's.
use mathlib.Core.Path.{◌≡◌, refl}
use mathlib.Core.Logic.{◌≢◌}
use mathlib.Core.Bool.{Bool, true, false}
use mathlib.Core.List.{List, [], ◌∷◌}
use Prim.Native.Nat.{ℕ, ◌-◌}
use native.Mathlib.Omega.{arith}
use lib.ListN.{get_or}
use Rattle.x86.specs.Code.{kinds_of, conditional, plain_jump, local_call}
use Rattle.jit.specs.declared.Flags.{Flags}
use Rattle.jit.specs.Frame.{saves, packet_start, packet_end, argument, enter, prologue}
use Rattle.jit.proofs.FrameLaws.{prologue-targets}
use Rattle.jit_recording.specs.Emits.{Tables, Emits, HasEntry}
use Rattle.jit_recording.proofs.EmitsLaws.{entry}

-- the one jump that the prologue lists is the plain one behind its call, which is not listed
prologue-kinds : (f : Flags) → kinds_of (prologue f) ≡ plain_jump ∷ []
unfolding saves packet_start packet_end argument enter prologue
prologue-kinds f = by f.use_mbuff f.update_data_ptr
  where
    by : (a b : Bool) → kinds_of (prologue (record { use_mbuff = a; update_data_ptr = b })) ≡ plain_jump ∷ []
    by true true = refl
    by true false = refl
    by false b = refl

module _ {c c' : List ℕ} {t t' : Tables} {at' j' : ℕ} (f : Flags) (n : ℕ) (e : Emits c c' t t' 0 0 at' j' n (prologue f)) (h : HasEntry t 0) where
  pub made-by-a-slot : n ≢ 0 → (get_or t'.makers 0 0 ≡ 0 → ⊥) × (get_or t'.makers 0 0 ≡ n - 1 → ⊥)
  made-by-a-slot some =
      let m = entry (rw (prologue-targets f) at e.makers) h.maker in
      (λ z. omega (arith, z, m, some), λ z. omega (arith, z, m, some))

  pub of-another-kind : (get_or t'.kinds 0 0 ≡ conditional → ⊥) × (get_or t'.kinds 0 0 ≡ local_call → ⊥)
  of-another-kind =
      let k = entry (rw (prologue-kinds f) at e.kinds) h.kind in
      (λ z. omega (arith, z, k), λ z. omega (arith, z, k))
