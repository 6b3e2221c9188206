-- What the quick look at a slot tells, by its entry in the opcode table: its refusal, or that it is translated, that its code has so many
-- bytes at most, and that its jump, if it lists one, has a good target.
use Rattle.std.proofs.Common.{Option, Some, None, Result, Ok, Err}
use mathlib.Core.Path.{◌≡◌, ◌∙◌, refl, sym}
use mathlib.Core.Bool.{Bool, true, false}
use Prim.Native.Nat.{ℕ, ◌+◌, ◌*◌, ◌^◌}
use native.Mathlib.Omega.{arith}
use lib.Dec.{leb, ltb, eqb}
use borrow.Author.Tests.{eq-eqb, ne_eqb, eqb-true, eqb-false, leb-true, ltb-true, ltb-false}
use Rattle.base.specs.Pick.{pick}
use Rattle.ebpf.specs.Insn.{insn_at}
use Rattle.ebpf.specs.Opcode.{kind_of, source_of}
use Rattle.ebpf.specs.Kinds.{number_of, width_of, mul_of, condition_of, UNKNOWN, UNIMPLEMENTED, LD-DW-IMM, MULDIVMOD, LE, BE, JA, JUMP, CALL}
use Rattle.ebpf.specs.declared.insn.Insn.{Insn}
use Rattle.ebpf.specs.declared.kind.Kind.{Kind}
use Rattle.ebpf.specs.declared.kind.Kind.TheVariants.{LdAbs, LdInd, LdDwImm, LdReg, StImm, StReg, Alu, Shift, Neg, MulDivMod, Mov, Le, Be, Ja, Jump, Call, Exit}
use Rattle.ebpf.specs.declared.kind.Lookup.TheVariants.{Known}
use Rattle.jit.specs.declared.Refusal.{Refusal}
use Rattle.x86.specs.Code.{targets_of}
use Rattle.jit.specs.Room.{short_slot}
use Rattle.jit.specs.Slots.{target_of, slot_code}
use Rattle.jit.proofs.SlotSize.{most_of, slot-within}
use Rattle.jit.specs.Translation.{Filter, at, block_of, wide_kind, helper_of, swap_bits, le_bits, has, lacks, bad_in, stop, step_at}
use Rattle.jit_walk.specs.Operands.{operand_in}
use Rattle.jit_walk.proofs.Entries.{kind-some}
use Rattle.jit_lengths.specs.Lengths.{Ordinary}
use Rattle.jit_measuring.specs.declared.fits.Glance.{Glance}
use Rattle.jit_measuring.specs.declared.fits.Glance.TheVariants.{Narrow, Long, Wide, Lost}
use Rattle.jit_measuring.specs.Fits.{is_address, call_seen, Goes, Sees}
use Rattle.jit_measuring.proofs.Listed.{jump-lists, le-lists, swap-lists, helper-lists, local-lists, near-good, none-good, divide-good}
use Rattle.jit_measuring.proofs.Seen.{Seen, Entry, Kinded, kinded, read-there, read-torn, step_of}

module _ (filter : Filter) {n slot : ℕ} (s : Seen filter.program n slot) where
  abbrev i : Insn
  i = insn_at filter.program slot

  abbrev pub Saw : Result Glance Refusal → Type 0
  Saw g = Sees n slot (step_at filter slot) g

  -- a slot of a known kind, whose operand is there and whose targets are good
  goes : (k : Kind) (value : ℕ) → kind_of i.opc ≡ Known k → operand_in filter k slot i ≡ has value
      → bad_in n slot (targets_of (slot_code filter.mode k slot i value)) ≡ None → Goes n slot (step_at filter slot) (wide_kind k) (most_of k)
  goes k value e o g =
      record {
        block = block_of filter.mode k slot i value;
        step = sym (step_of filter s k e ∙ rw o);
        wide = refl;
        short = slot-within filter.mode k slot i value;
        good = g;
      }

  -- one whose operand is not
  stops : (k : Kind) (r : Refusal) → kind_of i.opc ≡ Known k → operand_in filter k slot i ≡ lacks r → stop r ≡ step_at filter slot
  stops k r e o = sym (step_of filter s k e ∙ rw o)

  pub saw-divide : Entry filter s MULDIVMOD → Saw (Ok Long)
  saw-divide e =
      let o = mul_of i.opc in
      let w = width_of i.opc in
      let x = source_of i.opc in
      goes (MulDivMod o w x) 0 (kind-some i.opc MULDIVMOD (λ z. omega (arith, z)) e) refl (divide-good filter.mode n slot o w x i s.below)

  -- the kinds without an arm of their own
  pub saw-plain : (x : ℕ) → Entry filter s x → ¬ (x ≡ UNKNOWN) → ¬ (x ≡ UNIMPLEMENTED) → ¬ (x ≡ MULDIVMOD) → Ordinary x → Saw (Ok Narrow)
  saw-plain x e u v d p = by (kinded filter s x e u v p)
    where
      narrow : (k : Kind) → Ordinary (number_of (Known k)) → ¬ (number_of (Known k) ≡ MULDIVMOD) → most_of k ≡ short_slot
      narrow (LdAbs z) q m = refl
      narrow (LdInd z) q m = refl
      narrow LdDwImm q m = refl
      narrow (LdReg z) q m = refl
      narrow (StImm z) q m = refl
      narrow (StReg z) q m = refl
      narrow (Alu o w y) q m = refl
      narrow (Shift o w y) q m = refl
      narrow (Neg w) q m = refl
      narrow (MulDivMod o w y) q m = absurd (m refl)
      narrow (Mov w y) q m = refl
      narrow Le q m = refl
      narrow Be q m = refl
      narrow Ja q m = refl
      narrow (Jump o w y) q m = refl
      narrow Call q m = absurd (q.calls refl)
      narrow Exit q m = refl

      by : Kinded filter s x → Saw (Ok Narrow)
      by k =
          let most = narrow k.kind (rw k.number at p) (rw k.number at d) in
          rw (k.plainly.narrow, most) at (goes k.kind 0 k.is k.plainly.takes k.plainly.good)

  -- a wide load's second half is there, or it is not
  pub saw-wide : (t : Bool) → t ≡ ltb (slot + 1) n → Entry filter s LD-DW-IMM
      → Saw (pick t (Ok Wide) (Err (Refusal.Torn (at slot))))
  saw-wide true q e =
      let second = read-there filter.program (slot + 1) (omega (arith, s.all, ltb-true (slot + 1) n (sym q))) in
      goes LdDwImm (i.imm + 2 ^ 32 * (insn_at filter.program (slot + 1)).imm) (kind-some i.opc LD-DW-IMM (λ z. omega (arith, z)) e)
      (rw second) refl
  saw-wide false q e =
      stops LdDwImm (Refusal.Torn (at slot)) (kind-some i.opc LD-DW-IMM (λ z. omega (arith, z)) e)
      (rw (read-torn filter.program (slot + 1) (omega (arith, s.all, ltb-false (slot + 1) n (sym q)))))

  pub saw-swap : (t : Bool) → t ≡ swap_bits i.imm → Entry filter s BE → Saw (pick t (Ok Narrow) (Err (Refusal.BadSwap (at slot))))
  saw-swap true q e =
      goes Be 0 (kind-some i.opc BE (λ z. omega (arith, z)) e) (rw (← q)) (none-good n slot (slot_code filter.mode Be slot i 0) (swap-lists i))
  saw-swap false q e = stops Be (Refusal.BadSwap (at slot)) (kind-some i.opc BE (λ z. omega (arith, z)) e) (rw (← q))

  pub saw-le : (t : Bool) → t ≡ le_bits filter.mode i.imm → Entry filter s LE → Saw (pick t (Ok Narrow) (Err (Refusal.BadSwap (at slot))))
  saw-le true q e =
      goes Le 0 (kind-some i.opc LE (λ z. omega (arith, z)) e) (rw (← q))
      (none-good n slot (slot_code filter.mode Le slot i 0) (le-lists filter.mode i))
  saw-le false q e = stops Le (Refusal.BadSwap (at slot)) (kind-some i.opc LE (λ z. omega (arith, z)) e) (rw (← q))

  pub saw-ja : (t : Bool) → t ≡ leb (target_of slot i.off) n → Entry filter s JA → Saw (Ok (pick t Narrow Lost))
  saw-ja false q e = tt
  saw-ja true q e =
      goes Ja 0 (kind-some i.opc JA (λ z. omega (arith, z)) e) refl
      (near-good n slot (target_of slot i.off) (slot_code filter.mode Ja slot i 0) refl (leb-true (target_of slot i.off) n (sym q)))

  pub saw-jump : (t : Bool) → t ≡ leb (target_of slot i.off) n → Entry filter s JUMP → Saw (Ok (pick t Narrow Lost))
  saw-jump false q e = tt
  saw-jump true q e =
      let o = condition_of i.opc in
      let w = width_of i.opc in
      let x = source_of i.opc in
      goes (Jump o w x) 0 (kind-some i.opc JUMP (λ z. omega (arith, z)) e) refl
      (near-good n slot (target_of slot i.off) (slot_code filter.mode (Jump o w x) slot i 0) (jump-lists o w x slot i) (leb-true (target_of slot i.off) n (sym q)))

  pub saw-call : Entry filter s CALL → Saw (call_seen filter.ids filter.addresses n slot i.src i.imm)
  saw-call e = by (eqb i.src 0) refl
    where
      is_call : kind_of i.opc ≡ Known Call
      is_call = kind-some i.opc CALL (λ z. omega (arith, z)) e

      helper : (h : Option ℕ) → helper_of filter.ids filter.addresses i.imm ≡ h → i.src ≡ 0
          → Saw (pick (is_address h) (Ok Long) (Err (Refusal.UnknownHelper (at slot))))
      helper (Some a) g z =
          goes Call a is_call (rw (eq-eqb _ _ z, g)) (none-good n slot (slot_code filter.mode Call slot i a) (helper-lists filter.mode slot i a z))
      helper None g z = stops Call (Refusal.UnknownHelper (at slot)) is_call (rw (eq-eqb _ _ z, g))

      near : (t : Bool) → leb (target_of slot i.imm) n ≡ t → ¬ (i.src ≡ 0) → eqb i.src 1 ≡ true → Saw (Ok (pick t Long Lost))
      near true q z f =
          goes Call 0 is_call (rw (ne_eqb _ _ z, f))
          (near-good n slot (target_of slot i.imm) (slot_code filter.mode Call slot i 0) (local-lists filter.mode slot i 0 z) (leb-true (target_of slot i.imm) n q))
      near false q z f = tt

      other : (x : Bool) → eqb i.src 1 ≡ x → ¬ (i.src ≡ 0)
          → Saw (pick x (Ok (pick (leb (target_of slot i.imm) n) Long Lost)) (Err (Refusal.BadCall (at slot))))
      other true f z = near (leb (target_of slot i.imm) n) refl z f
      other false f z = stops Call (Refusal.BadCall (at slot)) is_call (rw (ne_eqb _ _ z, f))

      by : (x : Bool) → eqb i.src 0 ≡ x
          → Saw (pick x (pick (is_address (helper_of filter.ids filter.addresses i.imm)) (Ok Long) (Err (Refusal.UnknownHelper (at slot))))
          (pick (eqb i.src 1) (Ok (pick (leb (target_of slot i.imm) n) Long Lost)) (Err (Refusal.BadCall (at slot)))))
      by true f = helper (helper_of filter.ids filter.addresses i.imm) refl (eqb-true i.src 0 f)
      by false f = other (eqb i.src 1) refl (eqb-false i.src 0 f)
