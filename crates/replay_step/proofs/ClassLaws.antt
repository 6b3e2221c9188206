-- What a slot does, class by class: that a table's entry for the operation is what the opcode's kind does.
use Rattle.std.proofs.Common.{◌≡◌, ℕ, zero, suc, ◌+◌, ◌*◌, ◌/◌, ◌%◌, ◌^◌, ◌<◌, ◌≤◌, Bool, true, false, eqb, List, [], ◌∷◌, length, get_or, set, sym, refl, ap, ◌∙◌, subst, arith, get_or-set_other, eq-eqb, ne_eqb, eqb-true}
use Rattle.base.specs.Pick.{pick}
use Rattle.base.specs.declared.Width.{Width}
use Rattle.base.specs.declared.Width.TheVariants.{W32, W64}
use Rattle.ebpf.specs.Insn.{insn_at, le4}
use Rattle.ebpf.specs.Opcode.{kind_of, source_of, size_of, mode_of, arithmetic, jumps, mem, stx, ld}
use Rattle.ebpf.specs.declared.insn.Insn.{Insn}
use Rattle.ebpf.specs.declared.kind.Source.{Source}
use Rattle.ebpf.specs.declared.kind.Source.TheVariants.{Imm, Reg}
use Rattle.ebpf.specs.declared.kind.AluOp.TheVariants.{Add, Sub, Or, And, Xor}
use Rattle.ebpf.specs.declared.kind.ShiftOp.TheVariants.{Lsh, Rsh, Arsh}
use Rattle.ebpf.specs.declared.kind.MulOp.TheVariants.{Mul, Div, Mod}
use Rattle.ebpf.specs.declared.kind.Condition.{Condition}
use Rattle.ebpf.specs.declared.kind.Condition.TheVariants.{Jeq, Jgt, Jge, Jset, Jne, Jsgt, Jsge, Jlt, Jle, Jslt, Jsle}
use Rattle.ebpf.specs.declared.kind.Kind.{Kind}
use Rattle.ebpf.specs.declared.kind.Kind.TheVariants.{LdAbs, LdInd, LdDwImm, LdReg, StImm, StReg, Alu, Shift, Neg, MulDivMod, Mov, Le, Be, Ja, Jump, Call, Exit}
use Rattle.ebpf.specs.declared.kind.Lookup.{Lookup}
use Rattle.ebpf.specs.declared.kind.Lookup.TheVariants.{Known, Unimplemented, Unknown}
use Rattle.ebpf_meaning.specs.Step.{dst_of, src_of}
use Rattle.ebpf_meaning.specs.Values.{met}
use Rattle.replay.specs.Memory.{State}
use Rattle.replay.specs.Run.{Turn, goes, does, with_regs, loads, stores, place_in}
use Rattle.replay_slots.specs.Codes.{code_of}
use Rattle.replay_step.specs.Classes.{values, value_by, swap_by, conditions, taken_by, raised}
use Rattle.replay_step.specs.Steps.{target, next_by}
use Rattle.replay_step.proofs.CodeLaws.{one-kind, unknown, unimplemented}
use Rattle.replay_step.proofs.NumberLaws.{met-raised, imm_cut}

-- A table of kinds beside a table of what each comes to: what holds entry by entry holds at every place.
module _ {A : Type 0} (d : A) (P : Kind → A → Type 0) where
  abbrev pub Fits : Lookup → A → Type 0
  Fits l v = (k : Kind) → l ≡ Known k → P k v

  abbrev pub Each : List Lookup → List A → Type 0
  Each [] vs = Unit {0}
  Each (l ∷ ls) [] = Fits l d × Each ls []
  Each (l ∷ ls) (v ∷ vs) = Fits l v × Each ls vs

  pub each_at : (ls : List Lookup) (vs : List A) → Each ls vs → (n : ℕ) → Fits (get_or ls n Unknown) (get_or vs n d)
  each_at [] vs e n = λ k q. absurd (unknown q)
  each_at (l ∷ ls) [] e zero = e.0
  each_at (l ∷ ls) [] e (suc n) = each_at ls [] e.1 n
  each_at (l ∷ ls) (v ∷ vs) e zero = e.0
  each_at (l ∷ ls) (v ∷ vs) e (suc n) = each_at ls vs e.1 n

  pub one : (j : Kind) (v : A) → P j v → Fits (Known j) v
  one j v p k e = subst (λ (x : Kind). P x v) (one-kind e) p

  pub none : (v : A) → Fits Unknown v
  none v k e = absurd (unknown e)

  pub neither : (v : A) → Fits Unimplemented v
  neither v k e = absurd (unimplemented e)

  pub one_of : (t : Bool) (l m : Lookup) (v : A) → Fits l v → Fits m v → Fits (pick t l m) v
  one_of true l m v f g = f
  one_of false l m v f g = g

-- the tables of RFC 9669, as `kind_of` has them
abbrev arithmetic_kinds : Width → (swap : Lookup) → (code : ℕ) → List Lookup
arithmetic_kinds w swap code =
    let x = source_of code in
    Known (Alu Add w x)
    ∷ Known (Alu Sub w x)
    ∷ Known (MulDivMod Mul w x)
    ∷ Known (MulDivMod Div w x)
    ∷ Known (Alu Or w x)
    ∷ Known (Alu And w x)
    ∷ Known (Shift Lsh w x)
    ∷ Known (Shift Rsh w x)
    ∷ pick (eqb (code / 8 % 2) 0) (Known (Neg w)) Unknown
    ∷ Known (MulDivMod Mod w x)
    ∷ Known (Alu Xor w x)
    ∷ Known (Mov w x)
    ∷ Known (Shift Arsh w x)
    ∷ swap
    ∷ []

abbrev jump_kinds : Width → (ja call exit : Lookup) → (code : ℕ) → List Lookup
jump_kinds w ja call exit code =
    let x = source_of code in
    ja
    ∷ Known (Jump Jeq w x)
    ∷ Known (Jump Jgt w x)
    ∷ Known (Jump Jge w x)
    ∷ Known (Jump Jset w x)
    ∷ Known (Jump Jne w x)
    ∷ Known (Jump Jsgt w x)
    ∷ Known (Jump Jsge w x)
    ∷ call
    ∷ exit
    ∷ Known (Jump Jlt w x)
    ∷ Known (Jump Jle w x)
    ∷ Known (Jump Jslt w x)
    ∷ Known (Jump Jsle w x)
    ∷ []

-- a kind by its class
module _ (code : ℕ) {k : Kind} (e : kind_of code ≡ Known k) where
  pub class-1 : code % 8 ≡ 1 → mem code (Known (LdReg (size_of code))) ≡ Known k
  unfolding kind_of
  class-1 h = rw h at e

  pub class-2 : code % 8 ≡ 2 → mem code (Known (StImm (size_of code))) ≡ Known k
  unfolding kind_of
  class-2 h = rw h at e

  pub class-3 : code % 8 ≡ 3 → stx code ≡ Known k
  unfolding kind_of
  class-3 h = rw h at e

  pub class-4 : code % 8 ≡ 4 → arithmetic W32 (pick (eqb (code / 8 % 2) 0) (Known Le) (Known Be)) code ≡ Known k
  unfolding kind_of
  class-4 h = rw h at e

  pub class-5 : code % 8 ≡ 5
      → jumps W64 (pick (eqb (code / 8 % 2) 0) (Known Ja) Unknown) (pick (eqb (code / 8 % 2) 0) (Known Call) Unimplemented)
      (pick (eqb (code / 8 % 2) 0) (Known Exit) Unknown) code ≡ Known k
  unfolding kind_of
  class-5 h = rw h at e

  pub class-6 : code % 8 ≡ 6 → jumps W32 Unknown Unknown Unknown code ≡ Known k
  unfolding kind_of
  class-6 h = rw h at e

  pub class-7 : code % 8 ≡ 7 → arithmetic W64 Unknown code ≡ Known k
  unfolding kind_of
  class-7 h = rw h at e

module _ (i : Insn) (upper slot : ℕ) (s : State) where
  -- what a slot that writes a value does
  abbrev pub Writes : Kind → (value : ℕ) → Type 0
  Writes k v = does k i upper slot s ≡ goes (slot + 1) (with_regs s (set s.regs i.dst v))

  -- arithmetic that is no swap, at either width
  pub computes : (w : Width) (code : ℕ) {k : Kind} → arithmetic w Unknown code ≡ Known k
      → Writes k (value_by w (code / 16) (dst_of w i s.regs) (src_of w (source_of code) i s.regs))
  computes w code {k} e = each_at 0 Writes (arithmetic_kinds w Unknown code) (values w a b) entries (code / 16) k e
    where
      x : Source
      x = source_of code

      a : ℕ
      a = dst_of w i s.regs

      b : ℕ
      b = src_of w x i s.regs

      entries : Each 0 Writes (arithmetic_kinds w Unknown code) (values w a b)
      entries = (
        one 0 Writes (Alu Add w x) _ refl,
        (
          one 0 Writes (Alu Sub w x) _ refl,
          (
            one 0 Writes (MulDivMod Mul w x) _ refl,
            (
              one 0 Writes (MulDivMod Div w x) _ refl,
              (
                one 0 Writes (Alu Or w x) _ refl,
                (
                  one 0 Writes (Alu And w x) _ refl,
                  (
                    one 0 Writes (Shift Lsh w x) _ refl,
                    (
                      one 0 Writes (Shift Rsh w x) _ refl,
                      (
                        one_of 0 Writes (eqb (code / 8 % 2) 0) _ _ _ (one 0 Writes (Neg w) _ refl) (none 0 Writes _),
                        (
                          one 0 Writes (MulDivMod Mod w x) _ refl,
                          (
                            one 0 Writes (Alu Xor w x) _ refl,
                            (
                              one 0 Writes (Mov w x) _ refl,
                              (
                                one 0 Writes (Shift Arsh w x) _ refl,
                                (none 0 Writes _, tt),
                              ),
                            ),
                          ),
                        ),
                      ),
                    ),
                  ),
                ),
              ),
            ),
          ),
        ),
      )

  -- class ALU where the operation is no swap: what a swap would be does not count
  pub computes-low : (sw : Lookup) (code : ℕ) {k : Kind} → arithmetic W32 sw code ≡ Known k → ¬ (code / 16 ≡ 13)
      → Writes k (value_by W32 (code / 16) (dst_of W32 i s.regs) (src_of W32 (source_of code) i s.regs))
  computes-low sw code {k} e n = computes W32 code (same ∙ e)
    where
      same : arithmetic W32 Unknown code ≡ arithmetic W32 sw code
      same = sym (get_or-set_other (arithmetic_kinds W32 Unknown code) 13 (code / 16) sw Unknown n)

  -- a swap
  pub swaps : (code : ℕ) {k : Kind} → arithmetic W32 (pick (eqb (code / 8 % 2) 0) (Known Le) (Known Be)) code ≡ Known k → code / 16 ≡ 13
      → Writes k (swap_by (source_of code) i.imm (dst_of W64 i s.regs))
  swaps code {k} e n = by (eqb (code / 8 % 2) 0) (rw n at e)
    where
      by : (t : Bool) → pick t (Known Le) (Known Be) ≡ Known k → Writes k (swap_by (pick t Imm Reg) i.imm (dst_of W64 i s.regs))
      by true q = one 0 Writes Le _ refl k q
      by false q = one 0 Writes Be _ refl k q

  -- what a jump does whose code is its opcode: CALL and EXIT have another
  abbrev pub Branches : (code : ℕ) → Kind → (taken : Bool) → Type 0
  Branches code k t = code_of (Known k) code ≡ code → does k i upper slot s ≡ goes (pick t (target i slot) (slot + 1)) s

  module _ (code : ℕ) where
    other : (v : Bool) (k : Kind) {number : ℕ} → code_of (Known k) code ≡ number → number % 8 ≡ 0 → ¬ (code % 8 ≡ 0) → Branches code k v
    other v k c z n e = absurd (n (sym (ap (λ (x : ℕ). x % 8) (sym c ∙ e)) ∙ z))

    pub jumps-64 : code % 8 ≡ 5 → {k : Kind}
        → jumps W64 (pick (eqb (code / 8 % 2) 0) (Known Ja) Unknown) (pick (eqb (code / 8 % 2) 0) (Known Call) Unimplemented)
        (pick (eqb (code / 8 % 2) 0) (Known Exit) Unknown) code ≡ Known k
        → Branches code k (taken_by (code / 16) (dst_of W64 i s.regs) (src_of W64 (source_of code) i s.regs))
    jumps-64 c {k} e = each_at true (Branches code) kinds (conditions a b) entries (code / 16) k e
      where
        a : ℕ
        a = dst_of W64 i s.regs

        b : ℕ
        b = src_of W64 (source_of code) i s.regs

        u : Bool
        u = eqb (code / 8 % 2) 0

        n : ¬ (code % 8 ≡ 0)
        n z = omega (arith, c, z)

        cond : (j : Condition) → Fits true (Branches code) (Known (Jump j W64 (source_of code))) (met j W64 a b)
        cond j = one true (Branches code) (Jump j W64 (source_of code)) (met j W64 a b) (λ q. refl)

        kinds : List Lookup
        kinds = jump_kinds W64 (pick u (Known Ja) Unknown) (pick u (Known Call) Unimplemented) (pick u (Known Exit) Unknown) code

        entries : Each true (Branches code) kinds (conditions a b)
        entries = (
          one_of true (Branches code) u _ _ true (one true (Branches code) Ja true (λ q. refl)) (none true (Branches code) true),
          (
            cond Jeq,
            (
              cond Jgt,
              (
                cond Jge,
                (
                  cond Jset,
                  (
                    cond Jne,
                    (
                      cond Jsgt,
                      (
                        cond Jsge,
                        (
                          one_of true (Branches code) u _ _ true (one true (Branches code) Call true (other true Call refl refl n)) (neither true (Branches code) true),
                          (
                            one_of true (Branches code) u _ _ true (one true (Branches code) Exit true (other true Exit refl refl n)) (none true (Branches code) true),
                            (
                              cond Jlt,
                              (
                                cond Jle,
                                (
                                  cond Jslt,
                                  (
                                    cond Jsle,
                                    tt,
                                  ),
                                ),
                              ),
                            ),
                          ),
                        ),
                      ),
                    ),
                  ),
                ),
              ),
            ),
          ),
        )

    -- at 32 bits, with the operands moved up
    source-cut : i.imm < 2 ^ 32 → (x : Source) → src_of W32 x i s.regs ≡ src_of W64 x i s.regs % 2 ^ 32
    source-cut h Imm = imm_cut i.imm h
    source-cut h Reg = omega arith

    pub jumps-32 : i.imm < 2 ^ 32 → {k : Kind} → jumps W32 Unknown Unknown Unknown code ≡ Known k
        → Branches code k (taken_by (code / 16) (raised (get_or s.regs i.dst 0)) (raised (src_of W64 (source_of code) i s.regs)))
    jumps-32 h {k} e = each_at true (Branches code) (jump_kinds W32 Unknown Unknown Unknown code) (conditions a b) entries (code / 16) k e
      where
        y : ℕ
        y = src_of W64 (source_of code) i s.regs

        a : ℕ
        a = raised (get_or s.regs i.dst 0)

        b : ℕ
        b = raised y

        cond : (j : Condition) → Fits true (Branches code) (Known (Jump j W32 (source_of code))) (met j W64 a b)
        cond j =
            one true (Branches code) (Jump j W32 (source_of code)) (met j W64 a b)
            (λ q. rw (source-cut h (source_of code), met-raised j (get_or s.regs i.dst 0) y))

        entries : Each true (Branches code) (jump_kinds W32 Unknown Unknown Unknown code) (conditions a b)
        entries = (
          none true (Branches code) true,
          (
            cond Jeq,
            (
              cond Jgt,
              (
                cond Jge,
                (
                  cond Jset,
                  (
                    cond Jne,
                    (
                      cond Jsgt,
                      (
                        cond Jsge,
                        (
                          none true (Branches code) true,
                          (
                            none true (Branches code) true,
                            (
                              cond Jlt,
                              (
                                cond Jle,
                                (
                                  cond Jslt,
                                  (
                                    cond Jsle,
                                    tt,
                                  ),
                                ),
                              ),
                            ),
                          ),
                        ),
                      ),
                    ),
                  ),
                ),
              ),
            ),
          ),
        )

-- the kinds of loads and stores
pub is-load : (code : ℕ) {k : Kind} → mem code (Known (LdReg (size_of code))) ≡ Known k → LdReg (size_of code) ≡ k
is-load code {k} e = by (eqb (mode_of code) 3) e
  where
    by : (t : Bool) → pick t (Known (LdReg (size_of code))) Unknown ≡ Known k → LdReg (size_of code) ≡ k
    by true q = one-kind q
    by false q = absurd (unknown q)

pub is-store-imm : (code : ℕ) {k : Kind} → mem code (Known (StImm (size_of code))) ≡ Known k → StImm (size_of code) ≡ k
is-store-imm code {k} e = by (eqb (mode_of code) 3) e
  where
    by : (t : Bool) → pick t (Known (StImm (size_of code))) Unknown ≡ Known k → StImm (size_of code) ≡ k
    by true q = one-kind q
    by false q = absurd (unknown q)

pub is-store-reg : (code : ℕ) {k : Kind} → stx code ≡ Known k → StReg (size_of code) ≡ k
is-store-reg code {k} e = by (eqb (mode_of code) 6) (eqb (mode_of code) 3) e
  where
    atomic : (n : ℕ) → get_or (Unimplemented ∷ Unknown ∷ Unknown ∷ Unimplemented ∷ []) n Unknown ≡ Known k → ⊥
    atomic zero q = unimplemented q
    atomic (suc zero) q = unknown q
    atomic (suc (suc zero)) q = unknown q
    atomic (suc (suc (suc zero))) q = unimplemented q
    atomic (suc (suc (suc (suc n)))) q = unknown q

    by : (t u : Bool)
        → pick t (get_or (Unimplemented ∷ Unknown ∷ Unknown ∷ Unimplemented ∷ []) (code / 8 % 4) Unknown) (pick u (Known (StReg (size_of code))) Unknown) ≡ Known k
        → StReg (size_of code) ≡ k
    by true u q = absurd (atomic (code / 8 % 4) q)
    by false true q = one-kind q
    by false false q = absurd (unknown q)
