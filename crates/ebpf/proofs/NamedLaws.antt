-- The laws of specs/Named.antt.
use Rattle.std.proofs.Common.{◌≡◌, ℕ, ◌<◌, eqb, List, [], ◌∷◌, refl}
use Rattle.base.specs.Pick.{pick}
use Rattle.base.specs.Cases.{Arm, ◌⇒◌}
use Rattle.base.proofs.Table.{agree}
use Rattle.base.specs.Table.{values}
use Rattle.ebpf.specs.declared.kind.Lookup.{Lookup}
use Rattle.ebpf.specs.declared.kind.Lookup.TheVariants.{Known, Unimplemented, Unknown}
use Rattle.ebpf.specs.Opcode.{kind_of}
use Rattle.ebpf.specs.Named.{named}

-- what the names of an opcode say
abbrev pub said : List (Arm Lookup) → ℕ → List Lookup
said [] o = []
said (n ⇒ l ∷ r) o = pick (eqb o n) (l ∷ said r o) (said r o)

-- what is to be said of an opcode: its kind, once, or nothing where it is unknown
abbrev pub once : Lookup → List Lookup
once (Known k) = Known k ∷ []
once Unimplemented = Unimplemented ∷ []
once Unknown = []

-- the test, computed over all 256 opcodes
says : values (said named) 0 256 ≡ values (λ o. once (kind_of o)) 0 256
unfolding kind_of
says = refl

-- THE LAW: an opcode that is not unknown has one name, which says its kind, and an unknown one has none. So no two names have one byte.
pub named-once : (o : ℕ) → o < 256 → said named o ≡ once (kind_of o)
named-once o h = agree (said named) (λ o. once (kind_of o)) 256 says o h
