use Rattle.x86_reader.proofs.Unknown.{low-unknown}
use mathlib.Core.Path.{refl}
use Rattle.x86.specs.Decode.{opcode}
use Rattle.x86_reader.proofs.decode.low_opcode_at.Goals as goal

pub returns-in-1 : goal.returns-in-1
unfolding opcode
returns-in-1 c = rw c.in-1.is (c.alu_at.ensures _ (λ n d l. refl) (λ n b v l. refl))

pub returns-in-9 : goal.returns-in-9
unfolding opcode
returns-in-9 c = rw c.in-9.is (c.alu_at-in-9.ensures _ (λ n d l. refl) (λ n b v l. refl))

pub returns-in-33 : goal.returns-in-33
unfolding opcode
returns-in-33 c = rw c.in-33.is (c.alu_at-in-33.ensures _ (λ n d l. refl) (λ n b v l. refl))

pub returns-in-41 : goal.returns-in-41
unfolding opcode
returns-in-41 c = rw c.in-41.is (c.alu_at-in-41.ensures _ (λ n d l. refl) (λ n b v l. refl))

pub returns-in-49 : goal.returns-in-49
unfolding opcode
returns-in-49 c = rw c.in-49.is (c.alu_at-in-49.ensures _ (λ n d l. refl) (λ n b v l. refl))

pub returns-in-57 : goal.returns-in-57
unfolding opcode
returns-in-57 c = rw c.in-57.is (c.alu_at-in-57.ensures _ (λ n d l. refl) (λ n b v l. refl))

pub returns-in_default : goal.returns-in_default
returns-in_default c = low-unknown _ _ _ c.requires c.in_default.in_default-own.rest
