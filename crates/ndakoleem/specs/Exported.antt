-- What the exported function answers: all three demands, and that the code does what its slots say (`Promise`,
-- crates/jit_theorem/specs/Theorem.antt), of an answer whose four numbers are the struct's. No refusal has number 0, so where the number is
-- 0 the page that was written is read, lands, stays and returns as `Demand3` says, and in standard mode its slots do as `Agrees` says
-- (`safe` and `agrees`, proofs/ExportedLaws.antt).
use Rattle.std.specs.Prelude.{◌≡◌, ℕ, Ok, Err}
use Rattle.jit.specs.Refusals.{number_of, slot_of}
use Rattle.jit.specs.Translation.{Inputs}
use Rattle.jit_translate.specs.Translated.{Answer}
use Rattle.jit_theorem.specs.Theorem.{Buffers, Promise}
use Rattle.ndakoleem.specs.declared.Translation.{Translation}

-- the four numbers of an answer
abbrev pub number_in : Answer → ℕ
number_in (Ok a) = 0
number_in (Err r) = number_of r

abbrev pub slot_in : Answer → ℕ
slot_in (Ok a) = 0
slot_in (Err r) = slot_of r

abbrev pub length_in : Answer → ℕ
length_in (Ok a) = a.length
length_in (Err r) = 0

abbrev pub jumps_in : Answer → ℕ
jumps_in (Ok a) = a.jumps
jumps_in (Err r) = 0

-- THE CONTRACT, for the program, flags, helper lists and buffer lengths x, and what is lent at entry and at exit
pub record Exported (x : Inputs) (before after : Buffers) (r : Translation) : Type 0 where
  pub answer : Answer
  pub promise : Promise x before after answer
  pub number_is : r.number ≡ number_in answer
  pub slot_is : r.slot ≡ slot_in answer
  pub length_is : r.length ≡ length_in answer
  pub jumps_are : r.jumps ≡ jumps_in answer
