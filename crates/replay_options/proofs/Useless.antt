-- Words of a replay, and wrong answers that the contract of `word_of` shuts out.
use mathlib.Core.Path.{◌≡◌, refl}
use Prim.Native.Nat.{ℕ}
use native.Mathlib.Omega.{arith}
use Rattle.text.specs.Text.{ascii}
use Rattle.listing_arguments.specs.Arguments as arguments
use Rattle.replay_options.specs.declared.words.Word.TheVariants.{WriteNext, Name, Common}
use Rattle.replay_options.specs.Words.{word_of}

pub known : (word_of (ascii "--write") ≡ WriteNext) × ((word_of (ascii "-") ≡ Name) × (word_of (ascii "trace.pcap") ≡ Name))
unfolding word_of arguments.word_of
known = (refl, (refl, refl))

-- a flag let through as if a replay had it; an option that is not known taken for a name
pub flag-let-through : word_of (ascii "--mbuff") ≡ Common → ⊥
unfolding word_of arguments.word_of
flag-let-through e = let z : ◌≡◌ {A = ℕ} 0 1 = cc in omega arith

pub option-a-name : word_of (ascii "--wirte") ≡ Name → ⊥
unfolding word_of arguments.word_of
option-a-name e = let z : ◌≡◌ {A = ℕ} 0 1 = cc in omega arith
