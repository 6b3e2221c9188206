-- The laws of specs/Code.antt: crate code's, of this processor.
use mathlib.Core.Path.{◌≡◌, refl}
use mathlib.Core.List.{List, [], ◌∷◌, ◌++◌}
use Prim.Native.Nat.{ℕ, ◌+◌, ◌<◌, ◌^◌}
use native.Mathlib.Omega.{arith}
use lib.ListN.{length, length-append}
use Rattle.code.proofs.Lawful.{Lawful}
use Rattle.code.proofs.CodeLaws as code
use Rattle.code.proofs.JumpsLaws as jumps
pub use Rattle.code.proofs.CodeLaws.{targets-append}
pub use Rattle.code.proofs.JumpsLaws.{each_append, length-each, made-snoc, length-made}
use Rattle.x86.specs.Instr.{Instr, Jump}
use Rattle.x86.specs.Encode.{isa, encode, len, rex, modrm}
use Rattle.x86.specs.Code.{Dest, map_i, size, targets_of, kinds_of}
use Rattle.x86.specs.Lowered.{lowered, bytes, fields_of}
use Rattle.x86.specs.Fill.{blanks}

-- what crate code asks of an encoding
call_length : (r : ℕ) → length (rex 0 0 r ++ (0xff ∷ modrm 3 2 r ∷ [])) ≡ length (rex 0 0 r) + 2
call_length r = length-append (rex 0 0 r) _

no_distance : (j : Jump) → 0 < 2 ^ 32
no_distance j = omega arith

distance-only : (j : Jump) (x : ℕ) → x ≡ x
distance-only j x = refl

pub lawful : Lawful isa
lawful = record { through-length = call_length; word_lt = no_distance; patch-word = distance-only }

-- lengths
pub len-map : {A B : Type 0} (f : A → B) (i : Instr A) → len (map_i f i) ≡ len i
len-map = code.len-map isa

pub len-encode : (i : Instr ℕ) → length (encode i) ≡ len i
len-encode = code.len-encode lawful

-- an instruction's bytes are as many, whatever its jump carries
pub len-any : {A : Type 0} (f : A → ℕ) (i : Instr A) → length (encode (map_i f i)) ≡ len i
len-any = code.len-any lawful

pub length-blanks : (is : List (Instr Dest)) → length (blanks is) ≡ size is
length-blanks = code.length-blanks lawful

pub length-bytes : (loc : ℕ → ℕ) (p : ℕ) (is : List (Instr Dest)) → length (bytes (lowered loc p is)) ≡ size is
length-bytes = code.length-bytes lawful

-- one list behind another
pub size-append : (a b : List (Instr Dest)) → size (a ++ b) ≡ size a + size b
size-append = code.size-append isa

pub blanks-append : (a b : List (Instr Dest)) → blanks (a ++ b) ≡ blanks a ++ blanks b
blanks-append = code.blanks-append isa

pub fields-append : (p : ℕ) (a b : List (Instr Dest)) → fields_of p (a ++ b) ≡ fields_of p a ++ fields_of (p + size a) b
fields-append = code.fields-append isa

pub kinds-append : (a b : List (Instr Dest)) → kinds_of (a ++ b) ≡ kinds_of a ++ kinds_of b
kinds-append = jumps.kinds-append isa

-- as many fields, and as many kinds, as targets
pub length_fields : (p : ℕ) (is : List (Instr Dest)) → length (fields_of p is) ≡ length (targets_of is)
length_fields = code.length_fields isa

pub length-kinds : (is : List (Instr Dest)) → length (kinds_of is) ≡ length (targets_of is)
length-kinds = jumps.length-kinds isa
