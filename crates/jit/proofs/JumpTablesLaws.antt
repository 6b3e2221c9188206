-- Of the two further tables demand 2's part of the outcome sees one thing, whether they are long enough: the code, the locations, the fields,
-- the targets and every refusal are the same whatever their lengths are, once each has an entry for each slot, and one.
use mathlib.Core.Path.{◌≡◌, refl}
use Prim.Native.Nat.{ℕ, ◌<◌}
use Rattle.base.proofs.Tests.{leb-false}
use Rattle.jit.specs.Translation.{Inputs, slots_of, sizes_of, translation_of}

-- what is asked, with tables of other lengths
abbrev pub lent : Inputs → (kinds makers : ℕ) → Inputs
lent x kinds makers =
    record {
      filter = x.filter;
      flags = x.flags;
      page = x.page;
      locations = x.locations;
      fields = x.fields;
      targets = x.targets;
      kinds = kinds;
      makers = makers;
    }

pub same_outcome : (x : Inputs) (kinds makers : ℕ) → let n = slots_of x.filter.program in
    n < x.kinds → n < x.makers → n < kinds → n < makers → translation_of (lent x kinds makers) ≡ translation_of x
unfolding translation_of sizes_of
same_outcome x kinds makers a b c d =
    let n = slots_of x.filter.program in
    rw (leb-false x.kinds n a, leb-false x.makers n b, leb-false kinds n c, leb-false makers n d) refl
