use Rattle.std.proofs.Common.{◌≡◌, ◌≢◌, ℕ, ◌<◌, List, get_or, length, take, sym, ◌∙◌, arith, rules}
use lib.Seq.{get_or-take}
use Rattle.jit.specs.Translation.{slots_of}
use Rattle.replay_slots.specs.Codes.{not_modelled_code}
use Rattle.replay_slots.proofs.ModelledLaws.{first-found, none-found}
use Rattle.replay_slots.proofs.all_modelled.Goals as goal

pub returns-in-Some : goal.returns-in-Some
returns-in-Some c =
    let codes = c.args.codes.now in
    let n = slots_of c.args.prog.now in
    let i = c.in-Some.number in
    let entry = c.requires.0.entries in
    let inside : i < n = search rules in
    let here : get_or (take n codes) i 0 ≡ not_modelled_code = search rules in
    let ahead : (k : ℕ) → k < i → get_or (take n codes) k 0 ≢ not_modelled_code = search rules in
    first-found c.args.prog.now n i inside (sym (entry i inside) ∙ (sym (get_or-take n codes i 0 inside) ∙ here))
    (λ k l e. let m : k < n = omega arith in ahead k l (get_or-take n codes k 0 m ∙ (entry k m ∙ e)))

pub returns-in-None : goal.returns-in-None
returns-in-None c =
    let codes = c.args.codes.now in
    let n = slots_of c.args.prog.now in
    let none : (k : ℕ) → k < length (take n codes) → get_or (take n codes) k 0 ≢ not_modelled_code = search rules in
    let entry = c.requires.0.entries in
    none-found c.args.prog.now n
    (λ k l e. none k (search rules) (get_or-take n codes k 0 l ∙ (entry k l ∙ e)))
