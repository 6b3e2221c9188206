use Prim.Native.Nat.{◌≤◌}
use lib.ListN.{drop}
use Rattle.text.proofs.SaysLaws.{Leads}
use Rattle.text.specs.Forms.{formed, formed_from}
use Rattle.text.proofs.form.put_form.Given as goal

abbrev pub invariant-loop-character : goal.invariant-loop-character
invariant-loop-character l =
    (l.k ≤ l.character-index)
    × Leads l.initial.out l.at (formed l.form l.numbers) l.out l.next (formed_from (drop l.character-index l.form) l.numbers l.k)
