use Rattle.listing_lines.specs.Lines.{bytecode_column, number_text, bytecode_line}
use Rattle.listing_lines.proofs.Padded.{padded}
use Rattle.text.proofs.SaysLaws.{then}
use Rattle.listing_lines.proofs.list_bytecode.Goals as goal

pub returns : goal.returns
unfolding number_text bytecode_line
returns c =
    let number = c.put_form-next.ensures in
    then number
    (then (padded bytecode_column number c.put_padding-next.ensures)
    (then c.put_slot-next.ensures c.finish.ensures))
