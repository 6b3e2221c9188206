use Rattle.x86_forms.proofs.ByRex.{load_word}
use Rattle.x86_reader.proofs.decode.load_word_at.Goals as goal

pub returns : goal.returns
returns c =
    let args = c.args in
    load_word _ _ _ _ args.code.now args.at _ _ c.size_of.ensures c.load_at.ensures
