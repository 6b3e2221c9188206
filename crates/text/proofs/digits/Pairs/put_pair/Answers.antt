use Rattle.text.proofs.DigitsLaws.{pair-stored}
use Rattle.text.proofs.digits.Pairs.put_pair.Goals as goal

pub returns : goal.returns
returns c =
    let a = c.args in
    let asked = c.requires.both in
    pair-stored a.base asked.0 asked.1.0 a.both asked.1.1 a.out.now a.self.now.table a.at a.self.now.whole
