use Rattle.cases_problems.proofs.put_why.Goals as goal

pub returns-in-End : goal.returns-in-End
returns-in-End c = rw c.in-End.is c.put_text.ensures

pub returns-in-WrongLengths : goal.returns-in-WrongLengths
returns-in-WrongLengths c = rw c.in-WrongLengths.is c.put_text-in-WrongLengths.ensures
