-- A number for each problem, in the order of src/lib.rt, by which two are told apart, and the words for it.
use Rattle.std.specs.Prelude.{List, [], ◌∷◌, ◌++◌, ℕ}
use Rattle.text.specs.Text.{ascii}
use Rattle.text.specs.Numerals.{decimal}
use Rattle.cases_problems.specs.declared.Problem.{Problem}
use Rattle.cases_problems.specs.declared.Problem.TheVariants.{End, Unreadable, Torn, TooLong}
use Rattle.cases_problems.specs.declared.Problem.TheVariants.{OtherFlags, ManyIds, ManyAddresses, LongProgram, Unfilled}
use Rattle.cases_problems.specs.declared.Problem.TheVariants.{WrongLengths, NoRoom}
use Rattle.cases_problems.specs.declared.Problem.TheVariants.{PageChanged, LocationsChanged, FieldsChanged, TargetsChanged, KindsChanged, MakersChanged}

abbrev pub problem_number : Problem → ℕ
problem_number End = 1
problem_number Unreadable = 2
problem_number Torn = 3
problem_number TooLong = 4
problem_number OtherFlags = 5
problem_number ManyIds = 6
problem_number ManyAddresses = 7
problem_number LongProgram = 8
problem_number Unfilled = 9
problem_number WrongLengths = 10
problem_number PageChanged = 11
problem_number LocationsChanged = 12
problem_number FieldsChanged = 13
problem_number TargetsChanged = 14
problem_number KindsChanged = 15
problem_number MakersChanged = 16
problem_number NoRoom = 17

abbrev pub changed_of : List ℕ → List ℕ
changed_of what = ascii ": the translator changed the " ++ (what ++ ascii " where it may not")

abbrev pub why_of : Problem → List ℕ
why_of End = ascii " is not there: the stream has ended"
why_of Unreadable = ascii " cannot be read"
why_of Torn = ascii " is malformed: the stream ends inside it"
why_of TooLong = ascii " is malformed: it is longer than the format allows"
why_of OtherFlags = ascii " is malformed: it has a flag other than bits 0, 1, 2, 3 and 7"
why_of ManyIds = ascii " is malformed: it has more than 512 helper ids"
why_of ManyAddresses = ascii " is malformed: it has more than 512 helper addresses"
why_of LongProgram = ascii " is malformed: its program is longer than 32768 bytes"
why_of Unfilled = ascii " is malformed: its parts do not fill its length"
why_of WrongLengths = ascii ": the translator answers lengths beyond what it was lent"
why_of PageChanged = changed_of (ascii "page")
why_of LocationsChanged = changed_of (ascii "location table")
why_of FieldsChanged = changed_of (ascii "jump field table")
why_of TargetsChanged = changed_of (ascii "jump target table")
why_of KindsChanged = changed_of (ascii "jump kind table")
why_of MakersChanged = changed_of (ascii "jump maker table")
why_of NoRoom = ascii ": there is no room for its answer"

-- the line that a program says: what it is about, its number from 0, and why
unfoldable pub report_of : List ℕ → ℕ → Problem → List ℕ
report_of what index problem = what ++ ((32 ∷ []) ++ (decimal index ++ (why_of problem ++ (10 ∷ []))))
