-- How long a line's text is, whatever it says: two numbers, a name, two spaces and the line's end.
use Rattle.std.specs.Prelude.{ℕ, ◌+◌}
use Rattle.text.specs.Numerals.{most_digits}

abbrev pub any_line : ℕ
any_line = most_digits + most_digits + (5 + most_digits) + 3
