-- The lines of the help that explain a replay's options.
use Rattle.std.specs.Prelude.{List, [], ◌∷◌, ◌++◌, ℕ}
use Rattle.text.specs.Text.{ascii}
use Rattle.listing_options.specs.Help.{page_help, helpers_help}
use Rattle.listing_options.specs.declared.options.Program.TheVariants.{Replay}

abbrev newline : List ℕ
newline = 0x0a ∷ []

unfoldable pub options_help : List ℕ
options_help =
    page_help
    ++ (helpers_help Replay
    ++ ((ascii "  --write FILE         the kept packets, their records as they were, into FILE: a capture" ++ newline)
    ++ (ascii "  --help               this text" ++ newline)))
