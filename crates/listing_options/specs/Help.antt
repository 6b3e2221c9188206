-- What the programs say of their arguments: the lines of the help that explain the options, and the sentence for what is wrong.
use Rattle.std.specs.Prelude.{List, [], ◌∷◌, ◌++◌, ℕ}
use Rattle.jit.specs.Limits.{shortest_page, longest_page, most_helpers}
use Rattle.text.specs.Text.{ascii}
use Rattle.text.specs.Forms.{formed}
use Rattle.listing_options.specs.declared.options.Program.{Program}
use Rattle.listing_options.specs.declared.options.Program.TheVariants.{Listing, Map, Maps, Replay}

abbrev newline : List ℕ
newline = 0x0a ∷ []

-- the end of a line, which says more where the program is the listing
abbrev pub end_of : Program → (more : List ℕ) → List ℕ
end_of Listing more = more ++ newline
end_of Map more = newline
end_of Maps more = newline
end_of Replay more = newline

unfoldable pub flags_help : Program → List ℕ
flags_help program =
    (ascii "  --mbuff              the flag use_mbuff" ++ newline)
    ++ ((ascii "  --update-data-ptr    the flag update_data_ptr" ++ newline)
    ++ ((ascii "  --standard           standard mode: MOV32_REG, MOD32 by zero and LE as in RFC 9669, all else as in rbpf" ++ newline)
    ++ (ascii "  --compact            compact constants: 0 to 4294967295 in five or six bytes"
    ++ end_of program (ascii "; the last line says what that saves"))))

unfoldable pub page_help : List ℕ
page_help =
    formed (ascii "  --page N             a page of N bytes, # to # (# unless said)" ++ newline) (shortest_page ∷ longest_page ∷ shortest_page ∷ [])

unfoldable pub helpers_help : Program → List ℕ
helpers_help program =
    formed (ascii "  --helper ID          the filter may call helper ID; up to # times" ++ newline) (most_helpers ∷ [])
    ++ (formed (ascii "  --helper ID=ADDRESS  and the page calls it at ADDRESS (0x$ unless said)") (0x7f0000000000 ∷ [])
    ++ end_of program (ascii ", which the listing shows where it is loaded"))

unfoldable pub options_help : Program → List ℕ
options_help program = flags_help program ++ (page_help ++ (helpers_help program ++ (ascii "  --help               this text" ++ newline)))

-- the program's name, what is wrong, and the word with which it is so
abbrev pub name_of : Program → List ℕ
name_of Listing = ascii "listing: "
name_of Map = ascii "map: "
name_of Maps = ascii "maps: "
name_of Replay = ascii "replay: "

unfoldable pub complaint : Program → (what word : List ℕ) → List ℕ
complaint program what word = name_of program ++ (what ++ (word ++ (ascii " (--help explains the arguments)" ++ newline)))
