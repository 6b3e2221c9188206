-- What a line's text is made of (LineLaws); what perf reads in the text of lines (PerfLaws), that the lines of a page tile it (TilesLaws), and
-- both together: the map of a page, read back, names the piece that each byte is of (ReadBackLaws). What follows from that statement,
-- whatever the text (NamesLaws), and wrong texts that it shuts out (Useless).
pub mod LineLaws
pub mod PerfLaws
pub mod TilesLaws
pub mod ReadBackLaws
pub mod NamesLaws
pub mod Useless
