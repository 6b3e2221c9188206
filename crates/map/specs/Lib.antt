-- How perf reads a map (Perf), a map's text (MapText), and what it says when it is read (ReadBack).
pub mod Perf
pub mod MapText
pub mod ReadBack
pub mod Room
