-- What a whole record is, and what holds of all records of bytes (CaptureLaws); a loop that reads them at a place of a window, and window
-- behind window (WindowLaws); captures that are written and read back, in either order of bytes (WrittenLaws); worked captures (Worked); and
-- wrong readers refuted (Useless).
pub mod CaptureLaws
pub mod WindowLaws
pub mod WrittenLaws
pub mod Worked
pub mod Useless
