-- Open Agrees first: it has the statement. Runs has the runs that it speaks of, Follows what comes of it slot after slot.
pub mod Runs
pub mod Agrees
pub mod Follows
