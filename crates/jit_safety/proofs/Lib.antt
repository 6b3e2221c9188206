-- From the ground up: what is known of registers (Facts), code with notes (Cells), the two checks with their soundness (Flow, Depth), the
-- notes that code asks for (Notes) and that those of every slot pass (Checked), pieces of checked code (Pieces), the code of crate jit as such
-- pieces (NotedCode), what an accepted translation is made of (Program), the whole page (PageLayout), landing (Landing, and Shared, the
-- statement for every processor), and the proof (Proved). What demand 3 rules out by itself, so that none of its parts says nothing: Useless,
-- and by statement UselessReading, UselessLanding, UselessJumps, UselessRuns; and Rejected, code that is wrong in one thing. WorkedPage: the
-- page of the model's WorkedRun is one that demand 3 is about.
pub mod Facts
pub mod Cells
pub mod Flow
pub mod Depth
pub mod Notes
pub mod Checked
pub mod Pieces
pub mod NotedCode
pub mod Program
pub mod PageLayout
pub mod Landing
pub mod Shared
pub mod Proved
pub mod Useless
pub mod UselessReading
pub mod UselessLanding
pub mod UselessJumps
pub mod UselessRuns
pub mod Rejected
pub mod WorkedPage
pub mod ShorterForms
