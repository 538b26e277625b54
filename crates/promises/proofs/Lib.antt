-- The front door. Printed: from a text to the bytes printed for it, the first to read. Demand 1: Refusals (when a call refuses, with which number, and what
-- it leaves), Readings (a text is read as it is written). Demand 2: Judging. Demand 3: Optimum. By topic: Listings, Curves (bid curves), Hours (permitted
-- hours), Tries (reading off a plan), TwoLayers (the cells of scratch). Worked: cases computed whole; Ends: both ends of every range.
-- The work behind it. Ranges: the checks by what they mean. FirstCause: the first of a list of checks. Causes, CurveCauses: the causes of each call.
-- Printing, Buffers: what is printed and written. Untouched, Planning, NoStart (a schedule without a start), Forms, Names, Appendix (formula (3) as printed).
pub mod Printed
pub mod Refusals
pub mod Readings
pub mod Judging
pub mod Optimum
pub mod Listings
pub mod Curves
pub mod Hours
pub mod Tries
pub mod TwoLayers
pub mod Worked
pub mod Ends
mod Ranges
mod FirstCause
mod Causes
mod CurveCauses
mod Printing
mod Buffers
mod Untouched
mod Planning
mod NoStart
mod Forms
mod Names
mod Appendix
