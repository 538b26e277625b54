-- Printed: what is printed for a text. Causes: when each cause holds of a call's inputs, and the order in which a call gives them. Ranges: each figure of a
-- call and its range; Ends: both ends of each, through the calls. Outcomes: that of a limitation, and its lower run. Scratch: the cells after the work.
-- Tables: a text as a writer of two tables makes it. Sequences: names in some sequence. Twelve: the worked cases. Appendix: a formula as printed.
pub mod Ranges
pub mod Causes
pub mod Outcomes
pub mod Printed
pub mod Scratch
pub mod Tables
pub mod Sequences
pub mod Twelve
pub mod Ends
pub mod Appendix
