-- Ranges and Passing: what the checks say as orders of numbers. Causes: the laws of a list of checks. Margins: how much an interval can add.
-- Clocks: the dates that a clock starts from. Cutting: where the months of a horizon are cut. Tries: how many outputs are tried.
pub mod Causes
pub mod Ranges
pub mod Passing
pub mod Margins
pub mod Clocks
pub mod Cutting
pub mod Tries
