-- Walking: the walk by the rules. Intervals: one step of it. Bounds: its totals stay small. Passed: what it says of a schedule that it passed.
-- Counting: what a month of a schedule spends.
pub mod Bounds
pub mod Intervals
pub mod Walking
pub mod Passed
mod Examples
pub mod Shut
pub mod Counting
