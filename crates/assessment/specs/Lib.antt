-- Assessed: the answer. Walking: the walk over a schedule, which the code goes by. Counting: what a month of it spends.
pub mod Types
pub mod Assessed
pub mod Walking
pub mod Counting
