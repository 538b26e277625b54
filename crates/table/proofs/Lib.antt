-- Choosing: the output read off is the plan's. Plans: interval by interval to the whole plan.
pub mod Choosing
pub mod Plans
