-- Lent: what the checks found, in turn, and what the functions below ask of a model. Worked: the best plan, by its profit, and its report. Answering: one
-- call's answer by another's.
pub mod Lent
mod Worked
pub mod Answering
