-- Optimal: what the best of a case is. Better, Machine, Quarters, Values, Turns: any machine, step by step.
-- Rival, Commit, Outputs, Best: the case as a machine. Split: a best plan cut in two. Within: smaller budgets. Shift: budgets that are not touched.
-- Simulate, Left, Cells, Opening: the machine whose state is a cell. Runs, Valuing: smaller limitations and the outcomes. Ranges: what the checks say.
pub mod Within
pub mod Better
pub mod Machine
pub mod Quarters
pub mod Rival
pub mod Commit
pub mod Ranges
pub mod Outputs
pub mod Best
pub mod Split
pub mod Cut
pub mod Shift
pub mod Simulate
pub mod Watched
pub mod Years
pub mod Left
pub mod Capped
pub mod Cells
pub mod Months
pub mod Opening
pub mod Values
pub mod Turns
pub mod Valuing
pub mod Runs
pub mod Tries
pub mod Optimal
