-- Leading: the cells that stand in a line. Moving: off, and the better of both. Turned: a cell goes by those that it leads to.
-- Pieces: state by state. Sharing: the two oldest states. Columns: from column to column. Meaning: what a turned cell holds. Walking: from interval to
-- interval. Halving: the earlier half as a case of its own.
pub mod Leading
pub mod Moving
pub mod Turned
pub mod Pieces
pub mod Sharing
pub mod Columns
pub mod Meaning
pub mod Walking
pub mod Halving
