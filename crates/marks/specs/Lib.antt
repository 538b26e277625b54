-- Lines: an interval on, for the cells of a layer. Turning: one interval from a cell, on or off. Passing: line by line. Standing: the cell where a plan
-- stands later on.
pub mod Lines
pub mod Turning
pub mod Passing
pub mod Standing
